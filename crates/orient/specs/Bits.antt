-- What the code reads back of the numbers that it holds as bits, and what its tests of a sign say. Assumes nothing.
use Rattle.std.specs.Prelude.{◌≡◌, refl, Bool, ℕ, zero, suc, ◌+◌, ◌*◌, ◌^◌, ◌≤◌, ◌<◌, ℤ, pos, negsuc, neg_ℤ, ◌+ℤ◌, ◌*ℤ◌}
use Rattle.std.proofs.Common.{sym, subst, ap, ◌∙◌, le_trans, lt_of_le_of_lt, add-le-add, mul-le-mul, arith, lt-ltb, le-ltb, lit<, lit≤, SFits, to_z, of_z, to_z-of_z}
use Rattle.std.specs.Int.Signed.{mag, lt_z}
use Rattle.std.specs.Int.{w64}
use Rattle.laws.specs.Size.{exactly, ◌⊗◌, ◌⊖◌, ◌⊕◌, reread, reads, Held, held, formed, kept, times, plus, called}
use Rattle.laws.specs.Sign.{Sign, sign, ◌or◌}
use Rattle.scene.specs.Limits.{limits, most_points}
use Rattle.scene.specs.declared.Row.{Row}
use Rattle.orient.specs.Terms.{factor, is_plus, tied, orientation, point_at, c0_at, c1_at, positive_at}
use Rattle.orient.specs.Minors.{minor_of, alternating_of, det_of_lines}
use Rattle.orient.specs.Laws.{factor_weight}
use Rattle.orient.specs.Formed.{most_formed, times_size, sum_size, minor_size, alternating_size, det_of_lines_size}
use Rattle.orient.specs.Sizes.{Within, factor_size}
use Rattle.orient.specs.declared.minors.Line.{Line}
use Rattle.orient.specs.declared.Point.{Point}

pub room : {k : ℕ} → k ≤ most_formed → k < 2 ^ 63
room h = lt_of_le_of_lt h (lit< tt)

pub read : {z : ℤ} → SFits w64 z → reread z ≡ z
read h = to_z-of_z {w = w64} h

-- ---- the fields of a row, handed on four at a time to `cross`

pub record RowFits (r : Row) : Type 0 where
  pub x : SFits w64 r.x
  pub y : SFits w64 r.y
  pub z : SFits w64 r.z
  pub w : SFits w64 r.w

module _ {a b c d : ℤ} (p : SFits w64 a) (q : SFits w64 b) (s : SFits w64 c) (t : SFits w64 d) where
  four_read : {X : Type 0} (F : ℤ → ℤ → ℤ → ℤ → X) → F (reread a) (reread b) (reread c) (reread d) ≡ F a b c d
  four_read F i = F (read p i) (read q i) (read s i) (read t i)

  pub minor_ask : minor_size a b c d ≤ most_formed → minor_size (reread a) (reread b) (reread c) (reread d) ≤ most_formed
  minor_ask h = subst (λ (n : ℕ). n ≤ most_formed) (sym (four_read minor_size)) h

  pub crossed : {r : ℤ} → mag r < 2 ^ 63 → r ≡ minor_of (reread a) (reread b) (reread c) (reread d) → reread r ≡ minor_of a b c d
  crossed ok e = called ok (e ∙ four_read minor_of)

-- ---- a row and three minors, handed on to `three`

module _ {p q r : Row} (f : RowFits p) (g : RowFits q) (h : RowFits r) where
  pub triple_product_read : {x y z : ℤ} {X : Type 0} (F : ℤ → ℤ → ℤ → ℤ → ℤ → ℤ → X) →
      mag x < 2 ^ 63 → x ≡ minor_of (reread q.y) (reread q.z) (reread r.y) (reread r.z) →
      mag y < 2 ^ 63 → y ≡ minor_of (reread q.x) (reread q.z) (reread r.x) (reread r.z) →
      mag z < 2 ^ 63 → z ≡ minor_of (reread q.x) (reread q.y) (reread r.x) (reread r.y) →
      F (reread p.x) (reread x) (reread p.y) (reread y) (reread p.z) (reread z)
      ≡ F p.x (minor_of q.y q.z r.y r.z) p.y (minor_of q.x q.z r.x r.z) p.z
      (minor_of q.x q.y r.x r.y)
  triple_product_read F xo xe yo ye zo ze i =
      F (read f.x i) (crossed g.y g.z h.y h.z xo xe i) (read f.y i) (crossed g.x g.z h.x h.z yo ye i)
      (read f.z i) (crossed g.x g.y h.x h.y zo ze i)

-- ---- the fields of two lines, six at a time to `three`

abbrev pub SixFit : ℤ → ℤ → ℤ → ℤ → ℤ → ℤ → Type 0
SixFit a b c d e f = SFits w64 a × SFits w64 b × SFits w64 c × SFits w64 d × SFits w64 e × SFits w64 f

six_read : {X : Type 0} {a b c d e f : ℤ} (F : ℤ → ℤ → ℤ → ℤ → ℤ → ℤ → X) → SixFit a b c d e f →
    F (reread a) (reread b) (reread c) (reread d) (reread e) (reread f) ≡ F a b c d e f
six_read F s i = F (read s.0 i) (read s.1 i) (read s.2 i) (read s.3 i) (read s.4 i) (read s.5 i)

pub record LineFits (l : Line) : Type 0 where
  pub xy : SFits w64 l.xy
  pub xz : SFits w64 l.xz
  pub xw : SFits w64 l.xw
  pub yz : SFits w64 l.yz
  pub yw : SFits w64 l.yw
  pub zw : SFits w64 l.zw

abbrev pub Asks : ℤ → ℤ → ℤ → ℤ → ℤ → ℤ → Type 0
Asks a b c d e f = alternating_size (reread a) (reread b) (reread c) (reread d) (reread e) (reread f) ≤ most_formed

abbrev pub Gives : ℤ → ℤ → ℤ → ℤ → ℤ → ℤ → ℤ → Type 0
Gives r a b c d e f = r ≡ alternating_of (reread a) (reread b) (reread c) (reread d) (reread e) (reread f)

pub alternating_ask : {a b c d e f : ℤ} → SixFit a b c d e f → alternating_size a b c d e f ≤ most_formed → Asks a b c d e f
alternating_ask six h = subst (λ (n : ℕ). n ≤ most_formed) (sym (six_read alternating_size six)) h

pub three_got : {r a b c d e f : ℤ} → SixFit a b c d e f → mag r < 2 ^ 63 → Gives r a b c d e f → reread r ≡ alternating_of a b c d e f
three_got six ok g = called ok (g ∙ six_read alternating_of six)

three_held : {r a b c d e f : ℤ} → SixFit a b c d e f → alternating_size a b c d e f ≤ most_formed → Gives r a b c d e f →
    Held (alternating_size a b c d e f) r (alternating_of a b c d e f)
three_held {a = a} {b = b} {c = c} {d = d} {e = e} {f = f} six h g =
    formed (g ∙ six_read alternating_of six) (exactly a ⊗ exactly b ⊖ exactly c ⊗ exactly d ⊕ exactly e ⊗ exactly f) (room h)

-- the two halves of `meet`: what each call of `three` asks, and their sum
module _ {l m : Line} (p : LineFits l) (q : LineFits m) (h : det_of_lines_size l m ≤ most_formed) where
  one : SixFit l.xy m.zw l.xz m.yw l.xw m.yz
  one = (p.xy, q.zw, p.xz, q.yw, p.xw, q.yz)

  two : SixFit l.yz m.xw l.yw m.xz l.zw m.xy
  two = (p.yz, q.xw, p.yw, q.xz, p.zw, q.xy)

  pub ask_one : Asks l.xy m.zw l.xz m.yw l.xw m.yz
  ask_one = alternating_ask one (omega arith)

  pub ask_two : Asks l.yz m.xw l.yw m.xz l.zw m.xy
  ask_two = alternating_ask two (omega arith)

  pub met : {r s : ℤ} → Gives r l.xy m.zw l.xz m.yw l.xw m.yz → Gives s l.yz m.xw l.yw m.xz l.zw m.xy →
      Held (det_of_lines_size l m) (reread r +ℤ reread s) (det_of_lines l m)
  met g k = plus (three_held one (omega arith) g) (three_held two (omega arith) k) (room h)

-- ---- the factor, by the test of the weight's bits

pub factor_zero : {w : ℤ} → SFits w64 w → of_z w64 w ≡ 0 → factor w ≡ pos 1
factor_zero fits z = ap factor (sym (read fits) ∙ ap (to_z w64) z)

pub factor_other : {w : ℤ} → (of_z w64 w ≡ 0 → ⊥) → factor w ≡ w
factor_other {w} h = factor_weight w (λ e. h (ap (of_z w64) e))

-- ---- a product that `times` gave, and a sum that `sum` gave, of numbers that locals hold

module _ {A B : ℕ} {u v a b : ℤ} (p : Held A u a) (q : Held B v b) where
  pub times_ask : A * B ≤ most_formed → times_size (reread u) (reread v) ≤ most_formed
  times_ask h = rw (kept p, kept q) (le_trans (mul-le-mul p.size q.size) h)

  pub multiplied : A * B ≤ most_formed → {r : ℤ} → r ≡ reread u *ℤ reread v → Held (A * B) r (a *ℤ b)
  multiplied h e = let t = times p q (room h) in record { same = e ∙ t.same; size = t.size; fits = t.fits }

  module _ {C : ℕ} {w c : ℤ} (t : Held C w c) where
    pub sum_ask : A + B + C ≤ most_formed → sum_size (reread u) (reread v) (reread w) ≤ most_formed
    sum_ask h = rw (kept p, kept q, kept t) (le_trans (add-le-add (add-le-add p.size q.size) t.size) h)

    pub summed : {r : ℤ} → mag r < 2 ^ 63 → r ≡ reread u +ℤ reread v +ℤ reread w → reread r ≡ a +ℤ b +ℤ c
    summed ok e = called ok (e ∙ (λ i. kept p i +ℤ kept q i +ℤ kept t i))

-- ---- the shift of a point, from what `factor` and `times` gave

module _ {p : Point} (v : Within limits p) where
  pub number : Held (most_points limits) p.n p.n
  number = held v.n (lit< tt)

  module _ {r : ℤ} (e : r ≡ factor (reread p.w)) where
    pub factor_held : Held limits.most_weight r (factor p.w)
    factor_held = formed (e ∙ ap factor (reads v.w (lit< tt))) (factor_size (lit≤ tt) v.w) (lit< tt)

-- ---- a test of two numbers, by their bits

pub less_read : {x y : ℤ} {b : Bool} → SFits w64 x → SFits w64 y → lt_z (reread x) (reread y) ≡ b → b ≡ lt_z x y
less_read p q e = sym e ∙ (λ i. lt_z (read p i) (read q i))

-- ---- the tests of a sign

lead_at : (t : ℤ) (rest : Sign) → (t ≡ pos 0 → ⊥) → lt_z (pos 0) t ≡ is_plus (sign t or rest)
lead_at (pos zero) rest h = absurd (h refl)
lead_at (pos (suc n)) rest h = lt-ltb 0 (suc n) (omega arith)
lead_at (negsuc n) rest h = refl

-- the result r of a call is t. Its bits are not 0: the sign is t's
pub decides : {r t : ℤ} (rest : Sign) → mag r < 2 ^ 63 → r ≡ t → (of_z w64 r ≡ 0 → ⊥) → lt_z (pos 0) (reread r) ≡ is_plus (sign t or rest)
decides {r} {t} rest ok e h = ap (lt_z (pos 0)) (called ok e) ∙ lead_at t rest (λ z. h (ap (of_z w64) (e ∙ z)))

-- its bits are 0: the sign is said by what comes after
pub passes_on : {r t : ℤ} (rest : Sign) → mag r < 2 ^ 63 → r ≡ t → of_z w64 r ≡ 0 → sign t or rest ≡ rest
passes_on {r} {t} rest ok e z = rw (sym (called ok e), z)

-- so c0 says that of four points, unless it is zero
pub sign_first : (row : ℕ → Row) (i j k m : ℕ) {t : ℤ} → mag t < 2 ^ 63 → t ≡ c0_at row i j k m →
    (of_z w64 t ≡ 0 → ⊥) → lt_z (pos 0) (reread t) ≡ positive_at row i j k m
unfolding positive_at orientation
sign_first row i j k m ok e h = decides _ ok e h

pub zero_bits : {d : ℤ} → mag d < 2 ^ 63 → of_z w64 d ≡ 0 → d ≡ pos 0
zero_bits ok z = sym (called ok refl) ∙ ap (to_z w64) z

-- the same of a number that is minus the first that is not zero
minus_below : (z : ℤ) → lt_z (neg_ℤ z) (pos 0) ≡ lt_z (pos 0) z
minus_below (pos zero) = refl
minus_below (pos (suc n)) = sym (lt-ltb 0 (suc n) (omega arith))
minus_below (negsuc n) = le-ltb (suc n) 0 (omega arith)

turned_decides : (z : ℤ) {t : ℤ} (rest : Sign) → mag t < 2 ^ 63 → t ≡ neg_ℤ z → (of_z w64 t ≡ 0 → ⊥) →
    lt_z (reread t) (pos 0) ≡ is_plus (sign z or rest)
turned_decides z rest ok e h =
    ap (λ (t : ℤ). lt_z t (pos 0)) (called ok e) ∙ minus_below z ∙ lead_at z rest (λ o. h (ap (of_z w64) (e ∙ ap neg_ℤ o)))

-- and then the tie says it
pub tie_tells : (row : ℕ → Row) (a b c d : ℕ) → c0_at row a b c d ≡ pos 0 → {r : Bool} →
    r ≡ is_plus (tied (point_at row a) (point_at row b) (point_at row c) (point_at row d)) → r ≡ positive_at row a b c d
unfolding positive_at orientation
tie_tells row a b c d z e = e ∙ sym (rw z)

-- c1 first of all
pub tie_turned : (row : ℕ → Row) (i j k m : ℕ) {t : ℤ} → c0_at row i j k m ≡ pos 0 → mag t < 2 ^ 63 → t ≡ neg_ℤ (c1_at row i j k m) →
    (of_z w64 t ≡ 0 → ⊥) → lt_z (reread t) (pos 0) ≡ positive_at row i j k m
tie_turned row i j k m z ok e h = tie_tells row i j k m z (turned_decides (c1_at row i j k m) _ ok e h)

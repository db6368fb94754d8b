-- What the planes alone tell of a point: the faces that it lies above by c0, and those in whose planes it lies, which the shift settles.
-- Assumes nothing.
use Rattle.std.specs.Prelude.{◌≡◌, refl, Bool, true, false, not, ◌&&◌, ◌||◌, ℕ, zero, suc, ◌+◌, ◌-◌, ◌*◌, ◌^◌, ◌≤◌, ◌<◌, eqb, ℤ, pos, negsuc, neg_ℤ}
use Rattle.std.proofs.Math.Path.{sym, ap}
use Rattle.std.proofs.Common.{◌∙◌, le-ltb, eqb-true, pow_mono}
use Rattle.std.proofs.lemmas.Bool.{false≢true}
use native.Mathlib.Omega.{arith}
use Rattle.std.specs.Int.Signed.{lt_z}
use Rattle.laws.specs.Mask.{digit, mask_of, mask_lt}
use Rattle.laws.specs.Sign.{Sign, sign, ◌or◌}
use Rattle.scene.specs.Limits.{limits}
use Rattle.scene.specs.declared.Row.{Row}
use Rattle.scene.specs.declared.Face.{Face}
use Rattle.orient.specs.Laws.{terms12}
use Rattle.orient.specs.Terms.{tied, is_plus, orientation, point_at, c0_at, positive_at}
use Rattle.pierce_masks.specs.Faces.{mask_by}
use Rattle.pierce_masks.specs.declared.Mask.{Mask}
use Rattle.survey_sides.specs.Candidates.{kept, AtEach, kept_mask, kept_none, each_mask}
use Rattle.survey_sides.specs.Sides.{above, sides_of, masks_by, first64, Ready, ReadyAll, ready_low, ready_high}
use Rattle.survey_sides.specs.Slopes.{is_zero}
use Rattle.survey_sides.specs.PlaneAt.{InPlane}
use Rattle.survey_sides.specs.declared.digits.Digits.{Digits}
use Rattle.survey_sides.specs.declared.digits.PointDigits.{PointDigits}

-- c0 of a face's corners and a point, turned as the plane is
abbrev pub negated_at : (ℕ → Row) → ℕ → Face → ℤ
negated_at row t f = c0_at row f.q f.p f.r t

-- above the face by its plane alone, and in its plane
abbrev pub leads : (ℕ → Row) → ℕ → Face → Bool
leads row t f = lt_z (negated_at row t f) (pos 0)

abbrev pub flat : (ℕ → Row) → ℕ → Face → Bool
flat row t f = is_zero (negated_at row t f)

pub record AreDigits (row : ℕ → Row) (face : ℕ → Face) (first count t : ℕ) (p : Digits) : Type 0 where
  pub above : p.above ≡ mask_by (leads row t) face first count
  pub tied : p.tied ≡ mask_by (flat row t) face first count

pub record AreDigitsOf (row : ℕ → Row) (face : ℕ → Face) (first count t : ℕ) (m : PointDigits) : Type 0 where
  pub low : AreDigits row face first (first64 count) t m.low
  pub high : AreDigits row face (first + 64) (count - 64) t m.high

abbrev pub has_ties : PointDigits → Bool
has_ties m = not (eqb m.low.tied 0) || not (eqb m.high.tied 0)

abbrev pub above_of : PointDigits → Mask
above_of m = record { low = m.low.above; high = m.high.above }

-- a digit of a face in whose plane the point lies, in a table of the planes of the faces above base
pub record Tied (row : ℕ → Row) (face : ℕ → Face) (plane : ℕ → Row) (base first t k : ℕ) : Type 0 where
  pub small : k < 64
  pub number : (first + 1 + k ≤ 2 * limits.most_faces) × (first + 1 + k ≤ base + limits.most_faces)
  pub ready : Ready row face plane t (first + 1 + k)
  pub within : InPlane row (face (first + 1 + k)) t

-- of a word of such faces, those that the point lies above by the shift
abbrev pub settled_of : (ℕ → Row) → (ℕ → Face) → (first t w : ℕ) → ℕ
settled_of row face first t = kept (λ k. above row t (face (first + 1 + k)))

-- ---- one face

-- a number that is not zero says its sign; where it is zero the rest does
split : (rest : Sign) (z : ℤ) →
    digit (is_plus (sign z or rest)) ≡ digit (lt_z (neg_ℤ z) (pos 0)) + digit (is_zero (neg_ℤ z) && is_plus (sign z or rest))
split rest (pos zero) = let e : digit (is_plus rest) ≡ 0 + digit (is_plus rest) = omega arith in e
split rest (pos (suc n)) = refl
split rest (negsuc n) = sym (rw (le-ltb (suc n) 0 (omega arith)))

module _ (row : ℕ → Row) (t : ℕ) (f : Face) where
  abbrev c : ℤ
  c = c0_at row f.p f.q f.r t

  negated_is : negated_at row t f ≡ neg_ℤ c
  negated_is = (terms12 (point_at row f.p) (point_at row f.q) (point_at row f.r) (point_at row t)).e0

  pub flat_in : flat row t f ≡ true → InPlane row f t
  flat_in e = by c (sym (ap is_zero negated_is) ∙ e)
    where
      by : (z : ℤ) → is_zero (neg_ℤ z) ≡ true → z ≡ pos 0
      by (pos zero) e = refl
      by (pos (suc n)) e = absurd (false≢true e)
      by (negsuc n) e = absurd (false≢true e)

  digit_split : digit (above row t f) ≡ digit (leads row t f) + digit (flat row t f && above row t f)
  unfolding above positive_at orientation
  digit_split =
      split (tied (point_at row f.p) (point_at row f.q) (point_at row f.r) (point_at row t)) c
      ∙ sym (λ i. digit (lt_z (negated_is i) (pos 0)) + digit (is_zero (negated_is i) && above row t f))

-- ---- a word

-- a digit of the first is one of two others: so are the words
mask_split : (g h k : ℕ → Bool) (n : ℕ) → ((j : ℕ) → j < n → digit (g j) ≡ digit (h j) + digit (k j)) → mask_of g n ≡ mask_of h n + mask_of k n
unfolding mask_of
mask_split g h k zero e = refl
mask_split g h k (suc n) e =
    let d = ap (λ (x : ℕ). x * 2 ^ n) (e n (omega arith)) in
    omega (arith, d, mask_split g h k n (λ j b. e j (omega arith)))

module _ (row : ℕ → Row) (face : ℕ → Face) (first count t : ℕ) (few : count ≤ 64) {w v : ℕ} (p : w ≡ mask_by (leads row t) face first count)
    (q : v ≡ mask_by (flat row t) face first count) where
  pub word_settled : {r : ℕ} → r ≡ settled_of row face first t v → w + r ≡ mask_by (above row t) face first count
  word_settled e =
      (λ i. p i + (e ∙ kept_mask (λ k. above row t (face (first + 1 + k))) (λ k. flat row t (face (first + 1 + k))) count few q) i)
      ∙ sym (mask_split _ _ _ count (λ j b. digit_split row t (face (first + 1 + j))))

  pub settled_fits : {r : ℕ} → r ≡ settled_of row face first t v → w + r < 2 ^ 64
  settled_fits e =
      omega (arith, word_settled e, mask_lt (λ k. above row t (face (first + 1 + k))) count, pow_mono few)

  pub word_clear : v ≡ 0 → w ≡ mask_by (above row t) face first count
  word_clear z = omega (arith, word_settled (sym (ap (settled_of row face first t) z ∙ kept_none (λ k. above row t (face (first + 1 + k))))))

  pub word_tied : (plane : ℕ → Row) (base : ℕ) →
      ((k : ℕ) → k < count → (first + 1 + k ≤ 2 * limits.most_faces) × (first + 1 + k ≤ base + limits.most_faces)) →
      ReadyAll row face plane t first count → AtEach (Tied row face plane base first t) v
  word_tied plane base l h =
      each_mask (Tied row face plane base first t) (λ k. flat row t (face (first + 1 + k))) count few q
      (λ k b e. record { small = omega arith; number = l k b; ready = h k b; within = flat_in row t (face (first + 1 + k)) e })

-- ---- both words

-- as they are told: one word holds all, or the second goes on from there
module _ (row : ℕ → Row) (face : ℕ → Face) (first count t : ℕ) {p : Digits} where
  longer : {m n : ℕ} → m ≡ n → AreDigits row face first m t p → AreDigits row face first n t p
  longer e d = record {
    above = d.above ∙ ap (mask_by (leads row t) face first) e;
    tied = d.tied ∙ ap (mask_by (flat row t) face first) e;
  }

  pub told_one : count ≤ 64 → AreDigits row face first count t p →
      AreDigitsOf row face first count t (record { low = p; high = record { above = 0; tied = 0 } })
  unfolding mask_of
  told_one h d =
      let z : 0 ≡ count - 64 = omega arith in
      record {
        low = longer (omega arith) d;
        high = record { above = ap (mask_by (leads row t) face (first + 64)) z; tied = ap (mask_by (flat row t) face (first + 64)) z };
      }

  pub told_two : {q : Digits} → 64 < count → AreDigits row face first 64 t p → AreDigits row face (first + 64) (count - 64) t q →
      AreDigitsOf row face first count t (record { low = p; high = q })
  told_two h d e = record { low = longer (omega arith) d; high = e }

neither : (a b : Bool) → (not a || not b) ≡ false → (a ≡ true) × (b ≡ true)
neither true true e = (refl, refl)
neither true false e = absurd (false≢true (sym e))
neither false b e = absurd (false≢true (sym e))

module _ (row : ℕ → Row) (face : ℕ → Face) (first count t : ℕ) (most : count ≤ limits.most_faces) {m : PointDigits}
    (h : AreDigitsOf row face first count t m) where
  low_few : first64 count ≤ 64
  low_few = omega arith

  high_few : count - 64 ≤ 64
  high_few = omega arith

  module _ {x y : ℕ} (ex : x ≡ settled_of row face first t m.low.tied) (ey : y ≡ settled_of row face (first + 64) t m.high.tied) where
    pub masks_settled : ◌≡◌ {A = Mask} (record { low = m.low.above + x; high = m.high.above + y }) (sides_of row face first count t)
    unfolding masks_by
    masks_settled = λ i. record {
      low = word_settled row face first (first64 count) t low_few h.low.above h.low.tied ex i;
      high = word_settled row face (first + 64) (count - 64) t high_few h.high.above h.high.tied ey i;
    }

    pub low_fits : m.low.above + x < 2 ^ 64
    low_fits = settled_fits row face first (first64 count) t low_few h.low.above h.low.tied ex

    pub high_fits : m.high.above + y < 2 ^ 64
    high_fits = settled_fits row face (first + 64) (count - 64) t high_few h.high.above h.high.tied ey

  pub masks_clear : has_ties m ≡ false → above_of m ≡ sides_of row face first count t
  unfolding masks_by
  masks_clear e =
      let z = neither (eqb m.low.tied 0) (eqb m.high.tied 0) e in
      λ i. record {
        low = word_clear row face first (first64 count) t low_few h.low.above h.low.tied (eqb-true _ 0 z.0) i;
        high = word_clear row face (first + 64) (count - 64) t high_few h.high.above h.high.tied (eqb-true _ 0 z.1) i;
      }

  module _ (plane : ℕ → Row) (within : first + count ≤ 2 * limits.most_faces) (ready : ReadyAll row face plane t first count) where
    pub low_tied : AtEach (Tied row face plane first first t) m.low.tied
    low_tied = word_tied row face first (first64 count) t low_few h.low.above h.low.tied plane first
        (λ k b. (omega arith, omega arith)) (ready_low row face plane first count ready (first64 count) (omega arith))

    pub high_tied : AtEach (Tied row face plane first (first + 64) t) m.high.tied
    high_tied = word_tied row face (first + 64) (count - 64) t high_few h.high.above h.high.tied plane first
        (λ k b. (omega arith, omega arith)) (ready_high row face plane first count ready)

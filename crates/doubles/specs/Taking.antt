-- A vertex is taken exactly when its four doubles are whole numbers within the limits, its weight not 0; and then the row is theirs.
-- Assumes nothing.
use Rattle.std.specs.Prelude.{◌≡◌, ℕ, zero, suc, ◌≤◌, Bool, true, false, cond, T, leb, ◌↔◌, ℤ, pos, negsuc, ◌≢◌, nat_le, unsigned_abs, refl, Float, Result, Ok, Err}
use Rattle.std.proofs.Common.{sym, ap, ◌∙◌, subst, arith, le-leb, leb→le}
use Rattle.scene.specs.Limits.{limits}
use Rattle.scene.specs.Arrays.{RowWithin}
use Rattle.scene.specs.declared.Refusal.TheVariants.{Coordinate, Weight}
use Rattle.scene.specs.declared.Row.{Row}
use Rattle.doubles.specs.Whole.{Is, is_whole, value_of, whole_is, is_whole_law}
use Rattle.doubles.specs.Taken.{reading_of, coordinate_of, weighed, weight_of, fault_at, taken_by, taken_of}
use Rattle.doubles.specs.declared.Fault.{Fault}
use Rattle.doubles.specs.declared.Vertex.{Vertex}
use Rattle.doubles.specs.declared.whole.Unfit.{Unfit}
use Rattle.doubles.specs.declared.whole.Unfit.TheVariants.{NotWhole, Outside}

-- the four doubles are the row's numbers
pub record Are (v : Vertex) (r : Row) : Type 0 where
  pub x : Is v.x r.x
  pub y : Is v.y r.y
  pub z : Is v.z r.z
  pub w : Is v.w r.w

-- the whole numbers that its four doubles are
abbrev pub row_of : Vertex → Row
row_of v = record { x = value_of v.x; y = value_of v.y; z = value_of v.z; w = value_of v.w }

-- a point of a scene: four whole numbers within the limits. Its weight may be 0, as the far point's may.
pub record IsPoint (v : Vertex) : Type 0 where
  pub are : Are v (row_of v)
  pub within : RowWithin limits (row_of v)

-- and these are within the limits of a vertex
pub record Takes (v : Vertex) (r : Row) : Type 0 where
  pub are : Are v r
  pub within : RowWithin limits r
  pub weighty : r.w ≡ pos 0 → ⊥

-- ---- one number

read_is : (x : Float) (most : ℕ) (z : ℤ) → reading_of x most ≡ Ok z → Is x z × (unsigned_abs z ≤ most)
read_is x most z = go (is_whole x) (nat_le (unsigned_abs (value_of x)) most) (λ t. t) (λ t. t)
  where
    go : (a b : Bool) → (T a → T (is_whole x)) → (T b → T (nat_le (unsigned_abs (value_of x)) most))
        → cond a (cond b (Ok (value_of x)) (Err Outside)) (Err NotWhole) ≡ Ok z → Is x z × (unsigned_abs z ≤ most)
    go true true f g e =
        let v : value_of x ≡ z = cc in
        (subst (Is x) v (whole_is x (f tt)), subst (λ (k : ℤ). unsigned_abs k ≤ most) v (leb→le (unsigned_abs (value_of x)) most (g tt)))
    go true false f g e = let k : ◌≡◌ {A = ℕ} 0 1 = cc in absurd (omega arith)
    go false b f g e = let k : ◌≡◌ {A = ℕ} 0 1 = cc in absurd (omega arith)

is_read : (x : Float) (most : ℕ) (z : ℤ) → Is x z → unsigned_abs z ≤ most → reading_of x most ≡ Ok z
is_read x most z v h =
    let p = (is_whole_law x z v).0 in
    let q = (is_whole_law x z v).1 in
    let l : leb (unsigned_abs (value_of x)) most ≡ true = ap (λ (k : ℤ). leb (unsigned_abs k) most) q ∙ le-leb (unsigned_abs z) most h in
    (λ i. cond (p i) (cond (l i) (Ok (q i)) (Err Outside)) (Err NotWhole))

weighed_is : (n : Result ℤ Unfit) (z : ℤ) → weighed n ≡ Ok z → (n ≡ Ok z) × (z ≢ pos 0)
weighed_is (Err f) z e = let k : ◌≡◌ {A = ℕ} 0 1 = cc in absurd (omega arith)
weighed_is (Ok (pos zero)) z e = let k : ◌≡◌ {A = ℕ} 0 1 = cc in absurd (omega arith)
weighed_is (Ok (pos (suc n))) z e = (e, λ h. let k : suc n ≡ 0 = cc in omega arith)
weighed_is (Ok (negsuc n)) z e = (e, λ h. let k : ◌≡◌ {A = ℕ} 0 1 = cc in omega arith)

weighty_is : (z : ℤ) → (z ≢ pos 0) → weighed (Ok z) ≡ Ok z
weighty_is (pos zero) h = absurd (h refl)
weighty_is (pos (suc n)) h = refl
weighty_is (negsuc n) h = refl

-- ---- the four

record Four (a b c d : Result ℤ Unfit) (q : Row) : Type 0 where
  x : a ≡ Ok q.x
  y : b ≡ Ok q.y
  z : c ≡ Ok q.z
  w : d ≡ Ok q.w

no : {X : Type 0} (f : Fault) (q : Row) → ◌≡◌ {A = Result Row Fault} (Err f) (Ok q) → X
no f q h = let z : ◌≡◌ {A = ℕ} 0 1 = cc in absurd (omega arith)

four : (a b c d : Result ℤ Unfit) (q : Row) → taken_by a b c d ≡ Ok q → Four a b c d q
four (Ok x) (Ok y) (Ok z) (Ok w) q e = record { x = cc; y = cc; z = cc; w = cc }
four (Ok x) (Ok y) (Ok z) (Err f) q e = no (fault_at f 4 (Weight 4)) q e
four (Ok x) (Ok y) (Err f) d q e = no (fault_at f 3 (Coordinate 3)) q e
four (Ok x) (Err f) c d q e = no (fault_at f 2 (Coordinate 2)) q e
four (Err f) b c d q e = no (fault_at f 1 (Coordinate 1)) q e

module _ (v : Vertex) (r : Row) where
  pub taken_takes : taken_of v ≡ Ok r → Takes v r
  taken_takes e =
      let f = four (coordinate_of v.x) (coordinate_of v.y) (coordinate_of v.z) (weight_of v.w) r e in
      let a = read_is v.x limits.most_coordinate r.x f.x in
      let b = read_is v.y limits.most_coordinate r.y f.y in
      let c = read_is v.z limits.most_coordinate r.z f.z in
      let n = weighed_is (reading_of v.w limits.most_weight) r.w f.w in
      let d = read_is v.w limits.most_weight r.w n.0 in
      record {
        are = record { x = a.0; y = b.0; z = c.0; w = d.0 };
        within = record { x = a.1; y = b.1; z = c.1; w = d.1 };
        weighty = n.1;
      }

  pub takes_taken : Takes v r → taken_of v ≡ Ok r
  takes_taken t =
      let a = is_read v.x limits.most_coordinate r.x t.are.x t.within.x in
      let b = is_read v.y limits.most_coordinate r.y t.are.y t.within.y in
      let c = is_read v.z limits.most_coordinate r.z t.are.z t.within.z in
      let d = ap weighed (is_read v.w limits.most_weight r.w t.are.w t.within.w) ∙ weighty_is r.w t.weighty in
      (λ i. taken_by (a i) (b i) (c i) (d i))

  pub taken_exactly : (taken_of v ≡ Ok r) ↔ Takes v r
  taken_exactly = (taken_takes, takes_taken)

  -- ---- a point is its row's, and what is taken is a point

  pub row_of_law : Are v r → row_of v ≡ r
  row_of_law h =
      let x = (is_whole_law v.x r.x h.x).1 in
      let y = (is_whole_law v.y r.y h.y).1 in
      let z = (is_whole_law v.z r.z h.z).1 in
      let w = (is_whole_law v.w r.w h.w).1 in
      (λ i. record { x = x i; y = y i; z = z i; w = w i })

  pub are_point : Are v r → RowWithin limits r → IsPoint v
  are_point h b =
      record {
        are = subst (Are v) (sym (row_of_law h)) h;
        within = subst (RowWithin limits) (sym (row_of_law h)) b;
      }

  pub taken_point : taken_of v ≡ Ok r → IsPoint v
  taken_point e = let t = taken_takes e in are_point t.are t.within

-- A number that its field cannot hold is written as one that every limit answers alike, and a number within the limits is written as it is:
-- coordinates, weights and corners of any length are judged as they stand in the text. Assumes nothing.
use Rattle.std.specs.Prelude.{ℕ, zero, suc, ◌<◌, ◌≤◌, ◌≡◌, refl, Bool, true, false, ◌&&◌, ℤ, pos, negsuc, nat_abs, leb}
use Rattle.std.proofs.Common.{sym, ap, ◌∙◌, arith}
use Rattle.std.proofs.Math.Decide.{dec_lt}
use Rattle.std.proofs.lemmas.Bool.{lt-leb}
use Rattle.scene.specs.Limits.{limits, within}
use Rattle.off_items.specs.Numbers.{made, at_most}
use Rattle.off_items.specs.Laws.{at_most_low, at_most_high}
use Rattle.off_solids.specs.Fitted.{nearest, fitted_row, fitted_face}
use Rattle.scene.specs.declared.Row.{Row}
use Rattle.scene.specs.declared.Face.{Face}

none : (b : Bool) → (b && false) ≡ false
none true = refl
none false = refl

-- a limit below `most` answers n and the lesser of the two alike
pub held_within : (low high most n : ℕ) → high < most → within low high (at_most most n) ≡ within low high n
unfolding within
held_within low high most n h = by (dec_lt most n)
  where
    by : Dec (most < n) → within low high (at_most most n) ≡ within low high n
    by (yes k) =
        let e : at_most most n ≡ most = at_most_high most n (omega arith) in
        ap (within low high) e
        ∙ (ap (λ (b : Bool). leb low most && b) (lt-leb most high (omega arith)) ∙ none (leb low most))
        ∙ sym (ap (λ (b : Bool). leb low n && b) (lt-leb n high (omega arith)) ∙ none (leb low n))
    by (no k) = ap (within low high) (at_most_low most n (omega arith))

held_low : (high most n : ℕ) → high < most → leb (at_most most n) high ≡ leb n high
held_low high most n h = by (dec_lt most n)
  where
    by : Dec (most < n) → leb (at_most most n) high ≡ leb n high
    by (yes k) =
        let e : at_most most n ≡ most = at_most_high most n (omega arith) in
        ap (λ (m : ℕ). leb m high) e ∙ lt-leb most high (omega arith) ∙ sym (lt-leb n high (omega arith))
    by (no k) = ap (λ (m : ℕ). leb m high) (at_most_low most n (omega arith))

-- the size of a number that was held
made_size : (b : Bool) (n : ℕ) → nat_abs (made b n) ≡ n
made_size false n = refl
made_size true zero = refl
made_size true (suc n) = refl

nearest_size : (most : ℕ) (z : ℤ) → nat_abs (nearest most z) ≡ at_most most (nat_abs z)
nearest_size most (pos n) = refl
nearest_size most (negsuc n) = made_size true (at_most most (suc n))

nearest_same : (most : ℕ) (z : ℤ) → nat_abs z ≤ most → nearest most z ≡ z
nearest_same most (pos n) h = ap pos (at_most_low most n h)
nearest_same most (negsuc n) h = ap (made true) (at_most_low most (suc n) h)

-- ---- refusals 5, 6, 14 and 7: each test of a field is the test of the number

pub coordinate_held : (z : ℤ) → leb (nat_abs (nearest 32767 z)) limits.most_coordinate ≡ leb (nat_abs z) limits.most_coordinate
coordinate_held z =
    ap (λ (n : ℕ). leb n limits.most_coordinate) (nearest_size 32767 z) ∙ held_low limits.most_coordinate 32767 (nat_abs z) (omega arith)

pub weight_held : (least : ℕ) (z : ℤ) →
    within least limits.most_weight (nat_abs (nearest 127 z)) ≡ within least limits.most_weight (nat_abs z)
weight_held least z =
    ap (within least limits.most_weight) (nearest_size 127 z) ∙ held_within least limits.most_weight 127 (nat_abs z) (omega arith)

pub corner_held : (v n : ℕ) → v ≤ limits.most_vertices → within 1 v (at_most 255 n) ≡ within 1 v n
corner_held v n h = held_within 1 v 255 n (omega arith)

-- ---- what is within the limits is written as it is

pub row_same : (r : Row) → nat_abs r.x ≤ limits.most_coordinate → nat_abs r.y ≤ limits.most_coordinate →
    nat_abs r.z ≤ limits.most_coordinate → nat_abs r.w ≤ limits.most_weight → fitted_row r ≡ r
row_same r hx hy hz hw =
    let x = nearest_same 32767 r.x (omega arith) in
    let y = nearest_same 32767 r.y (omega arith) in
    let z = nearest_same 32767 r.z (omega arith) in
    let w = nearest_same 127 r.w (omega arith) in
    λ i. record { x = x i; y = y i; z = z i; w = w i }

pub face_same : (f : Face) → f.p ≤ limits.most_vertices → f.q ≤ limits.most_vertices → f.r ≤ limits.most_vertices → fitted_face f ≡ f
face_same f hp hq hr =
    let p = at_most_low 255 f.p (omega arith) in
    let q = at_most_low 255 f.q (omega arith) in
    let r = at_most_low 255 f.r (omega arith) in
    λ i. record { p = p i; q = q i; r = r i }

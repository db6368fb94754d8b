-- What the code reads of a vertex and of a face is what the text denotes. Assumes nothing.
use Rattle.std.specs.Prelude.{ℕ, zero, suc, ◌+◌, ◌*◌, ◌<◌, ◌≤◌, ◌≡◌, List, Bool, true, false, cond, ℤ, pos}
use Rattle.std.proofs.Math.Path.{sym, ap}
use Rattle.std.proofs.Common.{ap₂, ◌∙◌, arith, add-one, eq-eqb, ne_eqb}
use Rattle.scene.specs.declared.Row.{Row}
use Rattle.scene.specs.declared.Face.{Face}
use Rattle.off_items.specs.Items.{start_of, end_of, after}
use Rattle.off_items.specs.Numbers.{made, minus_at, size_of, number_from, size_from, largest, at_most}
use Rattle.off_form.specs.Form.{numbers_of, vertices_of}
use Rattle.off_solids.specs.Solid.{past, weight_from, row_from, row_of, corner_from, corners_from, face_of, told_of, point_of}
use Rattle.off_solids.specs.Fitted.{nearest, fitted_row, fitted_face}
use Rattle.off_solids.specs.Fields.{told_fits, corner_low, corner_high}
use Rattle.off_solids.specs.declared.points.Point.{Point}

-- ---- items passed

pub past_next : (s : List ℕ) (at i : ℕ) {e m : ℕ} → e ≡ past s at i → m ≡ end_of s e → m ≡ past s at (i + 1)
past_next s at i p q = q ∙ ap (end_of s) p ∙ ap (past s at) (sym (add-one i))

pub past_after : (s : List ℕ) (k n : ℕ) → past s (after s k) n ≡ after s (k + n)
past_after s k zero = let e : k ≡ k + 0 = omega arith in ap (after s) e
past_after s k (suc n) = ap (end_of s) (past_after s k n) ∙ ap (after s) (more k n)
  where
    more : (k n : ℕ) → suc (k + n) ≡ k + suc n
    more k n = omega arith

-- n items behind those of i such groups, from item k on
pub group_next : (s : List ℕ) (k n i : ℕ) {at m : ℕ} → at ≡ after s (k + i * n) → m ≡ past s at n → m ≡ after s (k + (i + 1) * n)
group_next s k n i p q = q ∙ ap (λ (j : ℕ). past s j n) p ∙ past_after s (k + i * n) n ∙ ap (after s) (more k n i)
  where
    more : (k n i : ℕ) → k + i * n + n ≡ k + (i + 1) * n
    more k n i = omega arith

-- ---- an item from b up to e

module _ (s : List ℕ) (at : ℕ) {b e : ℕ} (pb : b ≡ start_of s at) (pe : e ≡ end_of s at) where
  told : {m : ℕ} → m ≡ at_most largest (size_of false s b e) → m ≡ at_most largest (size_from false s at)
  told q = q ∙ ap₂ (λ (i j : ℕ). at_most largest (size_of false s i j)) pb pe

  pub corner_told_low : {m : ℕ} → m ≡ at_most largest (size_of false s b e) → m < 255 → m + 1 ≡ at_most 255 (corner_from s at)
  corner_told_low q h = corner_low (size_from false s at) (told q) h

  pub corner_told_high : {m : ℕ} → m ≡ at_most largest (size_of false s b e) → 255 ≤ m → 255 ≡ at_most 255 (corner_from s at)
  corner_told_high q h = corner_high (size_from false s at) (told q) h

  pub number_told : (most : ℕ) → most ≤ largest → {c : Bool} {m : ℕ} → c ≡ minus_at true s b → m ≡ at_most largest (size_of true s b e) →
      nearest most (made c m) ≡ nearest most (number_from s at)
  number_told most h p q =
      told_fits most h (minus_at true s (start_of s at)) (size_from true s at) (p ∙ ap (minus_at true s) pb)
      (q ∙ ap₂ (λ (i j : ℕ). at_most largest (size_of true s i j)) pb pe)

-- ---- a vertex, a face

module _ (per : ℕ) (s : List ℕ) (at : ℕ) where
  pub weight_told : {z : ℤ} → per ≡ 4 → z ≡ nearest 127 (number_from s at) → z ≡ nearest 127 (weight_from per s at)
  unfolding weight_from
  weight_told p q = q ∙ sym (ap (λ (b : Bool). nearest 127 (cond b (number_from s at) (pos 1))) (eq-eqb per 4 p))

  pub weight_one : (per ≡ 4 → ⊥) → nearest 127 (pos 1) ≡ nearest 127 (weight_from per s at)
  unfolding weight_from
  weight_one p = sym (ap (λ (b : Bool). nearest 127 (cond b (number_from s at) (pos 1))) (ne_eqb per 4 p))

  module _ {y z w : ℕ} (ey : y ≡ end_of s at) (ez : z ≡ end_of s y) (ew : w ≡ end_of s z) where
    at_z : z ≡ past s at 2
    at_z = ez ∙ ap (end_of s) ey

    at_w : w ≡ past s at 3
    at_w = ew ∙ ap (end_of s) at_z

    pub row_told : (p : Point) → nearest 32767 (told_of p.x) ≡ nearest 32767 (number_from s at) →
        nearest 32767 (told_of p.y) ≡ nearest 32767 (number_from s y) →
        nearest 32767 (told_of p.z) ≡ nearest 32767 (number_from s z) → nearest 127 (told_of p.w) ≡ nearest 127 (weight_from per s w) →
        fitted_row (point_of p) ≡ fitted_row (row_from per s at)
    unfolding row_from
    row_told p hx hy hz hw =
        let fy = hy ∙ ap (λ (i : ℕ). nearest 32767 (number_from s i)) ey in
        let fz = hz ∙ ap (λ (i : ℕ). nearest 32767 (number_from s i)) at_z in
        let fw = hw ∙ ap (λ (i : ℕ). nearest 127 (weight_from per s i)) at_w in
        λ i. record { x = hx i; y = fy i; z = fz i; w = fw i }

module _ (s : List ℕ) (at : ℕ) {y z w : ℕ} (ey : y ≡ end_of s at) (ez : z ≡ end_of s y) (ew : w ≡ end_of s z) where
  pub corners_told : {p q r : ℕ} → p ≡ at_most 255 (corner_from s y) → q ≡ at_most 255 (corner_from s z) → r ≡ at_most 255 (corner_from s w) →
      ◌≡◌ {A = Face} (record { p = p; q = q; r = r }) (fitted_face (corners_from s at))
  unfolding corners_from
  corners_told hp hq hr =
      let fz : z ≡ past s at 2 = ez ∙ ap (end_of s) ey in
      let fw : w ≡ past s at 3 = ew ∙ ap (end_of s) fz in
      let gp = hp ∙ ap (λ (i : ℕ). at_most 255 (corner_from s i)) ey in
      let gq = hq ∙ ap (λ (i : ℕ). at_most 255 (corner_from s i)) fz in
      let gr = hr ∙ ap (λ (i : ℕ). at_most 255 (corner_from s i)) fw in
      λ i. record { p = gp i; q = gq i; r = gr i }

-- ---- by their numbers

pub row_is : (s : List ℕ) (i : ℕ) {per at : ℕ} {r : Row} → per ≡ numbers_of s → at ≡ after s (4 + i * per) →
    r ≡ fitted_row (row_from per s at) → r ≡ fitted_row (row_of s i)
unfolding row_of
row_is s i p q e =
    e ∙ ap₂ (λ (k j : ℕ). fitted_row (row_from k s j)) p (q ∙ ap (λ (k : ℕ). after s (4 + i * k)) p)

pub face_is : (s : List ℕ) (i : ℕ) {at : ℕ} {f : Face} → at ≡ after s (4 + vertices_of s * numbers_of s + i * 4) →
    f ≡ fitted_face (corners_from s at) → f ≡ fitted_face (face_of s i)
unfolding face_of
face_is s i q e = e ∙ ap (λ (j : ℕ). fitted_face (corners_from s j)) q

-- The sides of a solid's faces on which a point lies: A(t) of formula (13) for each face, as two words. Assumes nothing.
use Rattle.std.specs.Prelude.{◌≡◌, Bool, List, ℕ, suc, ◌+◌, ◌*◌, ◌-◌, ◌^◌, ◌%◌, ◌≤◌, ◌<◌, ℤ}
use Rattle.std.proofs.Common.{sym, ap₂, subst, ◌∙◌, shl_exact}
use Rattle.std.proofs.Math.Path.{ap}
use native.Mathlib.Omega.{arith}
use Rattle.std.proofs.Math.Decide.{dec_lt}
use Rattle.std.specs.Int.Bits.{bit_or}
use Rattle.std.proofs.lemmas.Nat.{or_shifted}
use Rattle.laws.specs.Mask.{digit, digit_lt, mask_of, mask_lt, mask_low, mask_join}
use Rattle.scene.specs.Arrays.{row_in}
use Rattle.scene.specs.Faces.{Vertex, FaceOf}
use Rattle.scene.specs.declared.Row.{Row}
use Rattle.scene.specs.declared.Face.{Face}
use Rattle.orient.specs.Signs.{Four, Upto, ne_sym}
use Rattle.orient.specs.Terms.{positive_at}
use Rattle.orient.specs.Weighted.{Weighted, SignDefined}
use Rattle.pierce.specs.Beside.{BesideAll, in_scene, apart}
use Rattle.pierce_masks.specs.Faces.{mask_by, value_of}
use Rattle.pierce_masks.specs.declared.Mask.{Mask}
use Rattle.survey_sides.specs.Planes.{plane_for}

-- the sign of the face's corners and t is plus
unfoldable pub above : (ℕ → Row) → ℕ → Face → Bool
above row t f = positive_at row f.p f.q f.r t

-- ---- as two words

-- the faces that the first word holds, and the others
abbrev pub first64 : ℕ → ℕ
first64 count = count - (count - 64)

unfoldable pub masks_by : (Face → Bool) → (ℕ → Face) → (first count : ℕ) → Mask
masks_by passes face first count = record {
  low = mask_by passes face first (first64 count);
  high = mask_by passes face (first + 64)
      (count - 64);
}

-- for a solid of `count` faces, numbered from first + 1 on
abbrev pub sides_of : (ℕ → Row) → (ℕ → Face) → (first count t : ℕ) → Mask
sides_of row face first count t = masks_by (above row t) face first count

-- its two words
module _ (passes : Face → Bool) (face : ℕ → Face) (first count : ℕ) {m : Mask} (e : m ≡ masks_by passes face first count) where
  pub low_of : m.low ≡ mask_by passes face first (first64 count)
  unfolding masks_by
  low_of i = (e i).low

  pub high_of : m.high ≡ mask_by passes face (first + 64) (count - 64)
  unfolding masks_by
  high_of i = (e i).high

no_more : (g : ℕ → Bool) (x : ℕ) → x + 2 ^ 64 * mask_of g 0 ≡ x
unfolding mask_of
no_more g x = omega arith

-- together they are one mask
pub masks_value : (passes : Face → Bool) (face : ℕ → Face) (first count : ℕ) → value_of (masks_by passes face first count)
    ≡ mask_by passes face first count
unfolding value_of masks_by
masks_value passes face first count = go (dec_lt 64 count)
  where
    next : (k : ℕ) → first + 64 + 1 + k ≡ first + 1 + (64 + k)
    next k = omega arith

    shifted : ◌≡◌ {A = ℕ → Bool} (λ k. passes (face (first + 64 + 1 + k))) (λ k. passes (face (first + 1 + (64 + k))))
    shifted i k = passes (face (next k i))

    g : ℕ → Bool
    g k = passes (face (first + 1 + k))

    go : Dec (64 < count) → mask_by passes face first (first64 count) + 2 ^ 64 * mask_by passes face (first + 64) (count - 64)
        ≡ mask_by passes face first count
    go (yes h) =
        let m : first64 count ≡ 64 = omega arith in
        ap₂ (λ (x y : ℕ). x + 2 ^ 64 * y) (ap (mask_of g) m) (ap (λ (f : ℕ → Bool). mask_of f (count - 64)) shifted)
        ∙ sym (mask_join g 64 (count - 64)) ∙ ap (mask_of g) (omega arith)
    go (no h) =
        let m : first64 count ≡ count = omega arith in
        let z : count - 64 ≡ 0 = omega arith in
        ap₂ (λ (x y : ℕ). x + 2 ^ 64 * y) (ap (mask_of g) m) (ap (mask_by passes face (first + 64)) z)
        ∙ no_more (λ k. passes (face (first + 64 + 1 + k))) (mask_of g count)

-- as the code makes them: each word by itself
module _ (passes : Face → Bool) (face : ℕ → Face) (first count : ℕ) where
  pub words_value : {m : Mask} → m.low ≡ mask_by passes face first (first64 count) →
      m.high ≡ mask_by passes face (first + 64) (count - 64) → value_of m ≡ mask_by passes face first count
  unfolding masks_by
  words_value p q = ap value_of (λ i. record { low = p i; high = q i }) ∙ masks_value passes face first count

-- ---- from the last face to the first: the word holds the faces behind the first k

module _ (passes : Face → Bool) (face : ℕ → Face) (first count : ℕ) where
  pub mask_begun : 0 ≡ mask_by passes face (first + count) (count - count)
  unfolding mask_of
  mask_begun = let z : 0 ≡ count - count = omega arith in ap (mask_by passes face (first + count)) z

-- one step: w << 1 | b
module _ (passes : Face → Bool) (face : ℕ → Face) (first count k : ℕ) (some : 0 < k) (upto : k ≤ count) (few : count ≤ 64) where
  pub mask_under : {w b : ℕ} → w ≡ mask_by passes face (first + k) (count - k) → b ≡ digit (passes (face (first + 1 + (k - 1)))) →
      bit_or (w * 2 ^ 1 % 2 ^ 64) b ≡ mask_by passes face (first + (k - 1)) (count - (k - 1))
  mask_under hw hb =
      ap₂ (λ (x y : ℕ). bit_or (x * 2 ^ 1 % 2 ^ 64) y) (hw ∙ (λ i. mask_of (λ j. passes (face (next j i))) (count - k)))
      (hb ∙ ap (λ (n : ℕ). digit (passes (face n))) here)
      ∙ ap (λ (x : ℕ). bit_or x (digit (g 0))) (shl_exact (count - k) 1 64 (mask_lt behind (count - k)) (omega arith))
      ∙ or_shifted (mask_of behind (count - k)) 1 (digit (g 0)) (digit_lt (g 0))
      ∙ sum
      ∙ sym (mask_low (count - k) g)
      ∙ ap (mask_of g) (omega arith)
    where
      g : ℕ → Bool
      g j = passes (face (first + (k - 1) + 1 + j))

      behind : ℕ → Bool
      behind j = g (suc j)

      next : (j : ℕ) → first + k + 1 + j ≡ first + (k - 1) + 1 + suc j
      next j = omega arith

      here : first + 1 + (k - 1) ≡ first + (k - 1) + 1 + 0
      here = omega arith

      sum : mask_of behind (count - k) * 2 ^ 1 + digit (g 0) ≡ digit (g 0) + 2 * mask_of behind (count - k)
      sum = omega arith

-- ---- what is asked before a point's sides are told: the planes are made, and each face's corners and the point differ

-- a table of the planes of the faces above base, by their numbers in the scene
abbrev pub plane_in : List ℤ → (base : ℕ) → ℕ → Row
plane_in planes base k = row_in planes (k - base)

pub record Ready (row : ℕ → Row) (face : ℕ → Face) (plane : ℕ → Row) (t k : ℕ) : Type 0 where
  pub made : plane k ≡ plane_for row (face k)
  pub asked : SignDefined row (face k).p (face k).q (face k).r t

abbrev pub ReadyAll : (ℕ → Row) → (ℕ → Face) → (ℕ → Row) → (t first count : ℕ) → Type 0
ReadyAll row face plane t first count = (k : ℕ) → k < count → Ready row face plane t (first + 1 + k)

module _ (row : ℕ → Row) (face : ℕ → Face) (plane : ℕ → Row) {t : ℕ} (first count : ℕ) (h : ReadyAll row face plane t first count) where
  pub ready_low : (m : ℕ) → m ≤ count → ReadyAll row face plane t first m
  ready_low m l k b = h k (omega arith)

  pub ready_high : ReadyAll row face plane t (first + 64) (count - 64)
  ready_high k b =
      let e : first + 1 + (64 + k) ≡ first + 64 + 1 + k = omega arith in
      subst (λ (i : ℕ). Ready row face plane t i) e (h (64 + k) (omega arith))

-- the planes of a solid's faces are in a table
abbrev pub Planed : (ℕ → Row) → (ℕ → Face) → (ℕ → Row) → (first count : ℕ) → Type 0
Planed row face plane first count = (k : ℕ) → k < count → plane (first + 1 + k) ≡ plane_for row (face (first + 1 + k))

module _ {n : ℕ} (row : ℕ → Row) (face : ℕ → Face) (plane : ℕ → Row) (first count : ℕ) (w : Weighted n row)
    (p : Planed row face plane first count) where
  -- a point that is no vertex of the solid
  pub ready : {low high t : ℕ} → high ≤ n → Upto n t → (Vertex low high t → ⊥) →
      ((k : ℕ) → k < count → FaceOf low high (face (first + 1 + k))) → ReadyAll row face plane t first count
  ready {low} {high} {t} l i out h k b =
      let f = h k b in
      let d : Four (Upto n) (face (first + 1 + k)).p (face (first + 1 + k)).q (face (first + 1 + k)).r t = search
      (ne_sym, in_scene, apart) in
      record { made = p k b; asked = record { points = n; weighted = w; four = d } }

  -- the ends of an edge beside the solid's faces
  pub ready_ends : {u v : ℕ} → BesideAll n u v face first count → ReadyAll row face plane u first count
      × ReadyAll row face plane v first count
  ready_ends h = (
    λ k b. let d = h k b in record { made = p k b; asked = record { points = n; weighted = w; four = search ne_sym } },
    λ k b. let d = h k b in record { made = p k b; asked = record { points = n; weighted = w; four = search ne_sym } },
  )

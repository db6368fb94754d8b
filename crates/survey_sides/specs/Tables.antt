-- The tables that are made for a solid: the planes of the faces opposite, and two words a point, the sides of those faces. What they hold
-- after they are filled. Assumes nothing.
use Rattle.std.specs.Prelude.{◌≡◌, ℤ, length, get_or, set}
use Rattle.std.proofs.Math.Path.{refl, ap}
use Rattle.std.proofs.Common.{sym, subst, ◌∙◌, length-set, get_or-set_same, get_or-set_other}
use mathlib.Core.List.{List}
use Prim.Native.Nat.{ℕ, zero, suc, ◌+◌, ◌-◌, ◌*◌, ◌≤◌, ◌<◌}
use native.Mathlib.Omega.{arith}
use Rattle.laws.specs.Filled.{filled, filled_more, filled_at}
use Rattle.scene.specs.Arrays.{row_in}
use Rattle.scene.specs.Decode.{row_set, row_keeps, row_same, row_other}
use Rattle.scene.specs.declared.Row.{Row}
use Rattle.scene.specs.declared.Face.{Face}
use Rattle.scene.specs.declared.Solid.{Solid}
use Rattle.pierce_masks.specs.declared.Mask.{Mask}
use Rattle.survey_sides.specs.Planes.{plane_for}
use Rattle.survey_sides.specs.Sides.{sides_of, plane_in, ReadyAll, Planed}

-- ---- planes: four numbers a face

-- those of the n faces above first, at their numbers within the solid
unfoldable pub planes_from : (ℕ → Row) → (ℕ → Face) → (first n : ℕ) → List ℤ → List ℤ
planes_from row face first = filled (λ l i p. row_set l (1 + i) p) (λ i. plane_for row (face (first + 1 + i)))

module _ (row : ℕ → Row) (face : ℕ → Face) (first : ℕ) where
  -- one turn of the loop that fills them
  pub planes_more : (i : ℕ) (l : List ℤ) {m : List ℤ} {p : Row} → m ≡ planes_from row face first i l →
      p ≡ plane_for row (face (first + 1 + i)) → row_set m (1 + i) p ≡ planes_from row face first (i + 1) l
  unfolding planes_from
  planes_more i l e d = filled_more (λ l i p. row_set l (1 + i) p) (λ i. plane_for row (face (first + 1 + i))) i l e d

  pub planes_length : (n : ℕ) (l : List ℤ) → length (planes_from row face first n l) ≡ length l
  unfolding planes_from filled
  planes_length zero l = refl
  planes_length (suc n) l = row_keeps (planes_from row face first n l) (1 + n) (plane_for row (face (first + 1 + n))) ∙ planes_length n l

  pub planed : (n : ℕ) (l : List ℤ) {m : List ℤ} → 4 * n + 3 < length l → m ≡ planes_from row face first n l →
      Planed row face (plane_in m first) first n
  unfolding planes_from
  planed n l {m} r e k b =
      let d : first + 1 + k - first ≡ 1 + k = omega arith in
      ap (row_in m) d ∙ ap (λ (x : List ℤ). row_in x (1 + k)) e
      ∙ filled_at (λ x i p. row_set x (1 + i) p) (λ x i. row_in x (1 + i)) (λ i s. 4 * (1 + i) + 3 < s) (λ x i p. row_keeps x (1 + i) p)
      (λ x i p. row_same x (1 + i) p) (λ x i j p d. row_other x (1 + i) (1 + j) p (λ f. d (omega (arith, f))))
      (λ i. plane_for row (face (first + 1 + i))) n l (λ i s. omega arith) k b

-- ---- words: two a point

abbrev pub mask_in : List ℕ → ℕ → Mask
mask_in l t = record { low = get_or l (2 * t) 0; high = get_or l (2 * t + 1) 0 }

abbrev pub word_set : List ℕ → ℕ → Mask → List ℕ
word_set l t m = set (set l (2 * t) m.low) (2 * t + 1) m.high

-- g at each of the n numbers above low
unfoldable pub masks_from : (ℕ → Mask) → (low n : ℕ) → List ℕ → List ℕ
masks_from g low = filled (λ l i m. word_set l (low + 1 + i) m) (λ i. g (low + 1 + i))

-- the sides of a solid's vertices against the other solid's faces
abbrev pub words_for : (ℕ → Row) → (ℕ → Face) → Solid → List ℕ → List ℕ
words_for row face k = masks_from (sides_of row face k.other0 k.others) k.vert0 k.verts

abbrev pub ReadyFor : (ℕ → Row) → (ℕ → Face) → (ℕ → Row) → Solid → Type 0
ReadyFor row face plane k = (i : ℕ) → i < k.verts → ReadyAll row face plane (k.vert0 + 1 + i) k.other0 k.others

pub word_keeps : (l : List ℕ) (t : ℕ) (m : Mask) → length (word_set l t m) ≡ length l
word_keeps l t m = simp length-set

pub word_same : (l : List ℕ) (t : ℕ) (m : Mask) → 2 * t + 1 < length l → mask_in (word_set l t m) t ≡ m
word_same l t m h =
    let l1 : List ℕ = set l (2 * t) m.low in
    let e1 : length l1 ≡ length l = simp length-set in
    let low : get_or (word_set l t m) (2 * t) 0 ≡ m.low =
    get_or-set_other l1 (2 * t + 1) (2 * t) m.high 0 (λ e. omega (arith, e)) ∙ get_or-set_same l (2 * t) m.low 0 (omega arith) in
    let high : get_or (word_set l t m) (2 * t + 1) 0 ≡ m.high = get_or-set_same l1 (2 * t + 1) m.high 0 (omega arith) in
    λ i. record { low = low i; high = high i }

pub word_other : (l : List ℕ) (t j : ℕ) (m : Mask) → (j ≡ t → ⊥) → mask_in (word_set l t m) j ≡ mask_in l j
word_other l t j m d = λ i. record {
  low = at (2 * j) (λ e. omega (arith, e)) (λ e. omega (arith, e)) i;
  high = at (2 * j + 1)
      (λ e. omega (arith, e)) (λ e. omega (arith, e)) i;
}
  where
    at : (b : ℕ) → (b ≡ 2 * t → ⊥) → (b ≡ 2 * t + 1 → ⊥) → get_or (word_set l t m) b 0 ≡ get_or l b 0
    at b h0 h1 = get_or-set_other (set l (2 * t) m.low) (2 * t + 1) b m.high 0 h1 ∙ get_or-set_other l (2 * t) b m.low 0 h0

module _ (g : ℕ → Mask) (low : ℕ) where
  abbrev at : ℕ → ℕ
  at i = low + 1 + i

  abbrev made : ℕ → List ℕ → List ℕ
  made = masks_from g low

  -- one turn of the loop that fills them
  pub masks_more : (i : ℕ) (l : List ℕ) {ws : List ℕ} {m : Mask} → ws ≡ made i l → m ≡ g (at i) → word_set ws (at i) m ≡ made (i + 1) l
  unfolding masks_from
  masks_more i l e d = filled_more (λ l i m. word_set l (at i) m) (λ i. g (at i)) i l e d

  pub masks_length : (n : ℕ) (l : List ℕ) → length (made n l) ≡ length l
  unfolding masks_from filled
  masks_length zero l = refl
  masks_length (suc n) l = word_keeps (made n l) (at n) (g (at n)) ∙ masks_length n l

  -- at each of the n numbers, and at every other
  pub masks_at : (n : ℕ) (l : List ℕ) → 2 * (low + n) + 1 < length l → (t : ℕ) → low < t → t ≤ low + n → mask_in (made n l) t ≡ g t
  unfolding masks_from
  masks_at n l r t a b =
      let e : t ≡ at (t - (low + 1)) = omega arith in
      ap (mask_in (made n l)) e
      ∙ filled_at (λ x i m. word_set x (at i) m) (λ x i. mask_in x (at i)) (λ i s. 2 * at i + 1 < s) (λ x i m. word_keeps x (at i) m)
      (λ x i m. word_same x (at i) m)
      (λ x i j m d. word_other x (at i) (at j) m (λ f. d (omega (arith, f)))) (λ i. g (at i)) n l (λ i s. omega arith) (t - (low + 1))
      (omega arith)
      ∙ ap g (sym e)

  pub masks_kept : (n : ℕ) (l : List ℕ) (t : ℕ) → (low < t → t ≤ low + n → ⊥) → mask_in (made n l) t ≡ mask_in l t
  unfolding masks_from filled
  masks_kept zero l t out = refl
  masks_kept (suc n) l t out =
      word_other (made n l) (at n) t (g (at n)) (λ e. out (omega arith) (omega arith)) ∙ masks_kept n l t (λ a b. out a (omega arith))

-- those of the first m numbers, and then those of the n behind them
pub masks_join : (g : ℕ → Mask) (low m n : ℕ) (l : List ℕ) → masks_from g (low + m) n (masks_from g low m l) ≡ masks_from g low (m + n) l
unfolding masks_from filled
masks_join g low m zero l = let e : m ≡ m + 0 = omega arith in ap (λ (k : ℕ). masks_from g low k l) e
masks_join g low m (suc n) l =
    let e : low + m + 1 + n ≡ low + 1 + (m + n) = omega arith in
    let k : suc (m + n) ≡ m + suc n = omega arith in
    (λ i. word_set (masks_join g low m n l i) (e i) (g (e i))) ∙ ap (λ (k : ℕ). masks_from g low k l) k

pub ready_from : (row : ℕ → Row) (face : ℕ → Face) (plane : ℕ → Row) (k : Solid) → ReadyFor row face plane k → (m i : ℕ) →
    m + i < k.verts →
    ReadyAll row face plane (k.vert0 + m + 1 + i) k.other0 k.others
ready_from row face plane k h m i b =
    let e : k.vert0 + 1 + (m + i) ≡ k.vert0 + m + 1 + i = omega arith in
    subst (λ (t : ℕ). ReadyAll row face plane t k.other0 k.others) e (h (m + i) b)

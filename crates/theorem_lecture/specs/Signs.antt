-- The signs of a clean scene mapped by a table whose determinant is not zero: all keep where it is positive, and all turn where it is
-- negative. The image is clean. Assumes nothing.
use Rattle.std.specs.Prelude.{◌≡◌, ◌≢◌, Bool, not, ℕ, ℤ, pos, ◌*ℤ◌}
use Rattle.std.proofs.Common.{sym, ap, ◌∙◌}
use Rattle.laws.specs.Bools.{◌⊕◌, all, ◌≐◌, law}
use Rattle.laws.specs.Sign.{sign, or_settled}
use Rattle.scene.specs.declared.Row.{Row}
use Rattle.orient.specs.Determinant.{det4}
use Rattle.orient.specs.Alternating.{plus_mul, nonzero_mul}
use Rattle.orient.specs.Signs.{Upto, Four}
use Rattle.orient.specs.Terms.{c0, tied, orientation, is_plus, point_at, positive_at}
use Rattle.map_image.specs.declared.Map.{Map}
use Rattle.map_image.specs.Mapped.{mapped, determinant_of, det_mapped}
use Rattle.clean.specs.Clean.{Clean, c0_rows}
use Rattle.theorem_lecture.specs.Turned.{Turned}

-- of four points with c0 not zero the sign is that of the determinant of their rows
pub by_c0 : (row : ℕ → Row) (a b c d : ℕ) → c0 (point_at row a) (point_at row b) (point_at row c) (point_at row d) ≢ pos 0 →
    positive_at row a b c d ≡ is_plus (sign (det4 (row a) (row b) (row c) (row d)))
unfolding positive_at orientation
by_c0 row a b c d h =
    ap is_plus (or_settled (c0 (point_at row a) (point_at row b) (point_at row c) (point_at row d))
    (tied (point_at row a) (point_at row b) (point_at row c) (point_at row d)) h) ∙ ap (λ (z : ℤ). is_plus (sign z)) (c0_rows row a b c d)

-- row' has at the numbers 1 to n what the map makes of row
abbrev pub MappedRows : (n : ℕ) → Map → (row row' : ℕ → Row) → Type 0
MappedRows n m row row' = (i : ℕ) → Upto n i → row' i ≡ mapped m (row i)

module _ (n : ℕ) (m : Map) (row row' : ℕ → Row) (image : MappedRows n m row row') (clean : Clean n row)
    (regular : determinant_of m ≢ pos 0) where
  module _ (a b c d : ℕ) (f : Four (Upto n) a b c d) where
    abbrev D : ℤ
    D = det4 (row a) (row b) (row c) (row d)

    det_image : det4 (row' a) (row' b) (row' c) (row' d) ≡ D *ℤ determinant_of m
    det_image = (λ i. det4 (image a f.a_in i) (image b f.b_in i) (image c f.c_in i) (image d f.d_in i))
        ∙ det_mapped m (row a) (row b) (row c) (row d)

    nonzero : D ≢ pos 0
    nonzero z = clean a b c d f (c0_rows row a b c d ∙ z)

    image_nonzero : c0 (point_at row' a) (point_at row' b) (point_at row' c) (point_at row' d) ≢ pos 0
    image_nonzero z = nonzero_mul D (determinant_of m) nonzero regular (sym det_image ∙ sym (c0_rows row' a b c d) ∙ z)

    sign_image : positive_at row' a b c d ≡ positive_at row a b c d ⊕ not (is_plus (sign (determinant_of m)))
    sign_image =
        by_c0 row' a b c d image_nonzero ∙ ap (λ (z : ℤ). is_plus (sign z)) det_image ∙ plus_mul D (determinant_of m) nonzero regular
        ∙ law (all λ x. all λ y. not (x ⊕ y) ≐ x ⊕ not y) tt (is_plus (sign D)) (is_plus (sign (determinant_of m)))
        ∙ ap (λ (p : Bool). p ⊕ not (is_plus (sign (determinant_of m)))) (sym (by_c0 row a b c d (clean a b c d f)))

  pub image_clean : Clean n row'
  image_clean = image_nonzero

  pub image_turned : Turned n (not (is_plus (sign (determinant_of m)))) (positive_at row) (positive_at row')
  image_turned = sign_image

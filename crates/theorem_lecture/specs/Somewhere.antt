-- The image of a row that is not all zeros, by a table whose determinant is not zero, is not all zeros: so 14 never occurs for an image.
-- Assumes nothing.
use Rattle.std.specs.Prelude.{◌≡◌, ◌≢◌, [], ◌∷◌, ℤ, pos, ◌*ℤ◌}
use Rattle.std.proofs.Common.{sym, ◌∙◌}
use Rattle.std.proofs.Math.IntN.{ℤ_discrete}
use Rattle.laws.specs.Ring.{Expr, ring}
use Rattle.laws.specs.Ring.Expr.{lit, ◌⊕◌, ◌⊗◌}
use Rattle.scene.specs.declared.Row.{Row}
use Rattle.scene.specs.Tables.{no_row}
use Rattle.orient.specs.Determinant.{Entries, det4}
use Rattle.orient.specs.Variables.{row, rows, det}
use Rattle.orient.specs.Alternating.{nonzero_mul}
use Rattle.rules.specs.Rules.{Zeros}
use Rattle.map_image.specs.Mapped.{product, mapped, determinant_of}
use Rattle.map_image.specs.declared.Map.{Map}

-- ---- the image in place of one row of the table: the determinant is that entry times the table's

abbrev R : Entries Expr
R = product ◌⊕◌ ◌⊗◌ (row 0) (row 1) (row 2) (row 3) (row 4)

abbrev D : Expr
D = det (row 1) (row 2) (row 3) (row 4)

module _ (m : Map) (r : Row) where
  in_x : det4 (mapped m r) m.y m.z m.w ≡ r.x *ℤ determinant_of m
  unfolding mapped det4
  in_x = ring (rows (r ∷ m.x ∷ m.y ∷ m.z ∷ m.w ∷ [])) (det R (row 2) (row 3) (row 4)) ((row 0).x ⊗ D) tt

  in_y : det4 m.x (mapped m r) m.z m.w ≡ r.y *ℤ determinant_of m
  unfolding mapped det4
  in_y = ring (rows (r ∷ m.x ∷ m.y ∷ m.z ∷ m.w ∷ [])) (det (row 1) R (row 3) (row 4)) ((row 0).y ⊗ D) tt

  in_z : det4 m.x m.y (mapped m r) m.w ≡ r.z *ℤ determinant_of m
  unfolding mapped det4
  in_z = ring (rows (r ∷ m.x ∷ m.y ∷ m.z ∷ m.w ∷ [])) (det (row 1) (row 2) R (row 4)) ((row 0).z ⊗ D) tt

  in_w : det4 m.x m.y m.z (mapped m r) ≡ r.w *ℤ determinant_of m
  unfolding mapped det4
  in_w = ring (rows (r ∷ m.x ∷ m.y ∷ m.z ∷ m.w ∷ [])) (det (row 1) (row 2) (row 3) R) ((row 0).w ⊗ D) tt

-- ---- a row of zeros makes the determinant zero

abbrev O : Entries Expr
O = record { x = lit (pos 0); y = lit (pos 0); z = lit (pos 0); w = lit (pos 0) }

module _ (a b c : Row) where
  zero_1 : det4 no_row a b c ≡ pos 0
  unfolding det4
  zero_1 = ring (rows (a ∷ b ∷ c ∷ [])) (det O (row 0) (row 1) (row 2)) (lit (pos 0)) tt

  zero_2 : det4 a no_row b c ≡ pos 0
  unfolding det4
  zero_2 = ring (rows (a ∷ b ∷ c ∷ [])) (det (row 0) O (row 1) (row 2)) (lit (pos 0)) tt

  zero_3 : det4 a b no_row c ≡ pos 0
  unfolding det4
  zero_3 = ring (rows (a ∷ b ∷ c ∷ [])) (det (row 0) (row 1) O (row 2)) (lit (pos 0)) tt

  zero_4 : det4 a b c no_row ≡ pos 0
  unfolding det4
  zero_4 = ring (rows (a ∷ b ∷ c ∷ [])) (det (row 0) (row 1) (row 2) O) (lit (pos 0)) tt

-- a factor of a product that is zero
factor_zero : (x y : ℤ) → y ≢ pos 0 → x *ℤ y ≡ pos 0 → x ≡ pos 0
factor_zero x y h e = by (ℤ_discrete x (pos 0))
  where
    by : Dec (x ≡ pos 0) → x ≡ pos 0
    by (yes p) = p
    by (no p) = absurd (nonzero_mul x y p h e)

zeros_are : {r : Row} → Zeros r → r ≡ no_row
zeros_are h = λ i. record { x = h.x i; y = h.y i; z = h.z i; w = h.w i }

pub image_somewhere : (m : Map) (r : Row) → determinant_of m ≢ pos 0 → Zeros (mapped m r) → Zeros r
image_somewhere m r d h =
    let e = zeros_are h in
    record {
      x = factor_zero r.x (determinant_of m) d (sym (in_x m r) ∙ (λ i. det4 (e i) m.y m.z m.w) ∙ zero_1 m.y m.z m.w);
      y = factor_zero r.y (determinant_of m) d (sym (in_y m r) ∙ (λ i. det4 m.x (e i) m.z m.w) ∙ zero_2 m.x m.z m.w);
      z = factor_zero r.z (determinant_of m) d (sym (in_z m r) ∙ (λ i. det4 m.x m.y (e i) m.w) ∙ zero_3 m.x m.y m.w);
      w = factor_zero r.w (determinant_of m) d (sym (in_w m r) ∙ (λ i. det4 m.x m.y m.z (e i)) ∙ zero_4 m.x m.y m.z);
    }

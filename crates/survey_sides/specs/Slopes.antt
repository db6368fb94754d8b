-- A face's slope, the term at e of its shifted plane: with the plane at the shift it gives c1 of the face's corners and a point by eight
-- products. What a table holds whose entries are slopes or blank. Assumes nothing.
use Rattle.std.specs.Prelude.{◌≡◌, Bool, true, false, ◌&&◌, List, [], ◌∷◌, eqb, ℤ, pos, negsuc, ◌+ℤ◌, length, replicate}
use Rattle.std.proofs.Math.Path.{refl, sym, ap}
use Rattle.std.proofs.Common.{◌∙◌, true≢false, arith, eqb-true, to_z, of_z}
use Prim.Native.Nat.{ℕ, zero, suc, ◌+◌, ◌*◌, ◌^◌, ◌≤◌, ◌<◌}
use Rattle.std.proofs.Math.Decide.{ℕ_discrete}
use Rattle.std.proofs.lemmas.Bool.{eqb-false}
use Rattle.std.proofs.Math.ListN.{length-replicate}
use Rattle.std.specs.Int.Signed.{mag, lt_z}
use Rattle.std.specs.Int.{w64}
use Rattle.laws.specs.Filled.{filled}
use Rattle.laws.specs.Ring.{Expr, ring}
use Rattle.laws.specs.Ring.Expr.{◌⊕◌, ◌⊖◌, ◌⊗◌}
use Rattle.laws.specs.Size.{reread}
use Rattle.scene.specs.Limits.{limits}
use Rattle.scene.specs.Arrays.{row_in}
use Rattle.scene.specs.Decode.{row_set, row_keeps, row_same, row_other, rows_decoded}
use Rattle.scene.specs.Tables.{no_row}
use Rattle.scene.specs.declared.Row.{Row}
use Rattle.scene.specs.declared.Face.{Face}
use Rattle.orient.specs.Bits.{tie_turned}
use Rattle.orient.specs.Determinant.{Entries}
use Rattle.orient.specs.Laws.{terms12}
use Rattle.orient.specs.Minors.{minor_of_law}
use Rattle.orient.specs.Shifts.{shift_at, c1_rows}
use Rattle.orient.specs.Terms.{point_at, c1_at}
use Rattle.orient.specs.Variables.{row, rows}
use Rattle.survey_sides.specs.Planes.{dot_of, plane_of, plane_dot}
use Rattle.survey_sides.specs.Sides.{above}
use Rattle.survey_sides.specs.PlaneAt.{InPlane}

abbrev pub sum_of : Row → Row → Row → Row
sum_of a b c =
    record {
      x = a.x +ℤ b.x +ℤ c.x;
      y = a.y +ℤ b.y +ℤ c.y;
      z = a.z +ℤ b.z +ℤ c.z;
      w = a.w +ℤ b.w +ℤ c.w;
    }

-- of points i, j and k, and of a face's corners, turned as its plane is
unfoldable pub slope_of : (ℕ → Row) → (i j k : ℕ) → Row
slope_of row i j k =
    sum_of (plane_of (shift_at row i) (row j) (row k)) (plane_of (row i) (shift_at row j) (row k)) (plane_of (row i) (row j) (shift_at row k))

unfoldable pub slope_for : (ℕ → Row) → Face → Row
slope_for row f = slope_of row f.q f.p f.r

-- ---- the slope at a point and the plane at its shift are c1

abbrev dot : Entries Expr → Entries Expr → Expr
dot p t =
    minor_of_law ◌⊕◌ ◌⊖◌ ◌⊗◌ p.w p.z t.z t.w ⊕ minor_of_law ◌⊕◌ ◌⊖◌ ◌⊗◌ p.y p.x t.x t.y

abbrev total : Entries Expr → Entries Expr → Entries Expr → Entries Expr
total a b c =
    record { x = a.x ⊕ b.x ⊕ c.x; y = a.y ⊕ b.y ⊕ c.y; z = a.z ⊕ b.z ⊕ c.z; w = a.w ⊕ b.w ⊕ c.w }

sum_dot : (a b c d : Row) → dot_of (sum_of a b c) d ≡ dot_of a d +ℤ dot_of b d +ℤ dot_of c d
sum_dot a b c d =
    ring (rows (a ∷ b ∷ c ∷ d ∷ [])) (dot (total (row 0) (row 1) (row 2)) (row 3))
    (dot (row 0) (row 3) ⊕ dot (row 1) (row 3) ⊕ dot (row 2) (row 3)) tt

module _ (at : ℕ → Row) (i j k m : ℕ) where
  pub slope_term : dot_of (slope_of at i j k) (at m) +ℤ dot_of (plane_of (at i) (at j) (at k)) (shift_at at m) ≡ c1_at at i j k m
  unfolding slope_of
  slope_term =
      ap (λ (z : ℤ). z +ℤ dot_of (plane_of (at i) (at j) (at k)) (shift_at at m))
      (sum_dot (plane_of (shift_at at i) (at j) (at k)) (plane_of (at i) (shift_at at j) (at k)) (plane_of (at i) (at j) (shift_at at k)) (at m))
      ∙ (λ o. plane_dot (shift_at at i) (at j) (at k) (at m) o +ℤ plane_dot (at i) (shift_at at j) (at k) (at m) o
      +ℤ plane_dot (at i) (at j) (shift_at at k) (at m) o +ℤ plane_dot (at i) (at j) (at k) (shift_at at m) o)
      ∙ sym (c1_rows (point_at at i) (point_at at j) (point_at at k) (point_at at m))

-- where the face's plane has the point this tells the side, unless it is zero
pub tilt_told : (row : ℕ → Row) (f : Face) (t : ℕ) {d : ℤ} → InPlane row f t → mag d < 2 ^ 63 → d ≡ c1_at row f.q f.p f.r t →
    (of_z w64 d ≡ 0 → ⊥) → lt_z (reread d) (pos 0) ≡ above row t f
unfolding above
tilt_told row f t z ok e =
    tie_turned row f.p f.q f.r t z ok
    (e ∙ (terms12 (point_at row f.p) (point_at row f.q) (point_at row f.r) (point_at row t)).e1)

-- ---- a table of slopes, four numbers a face: an entry that is not blank is its face's

abbrev pub is_zero : ℤ → Bool
is_zero (pos zero) = true
is_zero (pos (suc n)) = false
is_zero (negsuc n) = false

abbrev pub is_blank : Row → Bool
is_blank r = ((is_zero r.x && is_zero r.y) && is_zero r.z) && is_zero r.w

pub record Sloped (row : ℕ → Row) (face : ℕ → Face) (l : List ℤ) : Type 0 where
  pub size : length l ≡ 4 * (2 * limits.most_faces + 1)
  pub made : (k : ℕ) → is_blank (row_in l k) ≡ false → row_in l k ≡ slope_for row (face k)

module _ (row : ℕ → Row) (face : ℕ → Face) where
  pub zeros_sloped : Sloped row face (replicate (4 * (2 * limits.most_faces + 1)) (pos 0))
  unfolding filled
  zeros_sloped =
      let m : ℕ = 4 * (2 * limits.most_faces + 1) in
      record {
        size = length-replicate m (pos 0);
        made = λ k e. absurd (true≢false (ap is_blank (λ i. sym (rows_decoded (λ j. no_row) 0 m refl (omega arith) (λ j b. refl)) i k) ∙ e));
      }

  pub stored_sloped : (l : List ℤ) (k : ℕ) {s : Row} → k ≤ 2 * limits.most_faces → s ≡ slope_for row (face k) → Sloped row face l →
      Sloped row face (row_set l k s)
  stored_sloped l k {s} few e h = record { size = row_keeps l k s ∙ h.size; made = λ j. go j (ℕ_discrete j k) }
    where
      room : 4 * k + 3 < length l
      room = omega (arith, h.size)

      go : (j : ℕ) → Dec (j ≡ k) → is_blank (row_in (row_set l k s) j) ≡ false → row_in (row_set l k s) j ≡ slope_for row (face j)
      go j (yes d) b = ap (row_in (row_set l k s)) d ∙ row_same l k s room ∙ e ∙ ap (λ (i : ℕ). slope_for row (face i)) (sym d)
      go j (no d) b = let o = row_other l k j s d in o ∙ h.made j (sym (ap is_blank o) ∙ b)

-- a number that is read back as itself is zero where its bits are
pub zero_read : {n : ℤ} → reread n ≡ n → eqb (of_z w64 n) 0 ≡ is_zero n
zero_read {n} same = go (eqb (of_z w64 n) 0) refl
  where
    not_zero : (n : ℤ) → (of_z w64 n ≡ 0 → ⊥) → false ≡ is_zero n
    not_zero (pos zero) h = absurd (h refl)
    not_zero (pos (suc n)) h = refl
    not_zero (negsuc n) h = refl

    go : (t : Bool) → eqb (of_z w64 n) 0 ≡ t → t ≡ is_zero n
    go true e = ap is_zero (sym (ap (to_z w64) (eqb-true (of_z w64 n) 0 e)) ∙ same)
    go false e = not_zero n (eqb-false (of_z w64 n) 0 e)

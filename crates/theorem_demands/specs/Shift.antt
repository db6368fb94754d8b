-- The shift is real. For every accepted scene and every whole N above 3.5 × 10^18 the rows (N·x + k·i, N·y + k·i², N·z + k·i³, w), k the
-- factor of the shift, have no zero determinant of four different points, and with the sign of that determinant they give the same signs,
-- masks, enclosed vertices, listing and verdict as the scene does. Assumes nothing.
use Rattle.std.specs.Prelude.{◌≡◌, ◌≢◌, List, ℕ, ◌<◌, ℤ, pos, ◌+ℤ◌, ◌*ℤ◌, Ok}
use Rattle.laws.specs.Sign.{sign}
use Rattle.scene.specs.View.{View, view_of, points}
use Rattle.scene.specs.declared.Row.{Row}
use Rattle.judge.specs.Judge.{judged}
use Rattle.orient.specs.Determinant.{det4}
use Rattle.orient.specs.Formed.{most_formed}
use Rattle.orient.specs.Signs.{Upto, Four}
use Rattle.orient.specs.Terms.{factor, is_plus, positive_at}
use Rattle.questions.specs.Answers.{mask_in, inside_in, listing_in, verdict_in}
use Rattle.theorem_demands.specs.Words.{SolidNumber, VertexOf}

-- ---- the rows

-- the row (N·x + k·i, N·y + k·i², N·z + k·i³, w) of point i
abbrev pub shifted_row : ℕ → (ℕ → Row) → ℕ → Row
shifted_row N row i =
    let r = row i in
    let k = factor r.w in
    record {
      x = pos N *ℤ r.x +ℤ k *ℤ pos i;
      y = pos N *ℤ r.y +ℤ k *ℤ (pos i *ℤ pos i);
      z = pos N *ℤ r.z +ℤ k *ℤ (pos i *ℤ pos i *ℤ pos i);
      w = r.w;
    }

-- the scene with other rows in place of its own
abbrev pub with_rows : View → (ℕ → Row) → View
with_rows v row' = record { verts_a = v.verts_a; faces_in_a = v.faces_in_a; verts_b = v.verts_b; faces_in_b = v.faces_in_b; row = row'; face = v.face }

-- with these, and their determinant
abbrev pub shifted_view : ℕ → View → View
shifted_view N v = with_rows v (shifted_row N v.row)

abbrev pub shifted_det : ℕ → View → (a b c d : ℕ) → ℤ
shifted_det N v a b c d =
    let r = shifted_row N v.row in
    det4 (r a) (r b) (r c) (r d)

-- no determinant of four different points is zero; its sign is that of the scene (signs), and the one that the shifted rows are seen with
-- (seen); so are the masks, the numbers of enclosed vertices, the listing and the verdict
pub record SameShifted (s : List ℕ) (v : View) (N : ℕ) : Type 0 where
  pub nonzero : (a b c d : ℕ) → Four (Upto (points v)) a b c d → shifted_det N v a b c d ≢ pos 0
  pub signs : (a b c d : ℕ) → Four (Upto (points v)) a b c d → is_plus (sign (shifted_det N v a b c d)) ≡ positive_at v.row a b c d
  pub seen : (a b c d : ℕ) → Four (Upto (points v)) a b c d →
      is_plus (sign (shifted_det N v a b c d)) ≡ positive_at (shifted_view N v).row a b c d
  pub masks : (u w k : ℕ) → SolidNumber k → Upto (points v) u → Upto (points v) w → u ≢ w → ¬ VertexOf s k u → ¬ VertexOf s k w →
      mask_in (shifted_view N v) u w k ≡ mask_in v u w k
  pub inside : (k : ℕ) → inside_in (shifted_view N v) k ≡ inside_in v k
  pub listing : listing_in (shifted_view N v) ≡ listing_in v
  pub verdict : verdict_in (shifted_view N v) ≡ verdict_in v

abbrev pub Shift : Type 0
Shift = (s : List ℕ) → judged s ≡ Ok tt → (N : ℕ) → most_formed < N → SameShifted s (view_of s) N

-- A plane at a point is c0 of four points, turned as the plane is. Assumes nothing.
use Rattle.std.specs.Prelude.{◌≡◌, ℕ, ◌≤◌, ℤ, pos}
use Rattle.std.proofs.Common.{sym, subst, ◌∙◌}
use Rattle.scene.specs.Limits.{limits}
use Rattle.scene.specs.Arrays.{AllWithin}
use Rattle.scene.specs.declared.Row.{Row}
use Rattle.scene.specs.declared.Face.{Face}
use Rattle.orient.specs.Formed.{most_formed}
use Rattle.orient.specs.Minors.{join_of}
use Rattle.orient.specs.Terms.{c0_at}
use Rattle.survey_sides.specs.Planes.{span_of, plane_of, plane_for, dot_of, plane_term}
use Rattle.survey_sides.specs.Sides.{Ready}
use Rattle.survey_sides.specs.Sizes.{SpanWithin, dot_size, span_formed, dot_formed}
use Rattle.orient.specs.declared.minors.Line.{Line}

-- the plane of points i, j and k, spanned by the line l of the first two and the row y of the third
module _ (row : ℕ → Row) (i j k : ℕ) {l : Line} {y : Row} (p : l ≡ join_of (row i) (row j)) (q : y ≡ row k) where
  pub span_asked : AllWithin limits row → SpanWithin most_formed l y
  span_asked h =
      subst (λ (m : Line). SpanWithin most_formed m y) (sym p) (subst (λ (z : Row). SpanWithin most_formed (join_of (row i) (row j)) z) (sym q)
      (span_formed (h i) (h j) (h k)))

  pub spanned : {x : Row} → x ≡ span_of l y → x ≡ plane_of (row i) (row j) (row k)
  unfolding plane_of
  spanned e = e ∙ (λ o. span_of (p o) (q o))

-- x is the plane of points i, j and k, and y the row of point m
module _ (row : ℕ → Row) (i j k m : ℕ) {x y : Row} (p : x ≡ plane_of (row i) (row j) (row k)) (q : y ≡ row m) where
  pub dot_asked : AllWithin limits row → dot_size x y ≤ most_formed
  dot_asked h = subst (λ (s : ℕ). s ≤ most_formed) (λ o. dot_size (sym p o) (sym q o)) (dot_formed (h i) (h j) (h k) (h m))

  pub dot_term : {d : ℤ} → d ≡ dot_of x y → d ≡ c0_at row i j k m
  dot_term e = e ∙ (λ o. dot_of (p o) (q o)) ∙ plane_term row i j k m

-- the face's plane has the point
abbrev pub InPlane : (ℕ → Row) → Face → ℕ → Type 0
InPlane row f t = c0_at row f.p f.q f.r t ≡ pos 0

-- the same for a face whose turned plane is in the table, and a point
module _ (row : ℕ → Row) (face : ℕ → Face) (plane : ℕ → Row) (t k : ℕ) {x y : Row} (ready : Ready row face plane t k) (p : x ≡ plane k)
    (q : y ≡ row t) where
  corners : x ≡ plane_of (row (face k).q) (row (face k).p) (row (face k).r)
  unfolding plane_for
  corners = p ∙ ready.made

  pub above_asked : AllWithin limits row → dot_size x y ≤ most_formed
  above_asked = dot_asked row (face k).q (face k).p (face k).r t corners q

  pub negated_plane : {d : ℤ} → d ≡ dot_of x y → d ≡ c0_at row (face k).q (face k).p (face k).r t
  negated_plane = dot_term row (face k).q (face k).p (face k).r t corners q

-- Parity holds: an accepted scene's points have weights and its solids are closed. Assumes nothing.
use Rattle.std.specs.Prelude.{◌≡◌, true, false, List, ℕ, ◌+◌, Ok}
use native.Mathlib.Omega.{arith}
use Rattle.std.proofs.Common.{ne_eqb}
use Rattle.laws.specs.Decides.{fails_iff}
use Rattle.laws.specs.Lists.{run, number_once}
use Rattle.scene.specs.Limits.{Limits, limits}
use Rattle.scene.specs.Records.{verts_a}
use Rattle.scene.specs.Read.{points_are}
use Rattle.scene.specs.View.{View, view_of, points, solid}
use Rattle.scene.specs.View.Laws.{either_solid}
use Rattle.scene.specs.declared.Solid as numbers
use Rattle.judge.specs.Judge.{judged_at, refuse_unless}
use Rattle.rules.proofs.Given.{weighted, each_of_a, each_of_b, edges_of_a, edges_of_b}
use Rattle.judge.specs.Tests.{within_iff}
use Rattle.orient.specs.Signs.{Upto}
use Rattle.orient.specs.Weighted.{Weighted}
use Rattle.pierce.specs.Parity.{Solid, Triangle, solid_by_edges}
use Rattle.pierce.specs.Scene.{scene_parity, scene_route}
use Rattle.questions.specs.Answers.{or_refuse, is_point, is_vertex_of, edge_and_solid, ends_off_solid, mask_fault, mask_in, masked_in, masked_of}
use Rattle.questions.specs.Answers.{is_solid}
use Rattle.theorem_demands.specs.Parity.{Outside, Parity, CountParity, Route, ParityAt, MasksAreTheAnswers}
use Rattle.theorem_demands.specs.Words.{SolidNumber, VertexOf}
use Rattle.theorem_demands.proofs.Words.Solids.{vertex_of}
use Rattle.theorem_demands.proofs.Exact.Mask.{mask_is}

module _ (s : List ℕ) where
  abbrev v : View
  v = view_of s

  -- each edge of a solid lies in an even number of its faces
  abbrev IsClosed : numbers.Solid → Type 0
  IsClosed o = Solid (points v) o.vert0 (o.vert0 + o.verts) (run v.face (o.face0 + 1) o.faces)

  module _ (l : Limits) (ok : judged_at l s ≡ Ok tt) where
    closed : (k : ℕ) → IsClosed (solid v k)
    closed =
        let e : 0 + verts_a s ≡ verts_a s = omega arith in
        either_solid v IsClosed
        (rw e (solid_by_edges _ (omega arith) (each_of_a l s ok) (edges_of_a l s ok)))
        (solid_by_edges _ (omega arith) (each_of_b l s ok) (edges_of_b l s ok))

    all_weighted : Weighted (points v) v.row
    all_weighted i a b = weighted l s ok i a (omega (arith, points_are s))

  module _ {k a b c : ℕ} (n : SolidNumber k) (h : Outside s k a b c) where
    triangle : Triangle (points v) (solid v k).vert0 ((solid v k).vert0 + (solid v k).verts) a b c
    triangle =
        record {
          u_in = h.each.0.0;
          v_in = h.each.1.0.0;
          w_in = h.each.1.1.0.0;
          uv = h.different.0;
          uw = h.different.1;
          vw = h.different.2;
          u_out = λ x. h.each.0.1 ((vertex_of s k n a).0 x);
          v_out = λ x. h.each.1.0.1 ((vertex_of s k n b).0 x);
          w_out = λ x. h.each.1.1.0.1 ((vertex_of s k n c).0 x);
        }

module _ (l : Limits) where
  parity : Parity l
  unfolding mask_in
  parity s ok k n a b c h =
      let o = solid (view_of s) k in
      scene_parity _ _ (all_weighted s l ok) (view_of s).face o.face0 o.faces (closed s l ok k) a b c (triangle s n h)

  count_parity : CountParity l
  unfolding mask_in
  count_parity s ok k n a b c h x y z p q r =
      let o = solid (view_of s) k in
      omega (
        arith,
        parity s ok k n a b c h,
        number_once p (mask_is s a b o.face0 o.faces).count,
        number_once q (mask_is s b c o.face0 o.faces).count,
        number_once r (mask_is s c a o.face0 o.faces).count,
      )

  route : Route l
  unfolding mask_in
  route s ok k n a b c h =
      let o = solid (view_of s) k in
      scene_route _ _ (all_weighted s l ok) (view_of s).face o.face0 o.faces (closed s l ok k) a b c (triangle s n h)

  pub parity_at : ParityAt l
  parity_at = record { parity = parity; count_parity = count_parity; route = route }

pub kernel_parity : ParityAt limits
kernel_parity = parity_at limits

-- ---- the questions are not refused

module _ (s : List ℕ) (k i : ℕ) where
  point : Upto (points (view_of s)) i → is_point (view_of s) i ≡ true
  unfolding is_point
  point h = (within_iff 1 (points (view_of s)) i).1 h

  out : SolidNumber k → ¬ VertexOf s k i → is_vertex_of (view_of s) k i ≡ false
  unfolding is_vertex_of
  out h n = (fails_iff _ (within_iff _ _ i)).1 (λ x. n ((vertex_of s k h i).0 (omega arith)))

pub asked : MasksAreTheAnswers
unfolding masked_of masked_in mask_fault edge_and_solid is_solid ends_off_solid or_refuse refuse_unless
asked s ok k n a b c h =
    rw (
      ok,
      point s k a h.each.0.0,
      point s k b h.each.1.0.0,
      (within_iff 1 2 k).1 n,
      ne_eqb a b h.different.0,
      out s k a n h.each.0.1,
      out s k b n h.each.1.0.1,
    )

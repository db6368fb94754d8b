-- A table has room for the edges of a solid: there are three for two faces at most. Assumes nothing.
use Rattle.std.specs.Prelude.{◌≡◌, true}
use Rattle.std.proofs.Math.Path.{ap}
use Rattle.std.proofs.Common.{◌∙◌}
use Prim.Native.Nat.{ℕ, ◌+◌, ◌≤◌}
use native.Mathlib.Omega.{arith}
use Rattle.std.proofs.Math.ListN.{length}
use Rattle.laws.specs.Mask.{digit}
use Rattle.scene.specs.declared.Solid.{Solid}
use Rattle.questions.specs.Hits.{PierceView}
use Rattle.survey_edges.specs.Table.{most_edges}
use Rattle.survey_edges.specs.Sums.{sum_of}
use Rattle.survey_edges.specs.Runs.{up_to_length, only_length}
use Rattle.survey_edges.specs.Edges.{entry, vertex_edges, solid_edges, Within}
use Rattle.survey_edges.specs.Pairs.{pair_sum}
use Rattle.survey_edges.specs.Counted.{is_edge, edges_where}

module _ (s : PierceView) (k : Solid) where
  edges_length : length (solid_edges s k) ≡ pair_sum (λ i j. digit (is_edge s.face k i j)) k.verts
  unfolding solid_edges vertex_edges
  edges_length =
      up_to_length (λ i. vertex_edges s k (k.vert0 + 1 + i)) k.verts
      ∙ ap (λ (g : ℕ → ℕ). sum_of g k.verts) (λ t i. from i t)
    where
      from : (i : ℕ) → length (vertex_edges s k (k.vert0 + 1 + i)) ≡ sum_of (λ j. digit (is_edge s.face k i j)) k.verts
      from i =
          up_to_length _ k.verts
          ∙ ap (λ (g : ℕ → ℕ). sum_of g k.verts)
          (λ t j. only_length (is_edge s.face k i j) (entry s k (k.vert0 + 1 + i) (k.vert0 + 1 + j)) t)

  module _ (ok : Within s k) where
    pub solid_room : length (solid_edges s k) ≤ most_edges
    solid_room =
        omega (arith, edges_length, edges_where s.face k ok.closed (λ u v. true) 3 (λ f. omega arith), ok.few)

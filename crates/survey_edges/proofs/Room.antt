-- The table has room for the edges of a solid's first vertices too. Assumes nothing.
use Rattle.std.specs.Prelude.{◌≡◌}
use Rattle.std.proofs.Math.Path.{ap}
use mathlib.Core.List.{List}
use Prim.Native.Nat.{ℕ, suc, ◌+◌, ◌-◌, ◌≤◌, ◌<◌}
use native.Mathlib.Omega.{arith}
use Rattle.std.proofs.Math.ListN.{length, length-append}
use Rattle.laws.specs.Runs.{up_to, up_to_join}
use Rattle.scene.specs.declared.Solid.{Solid}
use Rattle.questions.specs.Hits.{PierceView}
use Rattle.survey_edges.specs.Table.{Entry, most_edges}
use Rattle.survey_edges.specs.Edges.{vertex_edges, solid_edges, Within}
use Rattle.survey_edges.specs.Room.{solid_room}

module _ (s : PierceView) (k : Solid) (ok : Within s k) where
  -- those of the first vertices, up to the i-th
  pub room : (i : ℕ) → i < k.verts →
      length (up_to (λ j. vertex_edges s k (k.vert0 + 1 + j)) i) + length (vertex_edges s k (k.vert0 + 1 + i)) ≤ most_edges
  unfolding up_to solid_edges
  room i h =
      let g : ℕ → List Entry = λ j. vertex_edges s k (k.vert0 + 1 + j) in
      let e : suc i + (k.verts - suc i) ≡ k.verts = omega arith in
      omega (
        arith,
        length-append (up_to g i) (g i),
        ap length (up_to_join g (suc i) (k.verts - suc i)),
        length-append (up_to g (suc i)) (up_to (λ j. g (suc i + j)) (k.verts - suc i)),
        ap (λ (n : ℕ). length (up_to g n)) e,
        solid_room s k ok,
      )

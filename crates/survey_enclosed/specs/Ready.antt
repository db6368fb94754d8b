-- What enclosure along edges rests on: the other solid is closed, and an edge of an odd mask leads across it. Assumes nothing.
use Rattle.std.specs.Prelude.{◌≡◌, ◌≢◌, ℕ, ◌+◌, ◌<◌}
use Rattle.std.proofs.Common.{arith}
use Rattle.laws.specs.Bools.{◌⊕◌}
use Rattle.laws.specs.Lists.{run}
use Rattle.scene.specs.Faces.{Vertex}
use Rattle.scene.specs.declared.Solid as own
use Rattle.pierce_masks.specs.Faces.{is_odd}
use Rattle.pierce.specs.Parity.{Solid}
use Rattle.pierce.specs.Scene.{scene_enclosed}
use Rattle.questions.specs.Hits.{PierceView, Own, edge_mask, enclosed_vertex}
use Rattle.survey_edges.specs.Edges.{Within}

module _ (s : PierceView) (k : own.Solid) where
  -- the other solid's vertices are the points above `low`, up to `high`
  pub record Ready : Type 0 where
    pub within : Within s k
    pub low : ℕ
    pub high : ℕ
    pub closed : Solid s.points low high (run s.face (k.other0 + 1) k.others)
    pub apart : (u : ℕ) → Own s k u → Vertex low high u → ⊥
    pub far : Vertex low high s.points → ⊥
    pub before : k.vert0 + k.verts < s.points

  -- exactly one end of an edge of an odd mask is enclosed
  pub across : Ready → (u v : ℕ) → Own s k u → Own s k v → u ≢ v → is_odd (edge_mask s k u v) ≡ enclosed_vertex s k u ⊕ enclosed_vertex s k v
  unfolding edge_mask enclosed_vertex
  across r u v hu hv d =
      scene_enclosed s.points s.row r.within.sound.weighted s.face k.other0 k.others r.closed u v
      (record {
        u_in = omega (arith, r.before);
        v_in = omega (arith, r.before);
        w_in = omega (arith, r.before);
        uv = d;
        uw = λ e. omega (arith, r.before);
        vw = λ e. omega (arith, r.before);
        u_out = r.apart u hu;
        v_out = r.apart v hv;
        w_out = r.far;
      })

-- A first look at a few edges: a pair that it finds is the first of all. Assumes nothing.
use Rattle.std.specs.Prelude.{◌≡◌, refl, List, ℕ, ◌+◌, ◌*◌, ◌/◌, ◌≤◌, ◌<◌, ℤ, Some, None}
use Rattle.std.proofs.Common.{sym, ap, subst, ◌∙◌, arith}
use Rattle.scene.specs.Limits.{limits, most_points}
use Rattle.scene.specs.Arrays.{AllWithin, FacesWithin}
use Rattle.scene.specs.declared.Solid.{Solid}
use Rattle.scene.specs.Edges.{neighbours}
use Rattle.questions.specs.Hits.{PierceView, Hit, Own, Sound, solid_hits}
use Rattle.questions.specs.First.{first_of, first_start}
use Rattle.questions.specs.Types.{Found}
use Rattle.survey_sides.specs.Sides.{plane_in, ReadyAll, ready_ends}
use Rattle.survey_edges.specs.Edges.{Higher, vertex_edges}
use Rattle.survey_edges.specs.Order.{higher}
use Rattle.survey_narrow.specs.Sides.{Made}
use Rattle.survey_first.specs.First.{hits_of, all_found}

-- what a look at some of the hits l tells: a pair is the first of l, and nothing found says nothing
abbrev pub FirstIfFound : List Hit → Found → Type 0
FirstIfFound l None = Unit {0}
FirstIfFound l (Some (u, v, f)) = Some (u, v, f) ≡ first_of l

pub glimpsed_pair : (l : List Hit) (o : Found) {u v f : ℕ} → o ≡ Some (u, v, f) → FirstIfFound l o → o ≡ first_of l
glimpsed_pair l None p g = cc
glimpsed_pair l (Some (u, v, f)) p g = g

-- ---- from the first vertex

module _ (s : PierceView) (k : Solid) (sound : Sound s k) (some : 0 < k.verts) where
  at : k.vert0 + 1 + 0 ≡ k.vert0 + 1
  at = omega arith

  pub higher_first : {w : ℕ} → w ≡ neighbours s.face k (k.vert0 + 1) → Higher s k (k.vert0 + 1) (w / 2)
  higher_first {w} e =
      subst (λ (u : ℕ). Higher s k u (w / 2)) at (higher s k sound 0 some (e ∙ ap (neighbours s.face k) (sym at)))

  -- the first of its pairs is the first of all
  pub glimpsed_first : (o : Found) → FirstIfFound (hits_of s k (vertex_edges s k (k.vert0 + 1))) o → FirstIfFound (solid_hits s k) o
  glimpsed_first None g = g
  glimpsed_first (Some (u, v, f)) g =
      all_found s k sound 0 some (first_start _) (g ∙ ap (λ (x : ℕ). first_of (hits_of s k (vertex_edges s k x))) (sym at)) refl

-- what telling the sides of one vertex asks for
pub side_asked : (s : PierceView) (k : Solid) {planes : List ℤ} (t : ℕ) → Sound s k → Made s.row s.face k planes → Own s k t →
    (AllWithin limits s.row × FacesWithin limits s.face × (t ≤ most_points limits))
    × (((k.other0 + k.others ≤ 2 * limits.most_faces) × (k.others ≤ limits.most_faces))
    × ReadyAll s.row s.face (plane_in planes k.other0) t k.other0 k.others)
side_asked s k {planes} t o made own = (
  (o.rows, o.faces, omega (arith, o.vertices.1)),
  (
    o.other,
    (ready_ends s.row s.face (plane_in planes k.other0) k.other0 k.others o.weighted made.has (o.outward t own)).0,
  ),
)

-- What is answered of a scene depends on its rows by what pierces alone: two kinds of rows with which the same edges pierce the same faces
-- give the same masks, hits and enclosed vertices. Assumes nothing.
use Rattle.std.specs.Prelude.{◌≡◌, Bool, ◌&&◌, ℕ, ◌+◌, ◌≤◌, ◌<◌}
use Rattle.std.proofs.Math.Path.{refl, ap}
use Rattle.std.proofs.Math.Bool.{true, false, cond}
use mathlib.Core.List.{List, []}
use Rattle.std.proofs.Common.{arith, ltb-true}
use Rattle.std.proofs.Math.Dec.{ltb}
use Rattle.laws.specs.Range.{count_same, lowest_same}
use Rattle.laws.specs.Mask.{mask_same}
use Rattle.laws.specs.Runs.{up_to_same}
use Rattle.scene.specs.declared.Row.{Row}
use Rattle.scene.specs.declared.Face.{Face}
use Rattle.scene.specs.declared.Solid.{Solid}
use Rattle.scene.specs.Edges.{joined}
use Rattle.pierce.specs.Formula.{pierced}
use Rattle.pierce.specs.Beside.{Beside, BesideAll}
use Rattle.pierce_masks.specs.Faces.{is_odd}
use Rattle.pierce.specs.Against.{mask_against}
use Rattle.questions.specs.Hits.{PierceView, Hit, Own, Sound, face_hits, edge_hits, pair_hits, pairs_at, vertex_hits, solid_hits}
use Rattle.questions.specs.Hits.{enclosed_vertex, enclosed_count, lowest_enclosed}

-- with both kinds of rows an edge beside a face pierces it, or with neither
abbrev pub SamePierced : (n : ℕ) (row row' : ℕ → Row) → Type 0
SamePierced n row row' = (u v : ℕ) (f : Face) → Beside n u v f → pierced n row u v f ≡ pierced n row' u v f

module _ (n : ℕ) (row row' : ℕ → Row) (face : ℕ → Face) (same : SamePierced n row row') where
  pub masks_same : (u v first count : ℕ) → BesideAll n u v face first count →
      mask_against n row face u v first count ≡ mask_against n row' face u v first count
  masks_same u v first count h =
      mask_same (λ i. pierced n row u v (face (first + 1 + i))) (λ i. pierced n row' u v (face (first + 1 + i))) count
      (λ i b. same u v (face (first + 1 + i)) (h i b))

  abbrev o : PierceView
  o = record { points = n; row = row; face = face }

  abbrev o' : PierceView
  o' = record { points = n; row = row'; face = face }

  module _ (k : Solid) (sound : Sound o k) where
    edge_same : (u v : ℕ) → Own o k u → Own o k v → u < v → edge_hits o k u v ≡ edge_hits o' k u v
    unfolding edge_hits face_hits
    edge_same u v a b l =
        up_to_same (face_hits o k u v) (face_hits o' k u v) k.others
        (λ i c. rw (same u v (face (k.other0 + 1 + i)) (sound.edges u v a b l i c)))

    pair_same : (u v : ℕ) (both : Bool) → Own o k u → Own o k v → pair_hits o k u v both ≡ pair_hits o' k u v both
    unfolding pair_hits
    pair_same u v both a b = by (ltb u v) refl
      where
        by : (t : Bool) → ltb u v ≡ t → cond (t && both) (edge_hits o k u v) [] ≡ cond (t && both) (edge_hits o' k u v) []
        by false e = refl
        by true e = ap (λ (hits : List Hit). cond both hits []) (edge_same u v a b (ltb-true u v e))

    vertex_same : (u : ℕ) → Own o k u → vertex_hits o k u ≡ vertex_hits o' k u
    unfolding vertex_hits
    vertex_same u a =
        up_to_same (pairs_at o k u) (pairs_at o' k u) k.verts
        (λ m b. pair_same u (k.vert0 + 1 + m) (joined face k u (k.vert0 + 1 + m)) a (omega arith))

    pub hits_same : solid_hits o k ≡ solid_hits o' k
    unfolding solid_hits
    hits_same =
        up_to_same (λ i. vertex_hits o k (k.vert0 + 1 + i)) (λ i. vertex_hits o' k (k.vert0 + 1 + i)) k.verts
        (λ i b. vertex_same (k.vert0 + 1 + i) (omega arith))

    inside_same : (u : ℕ) → k.vert0 + 1 ≤ u → u < k.vert0 + 1 + k.verts → enclosed_vertex o k u ≡ enclosed_vertex o' k u
    unfolding enclosed_vertex
    inside_same u l m = ap is_odd (masks_same u n k.other0 k.others (sound.outward u (omega arith)))

    pub counts_same : enclosed_count o k ≡ enclosed_count o' k
    unfolding enclosed_count
    counts_same = count_same (enclosed_vertex o k) (enclosed_vertex o' k) (k.vert0 + 1) (k.vert0 + 1 + k.verts) inside_same

    pub lowests_same : lowest_enclosed o k ≡ lowest_enclosed o' k
    unfolding lowest_enclosed
    lowests_same = lowest_same (enclosed_vertex o k) (enclosed_vertex o' k) (k.vert0 + 1) (k.vert0 + 1 + k.verts) inside_same

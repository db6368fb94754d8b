-- The pierced pairs of a scene in the order of the listing: edges of A with faces of B, then edges of B with faces of A; by lower point,
-- then higher point, then face. Assumes nothing.
use Rattle.std.specs.Prelude.{ℕ, ◌+◌, ◌*◌, ◌≤◌, ◌<◌, Bool, ◌&&◌, List, [], ◌∷◌, ltb, ℤ}
use Rattle.laws.specs.Range.{count_of, lowest_of}
use Rattle.laws.specs.Runs.{up_to, only}
use Rattle.scene.specs.Limits.{limits, most_points}
use Rattle.scene.specs.Arrays.{row_in, face_in, AllWithin, FacesWithin}
use Rattle.scene.specs.Faces.{Vertex}
use Rattle.scene.specs.declared.Row.{Row}
use Rattle.scene.specs.declared.Face.{Face}
use Rattle.scene.specs.Edges.{joined, Corners}
use Rattle.scene.specs.declared.Solid.{Solid}
use Rattle.orient.specs.Weighted.{Weighted}
use Rattle.pierce.specs.Formula.{pierced}
use Rattle.pierce.specs.Beside.{BesideAll}
use Rattle.pierce.specs.Against.{mask_against, enclosed}

-- what piercing reads of a scene: the number of its points, the far point's the last, and the rows and faces by their numbers
pub record PierceView : Type 0 where
  pub points : ℕ
  pub row : ℕ → Row
  pub face : ℕ → Face

-- as it stands in the arrays that a scene of n points was decoded into
abbrev pub view_in : ℕ → List ℤ → List ℕ → PierceView
view_in n rows corners = record { points = n; row = row_in rows; face = face_in corners }

-- an edge, lower point first, and a face that it pierces
pub record Hit : Type 0 where
  pub low : ℕ
  pub high : ℕ
  pub face : ℕ

module _ (s : PierceView) (k : Solid) where
  -- the edge u, v with the i-th face of the other solid, from 0, where it is pierced
  unfoldable pub face_hits : (u v i : ℕ) → List Hit
  face_hits u v i =
      only (pierced s.points s.row u v (s.face (k.other0 + 1 + i))) (record { low = u; high = v; face = k.other0 + 1 + i } ∷ [])

  unfoldable pub edge_hits : (u v : ℕ) → List Hit
  edge_hits u v = up_to (face_hits u v) k.others

  -- u and v are an edge where some face has both as corners, and u is the lower
  unfoldable pub pair_hits : (u v : ℕ) → Bool → List Hit
  pair_hits u v both = only (ltb u v && both) (edge_hits u v)

  abbrev pub pairs_at : (u m : ℕ) → List Hit
  pairs_at u m = pair_hits u (k.vert0 + 1 + m) (joined s.face k u (k.vert0 + 1 + m))

  -- the edges from u to the solid's vertices, in rising order
  unfoldable pub vertex_hits : ℕ → List Hit
  vertex_hits u = up_to (pairs_at u) k.verts

  -- the edges of the solid
  unfoldable pub solid_hits : List Hit
  solid_hits = up_to (λ i. vertex_hits (k.vert0 + 1 + i)) k.verts

  -- ---- the edge's mask, and the solid's vertices that the other one encloses: how many, and the lowest (the number behind the last, if
  -- none)

  unfoldable pub edge_mask : (u v : ℕ) → ℕ
  edge_mask u v = mask_against s.points s.row s.face u v k.other0 k.others

  unfoldable pub enclosed_vertex : ℕ → Bool
  enclosed_vertex u = enclosed s.points s.row s.face u k.other0 k.others

  unfoldable pub enclosed_count : ℕ
  enclosed_count = count_of enclosed_vertex (k.vert0 + 1) (k.vert0 + 1 + k.verts)

  unfoldable pub lowest_enclosed : ℕ
  lowest_enclosed = lowest_of enclosed_vertex (k.vert0 + 1) (k.vert0 + 1 + k.verts)

  -- a vertex of the solid
  abbrev pub Own : ℕ → Type 0
  Own = Vertex k.vert0 (k.vert0 + k.verts)

  -- what the limits and the rules give: with it every number that is formed on the way has room, and every sign can be asked for
  pub record Sound : Type 0 where
    pub rows : AllWithin limits s.row
    pub faces : FacesWithin limits s.face
    pub points : (6 ≤ s.points) × (s.points ≤ most_points limits)
    pub vertices : (k.verts ≤ limits.most_vertices) × (k.vert0 + k.verts ≤ most_points limits)
    pub own : k.face0 + k.faces ≤ 2 * limits.most_faces
    pub other : (k.other0 + k.others ≤ 2 * limits.most_faces) × (k.others ≤ limits.most_faces)
    pub corners : Corners s.face k
    pub weighted : Weighted s.points s.row
    pub edges : (u v : ℕ) → Own u → Own v → u < v → BesideAll s.points u v s.face k.other0 k.others
    pub outward : (u : ℕ) → Own u → BesideAll s.points u s.points s.face k.other0 k.others

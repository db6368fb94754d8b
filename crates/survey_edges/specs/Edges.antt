-- The edges of a solid in the order of the listing, each with its mask against the other solid. Assumes nothing.
use Rattle.std.specs.Prelude.{◌&&◌, List, [], ◌∷◌, ◌++◌, ◌≡◌, ℕ, ◌+◌, ◌-◌, ◌^◌, ◌≤◌, ◌<◌, ltb, length, get_or}
use Rattle.laws.specs.Lists.{run}
use Rattle.laws.specs.Walk.{places}
use Rattle.laws.specs.Runs.{up_to, only}
use Rattle.scene.specs.Limits.{limits}
use Rattle.scene.specs.Edges.{joined, neighbours}
use Rattle.scene.specs.declared.Solid.{Solid}
use Rattle.pierce.specs.Closed.{Closed}
use Rattle.questions.specs.Hits.{PierceView, Sound, Own, edge_mask}
use Rattle.survey_edges.specs.Table.{Entry, entries_in, each}

module _ (s : PierceView) (k : Solid) where
  abbrev pub entry : (u v : ℕ) → Entry
  entry u v = record { low = u; high = v; mask = edge_mask s k u v }

  -- from u to the solid's higher vertices, in rising order
  unfoldable pub vertex_edges : ℕ → List Entry
  vertex_edges u =
      up_to (λ m. only (ltb u (k.vert0 + 1 + m) && joined s.face k u (k.vert0 + 1 + m)) (entry u (k.vert0 + 1 + m) ∷ [])) k.verts

  unfoldable pub solid_edges : List Entry
  solid_edges = up_to (λ i. vertex_edges (k.vert0 + 1 + i)) k.verts

  -- ---- as the code goes: by the bits of a word, bit t for the t-th vertex above u

  abbrev pub bit_edges : (u w : ℕ) → List Entry
  bit_edges u w = each (λ t. entry u (u + 1 + t) ∷ []) (places 64 0 w)

  -- w has u's higher neighbours
  pub record Higher (u w : ℕ) : Type 0 where
    pub small : w < 2 ^ (k.vert0 + k.verts - u)
    pub edges : bit_edges u w ≡ vertex_edges u

  -- what the limits and the rules give: the solid is closed, so that its edges have room in a table
  pub record Within : Type 0 where
    pub sound : Sound s k
    pub few : k.faces ≤ limits.most_faces
    pub closed : Closed (run s.face (k.face0 + 1) k.faces)

  -- the word of each vertex of the solid has its neighbours
  abbrev pub AreLinks : List ℕ → Type 0
  AreLinks links = (u : ℕ) → Own s k u → get_or links u 0 ≡ neighbours s.face k u

-- the edges l stand behind the first `at` of the table; the sizes of the arrays stay
pub record Filled (l : List Entry) (at : ℕ) (ends masks ends' masks' : List ℕ) (r : ℕ) : Type 0 where
  pub count : r ≡ at + length l
  pub ends_size : length ends' ≡ length ends
  pub masks_size : length masks' ≡ length masks
  pub entries : entries_in ends' masks' r ≡ entries_in ends masks at ++ l

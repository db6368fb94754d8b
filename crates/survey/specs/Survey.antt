-- The survey of a scene: of each solid its edges in the order of the listing with their masks, in a table, and the word of its enclosed
-- vertices. All answers are read off it. Assumes nothing.
use Rattle.std.specs.Prelude.{◌≡◌, List, ◌++◌, ℕ, ◌*◌, ◌≤◌, length}
use Rattle.scene.specs.declared.Solid.{Solid}
use Rattle.questions.specs.Hits.{PierceView, Hit}
use Rattle.survey_edges.specs.Links.{words}
use Rattle.survey_edges.specs.Table.{most_edges, entries_in, table_hits}
use Rattle.survey_edges.specs.Edges.{solid_edges}
use Rattle.survey_enclosed.specs.Walk.{inside_word}
use Rattle.survey.specs.declared.SolidSurvey.{SolidSurvey}
use Rattle.survey.specs.declared.Survey.{Survey}

-- of one solid
pub record Surveyed (s : PierceView) (k : Solid) (ends masks : List ℕ) (p : SolidSurvey) : Type 0 where
  pub edges : entries_in ends masks p.edges ≡ solid_edges s k
  pub fits : p.edges ≤ most_edges
  pub inside : p.inside ≡ inside_word s k

-- the size of a table's arrays
abbrev pub Sized : (ends masks : List ℕ) → Type 0
Sized ends masks = (length ends ≡ 2 * most_edges) × (length masks ≡ 2 * most_edges)

-- the size of a table of a word for each point
abbrev pub Wide : List ℕ → Type 0
Wide l = length l ≡ words

-- both tables hold no more edges than they have room for
abbrev pub Fits : Survey → Type 0
Fits t = (t.a.edges ≤ most_edges) × (t.b.edges ≤ most_edges)

-- the pairs of both tables: those of A's edges with the faces from behind `a` on, then those of B's with the faces from behind `b` on
unfoldable pub pairs_of : Survey → (a b : ℕ) → (ends-a masks-a ends-b masks-b : List ℕ) → List Hit
pairs_of t a b ends-a masks-a ends-b masks-b = table_hits a ends-a masks-a t.a.edges ++ table_hits b ends-b masks-b t.b.edges

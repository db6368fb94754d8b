-- A table of edges: two ends and the mask of each, two words to a mask, and the pairs that they stand for. Assumes nothing.
use Rattle.std.specs.Prelude.{List, [], ◌∷◌, ◌++◌, ℕ, ◌+◌, ◌*◌, ◌/◌, ◌^◌, get_or}
use Rattle.scene.specs.Limits.{limits}
use Rattle.pierce_masks.specs.Faces.{width, value_of}
use Rattle.pierce_masks.specs.declared.Mask.{Mask}
use Rattle.laws.specs.Runs.{up_to}
use Rattle.questions.specs.Hits.{Hit}
use Rattle.questions.specs.WritePairs.{mask_hits}

-- the edges of a solid that a table has room for: each lies in two faces at least
abbrev pub most_edges : ℕ
most_edges = 3 * limits.most_faces / 2

-- an edge, lower point first, and the number of its mask
pub record Entry : Type 0 where
  pub low : ℕ
  pub high : ℕ
  pub mask : ℕ

abbrev pub mask_in : List ℕ → ℕ → ℕ
mask_in masks j = get_or masks (2 * j) 0 + 2 ^ 64 * get_or masks (2 * j + 1) 0

abbrev pub entry_in : (ends masks : List ℕ) → ℕ → Entry
entry_in ends masks j = record { low = get_or ends (2 * j) 0; high = get_or ends (2 * j + 1) 0; mask = mask_in masks j }

-- of an edge whose mask stands in two words
abbrev pub entry_of : (u v : ℕ) → Mask → Entry
entry_of u v m = record { low = u; high = v; mask = value_of m }

-- the first n entries
unfoldable pub entries_in : (ends masks : List ℕ) → ℕ → List Entry
entries_in ends masks n = up_to (λ j. entry_in ends masks j ∷ []) n

-- the pairs of an edge with the faces numbered from first + 1 on that its mask has
unfoldable pub entry_hits : (first : ℕ) → Entry → List Hit
entry_hits first e = mask_hits e.mask e.low e.high first width

-- g of each, one after another
unfoldable pub each : {A B : Type 0} → (A → List B) → List A → List B
each g [] = []
each g (x ∷ l) = g x ++ each g l

-- the pairs of the first n entries
abbrev pub table_hits : (first : ℕ) → (ends masks : List ℕ) → ℕ → List Hit
table_hits first ends masks n = up_to (λ j. entry_hits first (entry_in ends masks j)) n

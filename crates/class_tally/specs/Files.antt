-- The tally over scenes that stand in files of their own: what one more scene makes of the lines and the pairs, and that all of them one
-- after the other are tallied, each as one scene. The proofs stand in `FilesProof`. Assumes nothing.
use Rattle.std.specs.Prelude.{◌≡◌, List, [], ◌∷◌, map, ℕ, ◌*◌, ◌≤◌, length, replicate}
use Rattle.class_tally.specs.Tally.{mark_of, tally_of}
use Rattle.class_tally.specs.Most.{most_pairs}
use Rattle.class_tally.specs.Sums.{largest, sum_of, raised}
use Rattle.class_tally.specs.Counting.{lines, told}
use Rattle.class_tally.specs.declared.Mark.{Mark}
use Rattle.class_tally.specs.declared.Tally.{Tally}
use Rattle.class_tally.specs.declared.files.Files.{Files}

abbrev pub none : Files
none = record { lines = replicate lines 0; pairs = 0 }

-- in the first line, and in its own
abbrev pub with_mark : Files → Mark → Files
with_mark f m = record { lines = raised (raised f.lines 0) m.line; pairs = sum_of f.pairs m.pairs }

unfoldable pub with_scene : Files → List ℕ → Files
with_scene f s = with_mark f (mark_of s)

-- one after the other
unfoldable pub with_scenes : Files → List (List ℕ) → Files
with_scenes f [] = f
with_scenes f (s ∷ ss) = with_scenes (with_scene f s) ss

abbrev pub tallied : List (List ℕ) → Tally
tallied ss = told (with_scenes none ss).lines (with_scenes none ss).pairs

-- no sum stops: so it is of 41 million million files
abbrev pub Few : List (List ℕ) → Type 0
Few ss = length ss * most_pairs ≤ largest

pub record Tallying : Type 0 where
  pub whole : (ss : List (List ℕ)) → Few ss → tallied ss ≡ tally_of (map mark_of ss)
  -- each file counts as one scene
  pub scenes : (ss : List (List ℕ)) → Few ss → (tallied ss).scenes ≡ length ss

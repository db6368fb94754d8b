-- A block of scenes that the judge does not refuse with 1, 2 or 3, end to end: it has exactly these scenes, so that its report tallies each
-- of them as one. The proofs stand in `PackedProof`. Assumes nothing.
use Rattle.std.specs.Prelude.{◌≡◌, Bool, true, List, [], ◌∷◌, ◌++◌, map, ℕ, ltb, Ok, Err}
use Rattle.laws.specs.Lists.{Each}
use Rattle.scene.specs.Refusal.{number_of}
use Rattle.judge.specs.Judge.{judged}
use Rattle.judge.specs.Judge.{Judged}
use Rattle.class_block.specs.Block.{scenes_of}
use Rattle.class_tally.specs.Tally.{mark_of, tally_of, marks_of}

-- a block passes over any other refusal
abbrev pub passes : Judged → Bool
passes (Ok _) = true
passes (Err r) = ltb 3 (number_of r)

abbrev pub Whole : List ℕ → Type 0
Whole s = passes (judged s) ≡ true

unfoldable pub end_to_end : List (List ℕ) → List ℕ
end_to_end [] = []
end_to_end (s ∷ ss) = s ++ end_to_end ss

pub record Packed : Type 0 where
  pub scenes : (ss : List (List ℕ)) → Each Whole ss → scenes_of (end_to_end ss) ≡ ss
  pub tallied : (ss : List (List ℕ)) → Each Whole ss → tally_of (marks_of (end_to_end ss)) ≡ tally_of (map mark_of ss)

-- Each scene counts in a line that says what it is: a refused one in the line of its number, so that there is none without a line, and an
-- accepted one in that of its verdict. The proofs stand in `RefusalsProof`. Assumes nothing.
use Rattle.std.specs.Prelude.{◌≡◌, cond, List, ℕ, ◌-◌, ◌≤◌, ◌<◌, leb, Ok, Err}
use Rattle.scene.specs.Refusal.{number_of}
use Rattle.scene.specs.declared.Refusal.{Refusal}
use Rattle.judge.specs.Judge.{judged}
use Rattle.class_tally.specs.Tally.{mark_of}
use Rattle.class_tally.specs.Counting.{lines}

-- the number of refusals that line k counts, from line 5 on (`class_print` `Numbered` has it in the line's words)
abbrev pub number_at : ℕ → ℕ
number_at k = cond (leb k 13) (k - 4) 14

-- line k counts the refusals with number n
pub record LineOf (n k : ℕ) : Type 0 where
  pub from : 5 ≤ k
  pub to : k < lines
  pub number : number_at k ≡ n

pub record Refusals : Type 0 where
  pub refused : (s : List ℕ) (r : Refusal) → judged s ≡ Err r → LineOf (number_of r) (mark_of s).line
  pub accepted : (s : List ℕ) → judged s ≡ Ok tt → (1 ≤ (mark_of s).line) × ((mark_of s).line ≤ 4)

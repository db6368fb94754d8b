-- What each question is answered with: a refusal, or the answer. Assumes nothing.
use Rattle.std.specs.Prelude.{ℕ, Bool, Option, Result}
use Rattle.scene.specs.declared.Refusal.{Refusal}
use Rattle.orient.specs.declared.Terms.{Terms}
use Rattle.pierce_masks.specs.declared.Mask.{Mask}
use Rattle.questions.specs.declared.Counts.{Counts}
use Rattle.questions.specs.declared.Facts.{Facts}
use Rattle.questions.specs.declared.Verdict.{Verdict}

-- the four terms, and whether the first that is not zero is positive
abbrev pub Signed : Type 0
Signed = Result (Terms × Bool) Refusal

-- yes or no
abbrev pub Answer : Type 0
Answer = Result Bool Refusal

-- the mask, and how many ones it has
abbrev pub Masked : Type 0
Masked = Result (Mask × ℕ) Refusal

-- how many vertices
abbrev pub Enclosing : Type 0
Enclosing = Result ℕ Refusal

abbrev pub Counted : Type 0
Counted = Result Counts Refusal

-- how many pairs
abbrev pub Listed : Type 0
Listed = Result ℕ Refusal

abbrev pub Concluded : Type 0
Concluded = Result Verdict Refusal

abbrev pub Surveyed : Type 0
Surveyed = Result Facts Refusal

-- the first pair: its edge, lower point first, and the face that it pierces
abbrev pub Found : Type 0
Found = Option (ℕ × ℕ × ℕ)

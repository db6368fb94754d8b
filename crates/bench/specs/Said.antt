-- The lines that are printed: an operation's answer, the counts of both groups, and which word is wrong. Assumes nothing.
use Rattle.std.specs.Prelude.{[], ◌∷◌, ℕ, Ok, Err}
use Rattle.print.specs.Back.{Words}
use Rattle.print.specs.Text.{ascii, decimal}
use Rattle.questions.specs.declared.Counts.{Counts}
use Rattle.bench_moves.specs.Bench.{fault_number, fault_place}
use Rattle.bench_moves.specs.declared.Fault.{Fault}
use Rattle.bench_moves.specs.Bench.{Answer}

abbrev pub fault_line : Fault → Words
fault_line f = ascii "refused" ∷ decimal (fault_number f) ∷ decimal (fault_place f) ∷ []

abbrev pub answer_line : Answer → Words
answer_line (Ok _) = ascii "done" ∷ []
answer_line (Err f) = fault_line f

-- the counts of group one, then those of group two
abbrev pub counts_line : Counts → Counts → Words
counts_line a b =
    ascii "counts" ∷ decimal a.pairs ∷ decimal a.a_in_b ∷ decimal a.b_in_a
    ∷ decimal b.pairs ∷ decimal b.a_in_b ∷ decimal b.b_in_a ∷ []

abbrev pub usage_line : ℕ → Words
usage_line k =
    ascii "bench: word" ∷ decimal k
    ∷ ascii "is wrong or missing; usage: bench FIRST SECOND [one P X Y Z W | two P X Y Z W | lecturer N X Y Z W]..." ∷ []

-- The proofs of `Refusals`. Assumes nothing.
use Rattle.std.specs.Prelude.{◌≡◌, refl, List, ℕ, ◌+◌, ◌≤◌, Ok, Err}
use Rattle.std.proofs.Common.{sym, subst, arith, le-leb}
use Rattle.scene.specs.Limits.{limits}
use Rattle.scene.specs.Refusal.{number_of}
use Rattle.scene.specs.View.{view_of}
use Rattle.scene.specs.declared.Refusal.{Refusal}
use Rattle.scene.specs.declared.Refusal.TheVariants.{Opening, Counts, Length, Mark, Coordinate, Weight, Corner}
use Rattle.scene.specs.declared.Refusal.TheVariants.{Unused, Edge, ListTooShort, NoSuchNumber, NotDistinct, BufferTooShort, FarAllZero}
use Rattle.judge.specs.Judge.{judged}
use Rattle.judge.specs.Judge.{Judged}
use Rattle.rules.specs.Rules.{Between}
use Rattle.rules.specs.Numbers.{check_order}
use Rattle.rules.proofs.Parts.{judge_gives}
use Rattle.questions.specs.Answers.{or_refuse, verdict_in, verdict_of}
use Rattle.class_tally.specs.Tally.{refused_line, line_of, mark_of}
use Rattle.class_tally.specs.Most.{within_words}
use Rattle.class_tally.specs.Counting.{line_of_law}
use Rattle.class_tally.specs.Refusals.{number_at, LineOf, Refusals}

low_number : (n : ℕ) → n ≤ 9 → number_at (n + 4) ≡ n
low_number n b = rw (le-leb (n + 4) 13 (omega arith)) (omega arith)

low_line : (n : ℕ) → n ≤ 9 → refused_line n ≡ n + 4
low_line n b = rw (le-leb n 9 b)

low : (n : ℕ) → 1 ≤ n → n ≤ 9 → LineOf n (refused_line n)
low n a b = subst (LineOf n) (sym (low_line n b)) record { from = omega arith; to = omega arith; number = low_number n b }

-- a refusal that judging can give
line_for : (r : Refusal) → Between 1 10 (check_order r) → LineOf (number_of r) (refused_line (number_of r))
line_for Opening h = low 1 (omega arith) (omega arith)
line_for Counts h = low 2 (omega arith) (omega arith)
line_for Length h = low 3 (omega arith) (omega arith)
line_for (Mark p) h = low 4 (omega arith) (omega arith)
line_for (Coordinate p) h = low 5 (omega arith) (omega arith)
line_for (Weight p) h = low 6 (omega arith) (omega arith)
line_for (Corner p) h = low 7 (omega arith) (omega arith)
line_for (Unused p) h = low 8 (omega arith) (omega arith)
line_for (Edge p) h = low 9 (omega arith) (omega arith)
line_for (FarAllZero p) h = record { from = omega arith; to = omega arith; number = refl }
line_for (ListTooShort p) h = absurd (omega (arith, h.1))
line_for NoSuchNumber h = absurd (omega (arith, h.1))
line_for NotDistinct h = absurd (omega (arith, h.1))
line_for (BufferTooShort p) h = absurd (omega (arith, h.1))

line_is : (s : List ℕ) (j : Judged) → judged s ≡ j → (mark_of s).line ≡ line_of (or_refuse Err j (Ok (verdict_in (view_of s))))
unfolding mark_of verdict_of
line_is s j e = rw e

pub refusals : Refusals
unfolding or_refuse
refusals =
    record {
      refused = λ s r e. subst (LineOf (number_of r)) (sym (line_is s (Err r) e)) (line_for r ((judge_gives limits s).turn r e));
      accepted = λ s e. ((line_of_law s).0, rw (line_is s (Ok tt) e) (within_words s));
    }

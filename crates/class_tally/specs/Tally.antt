-- The class report: how many scenes count in each of its lines, the pierced pairs of all accepted scenes, and their mean. Assumes nothing.
use Rattle.std.specs.Prelude.{Bool, cond, ◌||◌, List, [], ◌∷◌, map, ℕ, zero, suc, ◌+◌, ◌/◌, ◌%◌, eqb, leb, length, Result, Ok, Err}
use Rattle.laws.specs.Range.{more}
use Rattle.scene.specs.Refusal.{number_of}
use Rattle.questions.specs.Answers.{verdict_of, counted_of}
use Rattle.questions.specs.Types.{Concluded}
use Rattle.questions.specs.declared.Verdict.TheVariants as verdict
use Rattle.questions.specs.Types.{Counted}
use Rattle.class_block.specs.Block.{most_bytes, scenes_of}
use Rattle.class_tally.specs.declared.Mark.{Mark}
use Rattle.class_tally.specs.declared.Tally.{Tally}
use Rattle.class_tally.specs.declared.Mean.{Mean}
use Rattle.class_tally.specs.declared.BlockError.{BlockError}
use Rattle.class_tally.specs.declared.BlockError.TheVariants.{Longer}

-- ---- the lines, in the order of the report: 0 `scenes`; 1 to 4 the verdict's words; 5 to 13 `refused 1` to `refused 9`; 14 `refused 14`

-- (`Refusals.refused`: no scene is refused with another number)
abbrev pub refused_line : ℕ → ℕ
refused_line n = cond (leb n 9) (n + 4) 14

abbrev pub line_of : Concluded → ℕ
line_of (Ok (verdict.Cross u v f)) = 1
line_of (Ok (verdict.AInB p)) = 2
line_of (Ok (verdict.BInA p)) = 3
line_of (Ok verdict.Apart) = 4
line_of (Err r) = refused_line (number_of r)

-- a refused scene has no pairs
abbrev pub pairs_in : Counted → ℕ
pairs_in (Err r) = 0
pairs_in (Ok c) = c.pairs

unfoldable pub mark_of : List ℕ → Mark
mark_of s = record { line = line_of (verdict_of s); pairs = pairs_in (counted_of s) }

-- ---- the tally of marks: how many count in line k, and the sum of their pairs

abbrev pub counts : ℕ → Mark → Bool
counts k m = eqb k 0 || eqb k m.line

unfoldable pub in_line : ℕ → List Mark → ℕ
in_line k [] = 0
in_line k (m ∷ ms) = more (counts k m) (in_line k ms)

unfoldable pub pairs_of : List Mark → ℕ
pairs_of [] = 0
pairs_of (m ∷ ms) = m.pairs + pairs_of ms

-- f k is what line k says; a are the accepted scenes, p their pairs
abbrev pub made_by : (ℕ → ℕ) → (a p : ℕ) → Tally
made_by f a p =
    record {
      scenes = f 0;
      cross = f 1;
      a_in_b = f 2;
      b_in_a = f 3;
      apart = f 4;
      refused_1 = f 5;
      refused_2 = f 6;
      refused_3 = f 7;
      refused_4 = f 8;
      refused_5 = f 9;
      refused_6 = f 10;
      refused_7 = f 11;
      refused_8 = f 12;
      refused_9 = f 13;
      refused_14 = f 14;
      accepted = a;
      pairs = p;
    }

abbrev pub made : (ℕ → ℕ) → ℕ → Tally
made f p = made_by f (f 1 + f 2 + f 3 + f 4) p

unfoldable pub tally_of : List Mark → Tally
tally_of ms = made (λ k. in_line k ms) (pairs_of ms)

unfoldable pub marks_of : List ℕ → List Mark
marks_of block = map mark_of (scenes_of block)

-- ---- the report of a block; 23 comes before all others

abbrev pub Report : Type 0
Report = Result Tally BlockError

unfoldable pub report_of : List ℕ → Report
report_of block = cond (leb (length block) most_bytes) (Ok (tally_of (marks_of block))) (Err Longer)

abbrev pub block_number : BlockError → ℕ
block_number Longer = 23

abbrev pub block_place : BlockError → ℕ
block_place e = 0

-- its refusal's number and place, both 0 where there is none
abbrev pub number_in : Report → ℕ
number_in (Err e) = block_number e
number_in (Ok t) = 0

abbrev pub place_in : Report → ℕ
place_in r = 0

-- ---- the mean of pairs over accepted scenes: whole part, remainder and divisor; three zeros when none

abbrev pub mean_over : (pairs accepted : ℕ) → Mean
mean_over p zero = record { whole = 0; remainder = 0; divisor = 0 }
mean_over p (suc n) = record { whole = p / suc n; remainder = p % suc n; divisor = suc n }

unfoldable pub mean_of : Tally → Mean
mean_of t = mean_over t.pairs t.accepted

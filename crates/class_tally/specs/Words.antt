-- The numbers of a report, and that those of a block fit the code's 64 bits. Assumes nothing.
use Rattle.std.specs.Prelude.{◌≡◌, refl, Bool, true, false, cond, List, [], ◌∷◌, ℕ, ◌≤◌, ◌<◌, ◌^◌, leb, length, Ok, Err}
use Rattle.std.proofs.Common.{arith, leb-true}
use Rattle.laws.specs.Lists.{Each}
use Rattle.class_block.specs.Block.{most_bytes, scenes_of}
use Rattle.class_block.specs.Scenes.{scenes_few}
use Rattle.class_tally.specs.Tally.{in_line, tally_of, marks_of, report_of}
use Rattle.class_tally.specs.Counting.{in_line_most, pairs_sum_most, marks_few}
use Rattle.class_tally.specs.declared.Tally.{Tally}
use Rattle.class_tally.specs.Tally.{Report}
use Rattle.class_tally.specs.declared.BlockError.TheVariants.{Longer}

abbrev pub verdict_numbers : Tally → List ℕ
verdict_numbers t = t.scenes ∷ t.cross ∷ t.a_in_b ∷ t.b_in_a ∷ t.apart ∷ []

abbrev pub low_numbers : Tally → List ℕ
low_numbers t = t.refused_1 ∷ t.refused_2 ∷ t.refused_3 ∷ t.refused_4 ∷ t.refused_5 ∷ []

abbrev pub high_numbers : Tally → List ℕ
high_numbers t = t.refused_6 ∷ t.refused_7 ∷ t.refused_8 ∷ t.refused_9 ∷ t.refused_14 ∷ []

abbrev pub Words : List ℕ → Type 0
Words = Each (λ n. n < 2 ^ 64)

pub record TallyWords (t : Tally) : Type 0 where
  pub verdicts : Words (verdict_numbers t)
  pub low : Words (low_numbers t)
  pub high : Words (high_numbers t)
  pub accepted : t.accepted < 2 ^ 64
  pub pairs : t.pairs < 2 ^ 64

abbrev pub ReportWords : Report → Type 0
ReportWords (Err Longer) = Unit {0}
ReportWords (Ok t) = TallyWords t

module _ (block : List ℕ) (h : length block ≤ most_bytes) where
  line : (k : ℕ) → in_line k (marks_of block) ≤ most_bytes
  line k = omega (arith, in_line_most k (marks_of block), marks_few block)

  word : (k : ℕ) → in_line k (marks_of block) < 2 ^ 64
  word k = omega (arith, line k)

  tally_words : TallyWords (tally_of (marks_of block))
  unfolding tally_of marks_of
  tally_words =
      record {
        verdicts = (word 0, (word 1, (word 2, (word 3, (word 4, tt)))));
        low = (word 5, (word 6, (word 7, (word 8, (word 9, tt)))));
        high = (word 10, (word 11, (word 12, (word 13, (word 14, tt)))));
        accepted = omega (arith, line 1, line 2, line 3, line 4);
        pairs = omega (arith, pairs_sum_most (scenes_of block), scenes_few block);
      }

pub report_words : (block : List ℕ) → ReportWords (report_of block)
unfolding report_of
report_words block = go (leb (length block) most_bytes) refl
  where
    go : (b : Bool) → leb (length block) most_bytes ≡ b → ReportWords (cond b (Ok (tally_of (marks_of block))) (Err Longer))
    go true e = tally_words block (leb-true (length block) most_bytes e)
    go false e = tt

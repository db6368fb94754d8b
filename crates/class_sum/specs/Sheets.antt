-- Reports end to end, read back: what is merged is the sum of their tallies, whatever their order and in whatever pieces the text comes; of
-- blocks that end with a whole scene it is the tally of the blocks end to end. So many sheets are read as so
-- many reports. The proofs stand in `SheetsProof`. Assumes nothing.
use Rattle.std.specs.Prelude.{◌≡◌, cond, List, [], ◌∷◌, ◌++◌, ℕ, ◌≤◌, length, Result, Ok, Err}
use Rattle.laws.specs.Lists.{Each}
use Rattle.class_block.specs.Block.{most_bytes}
use Rattle.class_block.specs.Parts.{Ended}
use Rattle.class_tally.specs.Tally.{report_of}
use Rattle.class_tally.specs.Merging.{plus, tally, Counted}
use Rattle.class_tally.specs.declared.Tally.{Tally}
use Rattle.class_tally.specs.Tally.{Report}
use Rattle.class_tally.specs.declared.BlockError.TheVariants.{Longer}
use Rattle.class_print.specs.Sheet.{sheet_of}
use Rattle.off_items.specs.Numbers.{largest, at_most}
use Rattle.class_read.specs.declared.Reading.{Reading}
use Rattle.class_read.specs.Totals.{reports, read_of}
use Rattle.class_sum.specs.Merged.{nothing, tally_in, reaches, sum_of}
use Rattle.class_sum.specs.declared.SumError.{SumError}
use Rattle.class_sum.specs.declared.SumError.TheVariants.{TooLarge}

-- two reports as one; a refused block has no tally, and so have all with it
abbrev pub both : Report → Report → Report
both (Err Longer) s = Err Longer
both (Ok t) (Err Longer) = Err Longer
both (Ok t) (Ok u) = Ok (plus t u)

-- behind the report r, those of the list
abbrev pub all_from : Report → List Report → Report
all_from r [] = r
all_from r (s ∷ l) = all_from (both r s) l

abbrev pub none : Tally
none = tally_in []

abbrev pub sheets : List Report → List ℕ
sheets [] = []
sheets (r ∷ l) = sheet_of r ++ sheets l

-- a tally's numbers, in the order of the totals
abbrev pub numbers_of : Tally → List ℕ
numbers_of t =
    t.scenes
    ∷ t.cross
    ∷ t.a_in_b
    ∷ t.b_in_a
    ∷ t.apart
    ∷ t.refused_1
    ∷ t.refused_2
    ∷ t.refused_3
    ∷ t.refused_4
    ∷ t.refused_5
    ∷ t.refused_6
    ∷ t.refused_7
    ∷ t.refused_8
    ∷ t.refused_9
    ∷ t.refused_14
    ∷ t.pairs
    ∷ t.accepted
    ∷ []

-- a report is told where its numbers are below the largest
abbrev pub told : Report → Result Report SumError
told (Err Longer) = Ok (Err Longer)
told (Ok t) = cond (reaches (numbers_of t)) (Err TooLarge) (Ok (Ok t))

-- no pairs without an accepted scene, as in the report of every block
abbrev pub Whole : Report → Type 0
Whole (Err Longer) = Unit {0}
Whole (Ok t) = Counted t

-- a block that fits and ends with a whole scene
pub record Kept (block : List ℕ) : Type 0 where
  pub fits : length block ≤ most_bytes
  pub ended : Ended block

abbrev pub end_to_end : List (List ℕ) → List ℕ
end_to_end [] = []
end_to_end (x ∷ l) = x ++ end_to_end l

abbrev pub reports_of : List (List ℕ) → List Report
reports_of [] = []
reports_of (x ∷ l) = report_of x ∷ reports_of l

-- n whole reports, and no part of another
abbrev pub ReadAs : ℕ → Reading → Type 0
ReadAs n r = (r.at ≡ 0) × (r.reports ≡ at_most largest n)

pub record Sheets : Type 0 where
  pub read_back : (l : List Report) → Each Whole l → sum_of (read_of reports nothing (sheets l)) ≡ told (all_from (Ok none) l)
  pub number : (l : List Report) → ReadAs (length l) (read_of reports nothing (sheets l))
  pub blocks : (l : List (List ℕ)) → Each Kept l →
      sum_of (read_of reports nothing (sheets (reports_of l))) ≡ told (Ok (tally (end_to_end l)))
  pub order : (r s : Report) → both r s ≡ both s r
  pub split : (r s q : Report) → both (both r s) q ≡ both r (both s q)
  pub pieces : (r : Reading) (s t : List ℕ) → read_of reports r (s ++ t) ≡ read_of reports (read_of reports r s) t

-- The report of all blocks whose reports were read: the sum of their tallies; refused where one of them was; too large where a sum reaches
-- the largest number of 64 bits. Assumes nothing.
use Rattle.std.specs.Prelude.{Bool, true, false, cond, List, [], ◌∷◌, ℕ, eqb, leb, get_or, replicate, Result, Ok, Err}
use Rattle.class_tally.specs.declared.Tally.{Tally}
use Rattle.class_tally.specs.Tally.{Report}
use Rattle.class_tally.specs.declared.BlockError.TheVariants.{Longer}
use Rattle.off_items.specs.Numbers.{largest}
use Rattle.class_read.specs.declared.Reading.{Reading}
use Rattle.class_sum.specs.declared.SumError.{SumError}
use Rattle.class_sum.specs.declared.SumError.TheVariants.{TooLarge, NoReport}

-- before any text
abbrev pub nothing : Reading
nothing = record { at = 0; number = 0; whole = 0; totals = replicate 17 0; longer = false; reports = 0 }

-- the totals, in the order of the report's lines
abbrev pub tally_in : List ℕ → Tally
tally_in l =
    record {
      scenes = get_or l 0 0;
      cross = get_or l 1 0;
      a_in_b = get_or l 2 0;
      b_in_a = get_or l 3 0;
      apart = get_or l 4 0;
      refused_1 = get_or l 5 0;
      refused_2 = get_or l 6 0;
      refused_3 = get_or l 7 0;
      refused_4 = get_or l 8 0;
      refused_5 = get_or l 9 0;
      refused_6 = get_or l 10 0;
      refused_7 = get_or l 11 0;
      refused_8 = get_or l 12 0;
      refused_9 = get_or l 13 0;
      refused_14 = get_or l 14 0;
      accepted = get_or l 16 0;
      pairs = get_or l 15 0;
    }

-- a total reaches the largest number
unfoldable pub reaches : List ℕ → Bool
reaches [] = false
reaches (n ∷ l) = cond (leb largest n) true (reaches l)

-- a text that ends inside a report, or does not fit the form, is not reports end to end
unfoldable pub sum_of : Reading → Result Report SumError
sum_of r =
    cond (eqb r.at 0)
    (cond r.longer (Ok (Err Longer)) (cond (reaches r.totals) (Err TooLarge) (Ok (Ok (tally_in r.totals)))))
    (Err NoReport)

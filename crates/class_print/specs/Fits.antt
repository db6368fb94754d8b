-- A report fits the room that the programs hold for it, so that all of it is printed. `ROOM` of the code is that of the definitions:
-- `room_agrees` ties the two. (That it fits is proofs/FitsRoom.) Assumes nothing.
use Rattle.std.specs.Prelude.{◌≡◌, List, ℕ, ◌≤◌, length, take}
use Rattle.print.specs.Put.{Put}
use Rattle.class_tally.specs.Tally.{report_of}
use Rattle.class_tally.specs.Words.{ReportWords}
use Rattle.class_tally.specs.Tally.{Report}
use Rattle.class_print.specs.Sheet.{sheet_of}

abbrev pub room : ℕ
room = 1136

pub record Fits : Type 0 where
  -- a report whose numbers fit 64 bits, as the code's do
  pub sheet : (r : Report) → ReportWords r → length (sheet_of r) ≤ room
  -- that of any block
  pub block : (block : List ℕ) → length (sheet_of (report_of block)) ≤ room
  -- what a program prints, the bytes before the place behind, is the whole report
  pub printed : (r : Report) → ReportWords r → (l m : List ℕ) (p : ℕ) → length l ≡ room → Put l 0 (sheet_of r) m p → take p m ≡ sheet_of r

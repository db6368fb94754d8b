-- So many bytes of the item stand.
use mathlib.Core.List.{map}
use lib.ListN.{take}
use Rattle.print.specs.Put.{Put}
use Rattle.off_words.specs.Shown.{shown_byte}
use Rattle.off_words.proofs.shown.bytes.Given as goal

abbrev pub invariant-loop-c : goal.invariant-loop-c
invariant-loop-c l = Put l.initial.out l.at (take l.c-index (map shown_byte l.w)) l.out l.p

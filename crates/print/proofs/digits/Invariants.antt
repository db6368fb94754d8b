-- The digits that stand are those behind what is left.
use mathlib.Core.Path.{◌≡◌}
use lib.ListN.{length}
use Rattle.print.specs.Put.{put}
use Rattle.print.specs.Text.{decimal}
use Rattle.print.proofs.digits.Given as goal

abbrev pub invariant-loop-i : goal.invariant-loop-i
invariant-loop-i l =
    (put l.out l.at (decimal l.rest) ≡ put l.initial.out l.at (decimal l.n)) × (l.i ≡ length (decimal l.rest))

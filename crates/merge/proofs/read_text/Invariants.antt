-- No more is read than there are bytes in the pieces that were read, and these are few enough to be counted.
use Rattle.std.specs.Prelude.{◌≡◌, ◌≤◌, ◌*◌, length}
use Rattle.merge.proofs.read_text.Given as goal

abbrev pub invariant-loop : goal.invariant-loop
invariant-loop l = (length l.piece ≡ 65536) × (l.bytes ≤ 65536 * l.counter)

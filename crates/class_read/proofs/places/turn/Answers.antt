-- From a report's end to the start of the next.
use Rattle.class_read.specs.Branches.{picks}
use Rattle.class_read.proofs.places.turn.Goals as goal

pub returns-then-byte-eq124 : goal.returns-then-byte-eq124
returns-then-byte-eq124 c = search picks

pub returns-else-byte-eq124 : goal.returns-else-byte-eq124
returns-else-byte-eq124 c = search picks

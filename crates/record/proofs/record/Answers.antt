-- A refused record has no bytes; any other is shown.
use Rattle.record.specs.Cases.{has_record, shown_none, shown_all, long_enough}
use Rattle.record.proofs.record.Goals as goal

pub returns-in-Err : goal.returns-in-Err
returns-in-Err c = search shown_none

pub record_at-requires : goal.record_at-requires
record_at-requires c = search (long_enough, has_record)

pub returns : goal.returns
returns c = search shown_all

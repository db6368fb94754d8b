-- What is taken is within the limits.
use Rattle.std.proofs.Common.{sym, arith}
use Rattle.doubles.specs.Taking.{taken_takes}
use Rattle.doubles.proofs.record.record_of.Goals as goal

pub put-requires : goal.put-requires
put-requires c = (omega arith, (taken_takes c.args.v _ (sym c.in_ok-r.ensures)).within)

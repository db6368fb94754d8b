-- `vectors::rest` meets its contract: a remainder is below its divisor.
use Rattle.std.proofs.Common.{arith, le_of_lt}
use Rattle.std.proofs.Math.Nat.{mod-lt}
use Rattle.test_vectors.proofs.rest.Goals as goal

pub returns-else-m-eq0 : goal.returns-else-m-eq0
returns-else-m-eq0 c = le_of_lt (mod-lt c.args.n (omega arith))

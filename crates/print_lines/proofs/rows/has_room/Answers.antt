-- Where the place is beyond the end nothing is left.
use Prim.Native.Nat.{◌-◌}
use mathlib.Core.Path.{sym}
use native.Mathlib.Omega.{arith}
use borrow.Author.Tests.{lt-leb}
use Rattle.print_lines.proofs.rows.has_room.Goals as goal

pub returns-then-bytes-at : goal.returns-then-bytes-at
returns-then-bytes-at c = sym (lt-leb 18 (c.args.bytes - c.args.at) (omega arith))

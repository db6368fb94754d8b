-- Four numbers are read from the array and widened, and the number is small enough to be signed.
use borrow.Author.Rules.{rules}
use native.Mathlib.Omega.{arith}
use mir.Syntax.{w64}
use mir.ValLaws.{to_z_pos}
use Rattle.scene.specs.Arrays.{row_in}
use Rattle.scene.specs.Narrow.{widens, row_read}
use Rattle.orient.proofs.point_at.Goals as goal

pub returns : goal.returns
returns c =
    let e = row_read (row_in c.args.rows.now c.args.i) (search rules) (search rules) (search rules) (search rules) in
    λ j. record { x = (e j).x; y = (e j).y; z = (e j).z; w = (e j).w; n = to_z_pos w64 c.args.i (omega arith) j }

pub overflow_cast-result : goal.overflow_cast-result
overflow_cast-result c = search (rules, widens)

pub overflow_cast-result-2 : goal.overflow_cast-result-2
overflow_cast-result-2 c = search (rules, widens)

pub overflow_cast-result-3 : goal.overflow_cast-result-3
overflow_cast-result-3 c = search (rules, widens)

pub overflow_cast-result-4 : goal.overflow_cast-result-4
overflow_cast-result-4 c = search (rules, widens)

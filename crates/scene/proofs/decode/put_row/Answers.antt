-- Numbers within the limits fit, so that they are stored as they are.
use mathlib.Core.Path.{ap}
use borrow.Author.Rules.{rules}
use Rattle.scene.specs.Decode.{row_set}
use Rattle.scene.specs.Narrow.{narrows, row_stored}
use Rattle.scene.proofs.decode.put_row.Goals as goal

pub returns : goal.returns
returns c =
    ap (row_set c.args.a.now c.args.i) (row_stored c.args.p c.requires.1)

pub overflow_cast-x : goal.overflow_cast-x
overflow_cast-x c = search (rules, narrows)

pub overflow_cast-y : goal.overflow_cast-y
overflow_cast-y c = search (rules, narrows)

pub overflow_cast-z : goal.overflow_cast-z
overflow_cast-z c = search (rules, narrows)

pub overflow_cast-w : goal.overflow_cast-w
overflow_cast-w c = search (rules, narrows)

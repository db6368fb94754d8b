-- Each number is widened as it is read.
use borrow.Author.Rules.{rules}
use Rattle.scene.specs.Arrays.{row_in}
use Rattle.scene.specs.Narrow.{widens, row_read}
use Rattle.scene.proofs.decode.row_in.Goals as goal

pub returns : goal.returns
returns c =
    row_read (row_in c.args.rows.now c.args.i) (search rules) (search rules) (search rules) (search rules)

pub overflow_cast-result : goal.overflow_cast-result
overflow_cast-result c = search (rules, widens)

pub overflow_cast-result-2 : goal.overflow_cast-result-2
overflow_cast-result-2 c = search (rules, widens)

pub overflow_cast-result-3 : goal.overflow_cast-result-3
overflow_cast-result-3 c = search (rules, widens)

pub overflow_cast-result-4 : goal.overflow_cast-result-4
overflow_cast-result-4 c = search (rules, widens)

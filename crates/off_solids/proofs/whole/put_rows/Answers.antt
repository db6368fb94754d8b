use Rattle.off_solids.specs.ReadOf.{group_next}
use Rattle.off_solids.specs.Bytes.{rows_none, rows_first, rows_more}
use borrow.Author.Rules.{rules}
use Rattle.off_solids.proofs.whole.put_rows.Goals as goal

pub loop-i-init : goal.loop-i-init
loop-i-init c =
    (rows_none c.args.text.now c.args.k _, rows_first _ c.args.h.per c.requires.0.at, c.requires.0.within)

pub loop-i-preserved : goal.loop-i-preserved
loop-i-preserved c = (search rows_more, search group_next, search rules)

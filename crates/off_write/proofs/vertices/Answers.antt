use native.Mathlib.Omega.{arith}
use Rattle.print.specs.Put.{put_full}
use Rattle.scene.specs.Tables.{tables_of, row}
use Rattle.off_write.specs.Drawing.{row_words}
use Rattle.off_write.specs.Laws.{lines_none, lines_more, lines_all}
use Rattle.off_write.proofs.vertices.Goals as goal

pub returns-then-out-at : goal.returns-then-out-at
returns-then-out-at c = put_full _ _ _ (omega arith)

pub loop-i-init : goal.loop-i-init
loop-i-init c =
    (lines_none (row_words c.args.is_four) (row (tables_of c.args.s.now)) c.args.first _ _ (omega arith))

pub loop-i-preserved : goal.loop-i-preserved
loop-i-preserved c =
    (lines_more _ _ _ c.loop-i.i c.loop-i.invariant c.row.ensures c.vertex-p.ensures)

pub returns : goal.returns
returns c = lines_all _ _ _ (omega arith) c.loop-i-test.false c.loop-i.invariant

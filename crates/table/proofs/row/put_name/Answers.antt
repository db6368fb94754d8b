-- So many bytes of the name stand.
use native.Mathlib.Omega.{arith}
use Rattle.print.specs.Put.{put_nothing, put_full}
use Rattle.table.specs.Laws.{shown_more, shown_all}
use Rattle.table.proofs.row.put_name.Goals as goal

pub returns-then-out-at : goal.returns-then-out-at
returns-then-out-at c = put_full _ _ _ c.if-out-at.true

pub loop-b-init : goal.loop-b-init
loop-b-init c = put_nothing _ _ (omega arith)

pub loop-b-preserved : goal.loop-b-preserved
loop-b-preserved c =
    shown_more c.args.name.now c.loop-b.b-index c.loop-b.invariant (omega arith) c.shown_byte.ensures c.byte-p.ensures

pub returns : goal.returns
returns c = shown_all c.args.name.now c.loop-b.b-index c.loop-b.invariant (omega arith)

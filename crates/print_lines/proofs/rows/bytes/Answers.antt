use native.Mathlib.Omega.{arith}
use Rattle.print.specs.Put.{put_full}
use Rattle.print_lines.specs.Rows.{spaced_none, spaced_more, spaced_all}
use Rattle.print_lines.proofs.rows.bytes.Goals as goal

pub returns-then-out-at : goal.returns-then-out-at
returns-then-out-at c = put_full _ _ _ (omega arith)

pub loop-b-init : goal.loop-b-init
loop-b-init c = spaced_none c.args.t.now (omega arith)

pub loop-b-preserved : goal.loop-b-preserved
loop-b-preserved c =
    spaced_more _ c.loop-b.b-index c.loop-b.invariant (omega arith) c.next_number-p.ensures

pub returns : goal.returns
returns c = spaced_all _ _ c.loop-b.invariant (omega arith)

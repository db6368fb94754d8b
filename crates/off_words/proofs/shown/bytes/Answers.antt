use native.Mathlib.Omega.{arith}
use Rattle.print.specs.Put.{put_nothing, put_full}
use Rattle.off_words.specs.Shown.{shown_more, shown_all}
use Rattle.off_words.proofs.shown.bytes.Goals as goal

pub loop-c-init : goal.loop-c-init
loop-c-init c = put_nothing _ _ (omega arith)

pub loop-c-preserved : goal.loop-c-preserved
loop-c-preserved c =
    shown_more c.args.w.now c.loop-c.c-index c.loop-c.invariant (omega arith) c.shown_byte.ensures c.byte-p.ensures

pub returns : goal.returns
returns c = shown_all c.args.w.now _ c.loop-c.invariant (omega arith)

pub returns-then-out-at : goal.returns-then-out-at
returns-then-out-at c = put_full _ _ _ c.if-out-at.true

-- All of it, or its beginning and the dots.
use mathlib.Core.Path.{sym}
use native.Mathlib.Omega.{arith}
use lib.Seq.{length-take-le}
use Rattle.print.specs.Put.{end_to_end}
use Rattle.off_words.specs.Shown.{shown_short, shown_long}
use Rattle.off_words.proofs.shown.shown.Goals as goal

pub returns-then-w-le24 : goal.returns-then-w-le24
returns-then-w-le24 c =
    shown_short _ c.if-w-le24.true c.bytes.ensures

pub slice_bounds-bytes-end : goal.slice_bounds-bytes-end
slice_bounds-bytes-end c =
    sym (length-take-le 24 c.args.w.now (omega arith))

pub returns : goal.returns
returns c =
    shown_long _ c.if-w-le24.false (end_to_end c.bytes-p.ensures c.word.ensures)

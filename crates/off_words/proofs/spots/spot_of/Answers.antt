-- All bytes before the offset.
use mathlib.Core.Path.{ap, sym, ◌∙◌}
use lib.Seq.{length-take-le}
use Rattle.off_words.specs.Spots.{line_after, column_after, take_least}
use Rattle.off_words.proofs.spots.spot_of.Goals as goal

pub slice_bounds-last-end : goal.slice_bounds-last-end
slice_bounds-last-end c = sym (length-take-le _ _ c.least-e.ensures.1)

pub returns : goal.returns
returns c =
    let e = take_least _ _ c.least-e.ensures.0 in
    (c.last.ensures.0 ∙ ap (line_after 1) e, c.last.ensures.1 ∙ ap (column_after 1) e)

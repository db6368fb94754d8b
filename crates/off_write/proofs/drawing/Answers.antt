-- The parts, one after the other.
use Rattle.print.specs.Put.{end_to_end}
use Rattle.off_write.specs.Laws.{drawing_put}
use Rattle.off_write.proofs.drawing.Goals as goal

pub returns : goal.returns
returns c =
    drawing_put c.args.s.now c.args.k c.solid-o.ensures.is c.is_weighted-is_four.ensures
    (end_to_end c.keyword-p.ensures (end_to_end c.counts-q.ensures (end_to_end c.vertices-r.ensures c.faces.ensures)))

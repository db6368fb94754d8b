-- Its words, one after the other.
use Rattle.print.specs.Put.{end_to_end}
use Rattle.bench.proofs.said.done.Goals as goal

pub returns : goal.returns
returns c =
    end_to_end c.word-p.ensures c.newline.ensures

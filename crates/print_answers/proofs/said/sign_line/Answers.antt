-- Its words, one after the other.
use Rattle.print.specs.Put.{end_to_end}
use Rattle.print_answers.proofs.said.sign_line.Goals as goal

pub returns : goal.returns
returns c =
    end_to_end c.word-p.ensures (end_to_end c.plus_or_minus-q.ensures c.terms.ensures)

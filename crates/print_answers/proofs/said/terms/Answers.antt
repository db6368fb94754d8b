-- The four terms, one after the other.
use Rattle.print.specs.Put.{end_to_end}
use Rattle.print_lines.specs.Laws.{signed_is}
use borrow.Author.Rules.{rules}
use Rattle.print_answers.proofs.said.terms.Goals as goal

pub returns : goal.returns
returns c =
    end_to_end (signed_is c.args.t.c0 (search rules) c.next_signed-p.ensures)
    (end_to_end (signed_is c.args.t.c1 (search rules) c.next_signed-q.ensures)
    (end_to_end (signed_is c.args.t.c2 (search rules) c.next_signed-r.ensures)
    (end_to_end (signed_is c.args.t.c3 (search rules) c.next_signed-e.ensures)
    c.newline.ensures)))

-- Number after number.
use Rattle.print.specs.Put.{end_to_end}
use Rattle.off_write.specs.Laws.{first_put, signed_put}
use borrow.Author.Rules.{rules}
use Rattle.off_write.proofs.three.Goals as goal

pub returns : goal.returns
returns c =
    end_to_end (first_put c.args.r.x (search rules) c.signed-p.ensures)
    (end_to_end (signed_put c.args.r.y (search rules) c.next_signed-q.ensures)
    (end_to_end (signed_put c.args.r.z (search rules) c.next_signed-e.ensures) c.newline.ensures))

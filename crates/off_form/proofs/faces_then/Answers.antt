-- Behind the faces, the end.
use Rattle.off_form.proofs.Laws.{faces_within}
use borrow.Author.Rules.{rules}
use Rattle.off_form.proofs.faces_then.Goals as goal

pub end-requires : goal.end-requires
end-requires c = search (faces_within, rules)

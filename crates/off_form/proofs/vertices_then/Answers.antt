-- Behind the vertices, the faces.
use Rattle.off_form.proofs.Laws.{wholes_within}
use borrow.Author.Rules.{rules}
use Rattle.off_form.proofs.vertices_then.Goals as goal

pub faces_then-requires : goal.faces_then-requires
faces_then-requires c = (search (wholes_within, rules), search rules)

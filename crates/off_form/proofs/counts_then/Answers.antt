-- Behind the counts, the vertices.
use Rattle.off_form.proofs.Laws.{counts_within}
use borrow.Author.Rules.{rules}
use Rattle.off_form.proofs.counts_then.Goals as goal

pub vertices_then-requires : goal.vertices_then-requires
vertices_then-requires c = (search (counts_within, rules), search rules, search rules)

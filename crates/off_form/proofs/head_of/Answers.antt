-- The keyword, and what is behind it.
use Rattle.std.proofs.Common.{◌∙◌}
use Rattle.off_form.proofs.Laws.{keyword_told, keyword_first}
use borrow.Author.Rules.{rules}
use Rattle.off_form.proofs.head_of.Goals as goal

pub head_from-requires : goal.head_from-requires
head_from-requires c =
    let n = c.unwrap_or.ensures ∙ keyword_told _ _ c.keyword.ensures in
    (search rules, search rules, keyword_first _ c.next-k.ensures.0 c.next-k.ensures.1 n)

-- By the two cases.
use Rattle.print_lines.specs.Laws.{by_case}
use Rattle.print_lines.specs.Lines.{kept_line}
use Rattle.print_lines.proofs.rows.kept.Goals as goal

pub returns-then-is_kept : goal.returns-then-is_kept
returns-then-is_kept c = by_case kept_line c.if-is_kept.true c.word.ensures

pub returns : goal.returns
returns c = by_case kept_line c.if-is_kept.false c.word-2.ensures

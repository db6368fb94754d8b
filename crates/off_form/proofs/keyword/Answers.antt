-- One keyword, then the other.
use Rattle.std.proofs.Math.Path.{sym}
use native.Mathlib.Omega.{arith}
use Rattle.off_form.proofs.Laws.{keyword_three, keyword_four, keyword_none}
use Rattle.off_form.proofs.keyword.Goals as goal

pub returns-then-is_three : goal.returns-then-is_three
returns-then-is_three c = (search keyword_three, omega arith)

pub returns-then-is_four : goal.returns-then-is_four
returns-then-is_four c = (search keyword_four, omega arith)

pub returns : goal.returns
returns c = sym (keyword_none _ _ _ c.is_three.ensures c.if-is_three.false c.is_four.ensures c.if-is_four.false)

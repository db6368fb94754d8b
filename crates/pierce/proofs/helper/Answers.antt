use native.Mathlib.Omega.{arith}
use borrow.Author.Rules.{rules}
use Rattle.laws.specs.Range.{lowest_end, lowest_found, lowest_next}
use Rattle.pierce.specs.Formula.{can_help, helper}
use Rattle.pierce.proofs.helper.Goals as goal

pub loop-h-init : goal.loop-h-init
unfolding helper
loop-h-init c = search rules

pub returns-then-can_help : goal.returns-then-can_help
returns-then-can_help c =
    lowest_found (can_help _ _ _) _ _ c.loop-h.invariant (omega arith) c.can_help.ensures c.if-can_help.true

pub loop-h-preserved : goal.loop-h-preserved
loop-h-preserved c =
    lowest_next (can_help _ _ _) _ _ c.loop-h.invariant (omega arith) c.can_help.ensures c.if-can_help.false

pub returns : goal.returns
returns c =
    let e = lowest_end (can_help _ _ _) _ _ c.loop-h.invariant (omega arith) in
    omega arith

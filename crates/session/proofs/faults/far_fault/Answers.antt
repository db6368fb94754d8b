-- Each rule that fails decides.
use Rattle.std.specs.Prelude.{not}
use mathlib.Core.Path.{ap, ap₂, ◌∙◌}
use Prim.Native.Nat.{ℕ, ◌+◌}
use Rattle.laws.specs.Exits.{exits}
use Rattle.scene.specs.declared.Refusal.TheVariants.{FarAllZero}
use Rattle.judge.specs.Laws.{rules as laws, rule_passed, then_refused, then_accepted}
use Rattle.session.specs.Session.{row_fault, is_nowhere, far_fault}
use Rattle.session.specs.Laws.{refused_where, passed_where}
use Rattle.session.proofs.faults.far_fault.Goals as goal

pub returns-then-not-is_whole : goal.returns-then-not-is_whole
unfolding far_fault
returns-then-not-is_whole c = search laws depth 16

pub returns-in_err-row_fault : goal.returns-in_err-row_fault
unfolding far_fault
returns-in_err-row_fault c =
    exits c.from_residual.ensures.1 (rule_passed _ c.is_whole.ensures (ap not c.if-not-is_whole.false)
    (then_refused _ (c.row_fault.ensures ∙ ap₂ (row_fault 0) (ap (λ (n : ℕ). n + 1) c.vertices-p.ensures.0) c.sizes_of-m.ensures)
    c.in_err-row_fault.was))

pub returns-then-is_nowhere : goal.returns-then-is_nowhere
unfolding far_fault
returns-then-is_nowhere c =
    rule_passed _ c.is_whole.ensures (ap not c.if-not-is_whole.false)
    (then_accepted (c.row_fault.ensures ∙ ap₂ (row_fault 0) (ap (λ (n : ℕ). n + 1) c.vertices-p.ensures.0) c.sizes_of-m.ensures)
    c.in_ok-row_fault.was
    (refused_where FarAllZero (c.is_nowhere.ensures ∙ ap is_nowhere c.sizes_of-m.ensures) c.if-is_nowhere.true
    (ap (λ (n : ℕ). n + 1) c.vertices-p.ensures.0)))

pub returns : goal.returns
unfolding far_fault
returns c =
    rule_passed _ c.is_whole.ensures (ap not c.if-not-is_whole.false)
    (then_accepted (c.row_fault.ensures ∙ ap₂ (row_fault 0) (ap (λ (n : ℕ). n + 1) c.vertices-p.ensures.0) c.sizes_of-m.ensures)
    c.in_ok-row_fault.was
    (passed_where _ (c.is_nowhere.ensures ∙ ap is_nowhere c.sizes_of-m.ensures) c.if-is_nowhere.false))

-- Each rule that fails decides.
use Rattle.std.specs.Prelude.{not}
use mathlib.Core.Path.{refl, ap, ◌∙◌}
use Prim.Native.Nat.{ℕ}
use Rattle.scene.specs.Limits.{within}
use Rattle.judge.specs.Laws.{rules as laws, rule_refused, rule_passed}
use Rattle.session.specs.Session.{turn_fault}
use Rattle.session.proofs.faults.turn_fault.Goals as goal

pub returns-then-not-is_whole : goal.returns-then-not-is_whole
unfolding turn_fault
returns-then-not-is_whole c = search laws depth 16

pub returns-then-not-is_within : goal.returns-then-not-is_within
unfolding turn_fault
returns-then-not-is_within c =
    rule_passed _ c.is_whole.ensures (ap not c.if-not-is_whole.false)
    (rule_refused _ (c.is_within.ensures ∙ ap (λ (n : ℕ). within 1 n c.args.f) c.faces.ensures.0)
    (ap not c.if-not-is_within.true))

pub returns : goal.returns
unfolding turn_fault
returns c =
    rule_passed _ c.is_whole.ensures (ap not c.if-not-is_whole.false)
    (rule_passed _ (c.is_within.ensures ∙ ap (λ (n : ℕ). within 1 n c.args.f) c.faces.ensures.0)
    (ap not c.if-not-is_within.false) refl)

-- The keyword, and what is behind it.
use Rattle.std.proofs.Math.Path.{refl}
use native.Mathlib.Omega.{arith}
use Rattle.off_form.proofs.Laws.{form_outside, form_counts}
use Rattle.off_form.proofs.form.Goals as goal

pub returns-in_default : goal.returns-in_default
returns-in_default c = form_outside _ c.next-k.ensures.0 c.next-k.ensures.1 refl c.in_default.ensures

pub returns : goal.returns
returns c =
    form_counts _ c.next-k.ensures.0 c.next-k.ensures.1 c.in-Some.ensures.0 (λ z. omega (arith, c.in-Some.ensures.1)) c.counts_then.ensures

use mathlib.Core.Path.{ap, ◌∙◌}
use Prim.Native.Nat.{ℕ}
use mathlib.Core.List.{List}
use Rattle.session.specs.Session.{fresh}
use Rattle.session.proofs.with_row.Goals as goal

pub returns : goal.returns
returns c =
    c.fresh.ensures ∙ ap (λ (l : List ℕ). fresh l c.args.n) c.put_row.ensures

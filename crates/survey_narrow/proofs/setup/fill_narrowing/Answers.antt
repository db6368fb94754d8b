-- Both tables are filled, or stay as they are.
use mathlib.Core.Path.{refl, sym, ◌∙◌}
use Rattle.survey_narrow.proofs.setup.fill_narrowing.Goals as goal

pub returns-then-mirrors : goal.returns-then-mirrors
returns-then-mirrors c =
    let h = sym c.mirrors.ensures ∙ c.if-mirrors.true in
    rw h (record { own_after = c.fill.ensures; separating_after = c.fill-then-mirrors.ensures })

pub returns-else-mirrors : goal.returns-else-mirrors
returns-else-mirrors c = let h = sym c.mirrors.ensures ∙ c.if-mirrors.false in rw h (record { own_after = refl; separating_after = refl })

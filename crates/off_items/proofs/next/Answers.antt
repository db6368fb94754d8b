-- An item starts behind the gap.
use mathlib.Core.Path.{ap, ◌∙◌}
use Rattle.off_items.specs.Items.{word_end}
use Rattle.off_items.proofs.next.Goals as goal

pub returns : goal.returns
returns c =
    (c.start-i.ensures.0, c.end.ensures.0 ∙ ap (word_end _) c.start-i.ensures.0, c.start-i.ensures.1, c.end.ensures.1, c.end.ensures.2)

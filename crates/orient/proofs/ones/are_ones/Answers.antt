-- `orient::ones::are_ones` meets its contract: the four tests as the definition has them. Assumes nothing.
use mathlib.Core.Bool.{◌&&◌}
use Rattle.orient.proofs.ones.are_ones.Goals as goal

pub returns : goal.returns
returns c i =
    ((c.is_one.ensures i && c.is_one-2.ensures i) && c.is_one-3.ensures i) && c.is_one-4.ensures i

-- The count of ones, by its remainder.
use Rattle.pierce_masks.specs.Faces.{is_odd}
use Rattle.pierce_masks.proofs.is_odd.Goals as goal

pub returns : goal.returns
unfolding is_odd
returns c = cc

-- `orient::positive_at` meets its contract: the points are the rows of the array with their numbers, within the limits, and c0 is
-- theirs. Assumes nothing.
use Rattle.scene.specs.Limits.{limits}
use Rattle.orient.specs.Sizes.{points_within}
use Rattle.orient.proofs.positive_at.Goals as goal

pub term0-t0-requires : goal.term0-t0-requires
term0-t0-requires c =
    rw (c.point_at.ensures, c.point_at-2.ensures, c.point_at-3.ensures, c.point_at-4.ensures)
    (points_within limits _ _ _ _ _ c.requires.sizes)

-- `orient::terms_at` meets its contract: the points are the rows of the array with their numbers, within the limits. Assumes nothing.
use Rattle.scene.specs.Limits.{limits}
use Rattle.orient.specs.Terms.{terms_at}
use Rattle.orient.specs.Sizes.{points_within}
use Rattle.orient.proofs.terms_at.Goals as goal

pub terms_of-requires : goal.terms_of-requires
terms_of-requires c =
    rw (c.point_at.ensures, c.point_at-2.ensures, c.point_at-3.ensures, c.point_at-4.ensures)
    (points_within limits _ _ _ _ _ c.requires)

pub returns : goal.returns
unfolding terms_at
returns c = cc

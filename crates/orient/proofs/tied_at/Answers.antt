-- `orient::tied_at` meets its contract: a c0 of zero says nothing, so the tie tells the sign. Assumes nothing.
use Rattle.scene.specs.Limits.{limits}
use Rattle.scene.specs.Arrays.{row_in}
use Rattle.orient.specs.Sizes.{points_within}
use Rattle.orient.proofs.Weighted.{slide_tells}
use Rattle.orient.specs.Bits.{tie_tells}
use Rattle.orient.proofs.tied_at.Goals as goal

pub tie-requires : goal.tie-requires
tie-requires c =
    rw (c.point_at.ensures, c.point_at-2.ensures, c.point_at-3.ensures, c.point_at-4.ensures)
    (points_within limits _ _ _ _ _ c.requires.sizes, slide_tells _ _ _ _ _ c.requires.points)

pub returns : goal.returns
returns c =
    tie_tells (row_in c.args.rows.now) c.args.a c.args.b c.args.c c.args.d c.requires.tied
    (rw (c.point_at.ensures, c.point_at-2.ensures, c.point_at-3.ensures, c.point_at-4.ensures) at c.tie.ensures)

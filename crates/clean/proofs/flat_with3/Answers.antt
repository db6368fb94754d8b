-- The plane's points are those that make a determinant zero.
use mathlib.Core.Path.{◌∙◌}
use native.Mathlib.Omega.{arith}
use Rattle.clean.specs.Clean.{by_plane}
use Rattle.clean.specs.Planes.{plane_of}
use Rattle.clean.specs.Sizes.{row_small, three_small}
use Rattle.clean.proofs.flat_with3.Goals as goal

pub plane-p-requires : goal.plane-p-requires
plane-p-requires c = (
  row_small c.requires.0 _ c.row_in.ensures,
  row_small c.requires.0 _ c.row_in-2.ensures,
  row_small c.requires.0 _ c.row_in-3.ensures,
)

pub meets-requires : goal.meets-requires
meets-requires c = (
  c.requires.0,
  three_small c.requires.0 c.row_in.ensures c.row_in-2.ensures
      c.row_in-3.ensures c.plane-p.ensures,
  omega arith,
)

pub returns : goal.returns
returns c =
    c.meets.ensures
    ∙ by_plane _ _ _ _ _
    (c.plane-p.ensures
    ∙ (λ i. plane_of (c.row_in.ensures i) (c.row_in-2.ensures i) (c.row_in-3.ensures i)))

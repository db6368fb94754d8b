-- A number is zero exactly when its bits are.
use mathlib.Core.Path.{ap, ◌∙◌}
use Rattle.clean.specs.Clean.{zero_test}
use Rattle.clean.specs.Planes.{dot_of}
use Rattle.clean.specs.Sizes.{row_small}
use Rattle.clean.proofs.in_plane.Goals as goal

pub dot-requires : goal.dot-requires
dot-requires c = (c.requires.1, row_small c.requires.0 _ c.row_in.ensures)

pub returns : goal.returns
returns c = zero_test c.dot.type_inv (c.dot.ensures ∙ ap (dot_of _) c.row_in.ensures)

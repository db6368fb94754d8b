-- The plane of three rows times the fourth is their determinant.
use mathlib.Core.Path.{ap, ◌∙◌}
use Rattle.scene.specs.declared.Row.{Row}
use Rattle.clean.specs.Clean.{zero_test}
use Rattle.clean.specs.Planes.{dot_of, plane_det}
use Rattle.clean.specs.Sizes.{plane_size_law}
use Rattle.map_image.proofs.rows.is_singular.Goals as goal

pub dot-requires : goal.dot-requires
dot-requires c =
    (rw c.plane.ensures (plane_size_law c.requires.x c.requires.y c.requires.z), c.requires.w)

pub returns : goal.returns
returns c =
    zero_test c.dot.type_inv
    (c.dot.ensures ∙ ap (λ (p : Row). dot_of p c.args.m.w) c.plane.ensures
    ∙ plane_det _ _ _ _)

-- Each coefficient is the volume of the three other columns.
use mathlib.Core.Path.{◌∙◌}
use Rattle.laws.specs.Size.{called}
use Rattle.clean.specs.Planes.{volume_of}
use Rattle.clean.proofs.planes.plane.Goals as goal

pub returns : goal.returns
returns c =
    λ i.
    record {
      x =
          called c.volume.type_inv
          (c.volume.ensures ∙ (λ j. volume_of (c.but_x.ensures.0 j) (c.but_x-2.ensures.0 j)
          (c.but_x-3.ensures.0 j)))
          i;
      y =
          called c.volume-2.type_inv
          (c.volume-2.ensures ∙ (λ j. volume_of (c.but_y.ensures.0 j) (c.but_y-2.ensures.0 j)
          (c.but_y-3.ensures.0 j)))
          i;
      z =
          called c.volume-3.type_inv
          (c.volume-3.ensures ∙ (λ j. volume_of (c.but_z.ensures.0 j) (c.but_z-2.ensures.0 j)
          (c.but_z-3.ensures.0 j)))
          i;
      w =
          called c.volume-4.type_inv
          (c.volume-4.ensures ∙ (λ j. volume_of (c.but_w.ensures.0 j) (c.but_w-2.ensures.0 j)
          (c.but_w-3.ensures.0 j)))
          i;
    }

pub but_y-requires : goal.but_y-requires
but_y-requires c = c.requires.0

pub but_y-requires-2 : goal.but_y-requires-2
but_y-requires-2 c = c.requires.1

pub but_y-requires-3 : goal.but_y-requires-3
but_y-requires-3 c = c.requires.2

pub volume-requires-2 : goal.volume-requires-2
volume-requires-2 c = (c.but_y.ensures.1, c.but_y-2.ensures.1, c.but_y-3.ensures.1)

pub but_z-requires : goal.but_z-requires
but_z-requires c = c.requires.0

pub but_z-requires-2 : goal.but_z-requires-2
but_z-requires-2 c = c.requires.1

pub but_z-requires-3 : goal.but_z-requires-3
but_z-requires-3 c = c.requires.2

pub volume-requires-3 : goal.volume-requires-3
volume-requires-3 c = (c.but_z.ensures.1, c.but_z-2.ensures.1, c.but_z-3.ensures.1)

pub but_w-requires : goal.but_w-requires
but_w-requires c = c.requires.0

pub but_w-requires-2 : goal.but_w-requires-2
but_w-requires-2 c = c.requires.1

pub but_w-requires-3 : goal.but_w-requires-3
but_w-requires-3 c = c.requires.2

pub volume-requires-4 : goal.volume-requires-4
volume-requires-4 c = (c.but_w.ensures.1, c.but_w-2.ensures.1, c.but_w-3.ensures.1)

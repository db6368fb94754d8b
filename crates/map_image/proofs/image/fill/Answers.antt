-- The scene is copied to the front, and then each row is stored.
use Rattle.map_image.specs.Filling.{filled_image}
use Rattle.map_image.proofs.image.fill.Goals as goal

pub returns : goal.returns
returns c =
    filled_image _ _ _ c.requires.0.accepted c.copy.ensures c.put_rows.ensures

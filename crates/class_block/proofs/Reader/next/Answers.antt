-- The place moves behind the scene that is handed out.
use Rattle.std.specs.Prelude.{refl}
use Rattle.class_block.specs.Scenes.{scene_ends}
use Rattle.class_block.proofs.Reader.next.Goals as goal

pub returns : goal.returns
returns c = record { scene = c.scene_at-s.ensures.scene; block = refl; at = scene_ends _ _ c.scene_at-s.ensures.scene }

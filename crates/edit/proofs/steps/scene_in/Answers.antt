-- What was saved is the scene, and 13 tells its length.
use Rattle.edit.specs.Written.{scene_fits, scene_front}
use Rattle.edit.proofs.steps.scene_in.Goals as goal

pub returns-in-Err-needed : goal.returns-in-Err-needed
returns-in-Err-needed c = (
  scene_fits _ _ c.save-saved.ensures c.in_default.is c.save-needed.ensures.answer c.in-Err-needed.is c.place.ensures,
  scene_front _ _ c.save-saved.ensures c.in_default.is c.save-needed.ensures.answer c.in-Err-needed.is c.place.ensures,
)

-- The scene's mark counts in the first line and in its own; its pairs are added.
use Rattle.class_tally.proofs.FilesProof.{line_to, scene_next}
use Rattle.class_tally.proofs.files.with_scene.Goals as goal

pub raise-requires-2 : goal.raise-requires-2
raise-requires-2 c = line_to _ c.mark_of-m.ensures

pub returns : goal.returns
returns c = scene_next c.args.f c.args.s.now c.mark_of-m.ensures c.raise.ensures c.raise-2.ensures c.sum.ensures

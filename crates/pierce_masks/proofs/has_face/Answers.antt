-- A mask is 0 exactly where both words are.
use Rattle.pierce_masks.specs.Faces.{some_word}
use Rattle.pierce_masks.proofs.has_face.Goals as goal

pub returns : goal.returns
returns c = some_word c.args.m

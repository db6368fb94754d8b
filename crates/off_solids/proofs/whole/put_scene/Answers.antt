-- Part by part.
use Rattle.off_solids.specs.Bytes.{scene_length, scene_made}
use borrow.Author.Rules.{rules}
use Rattle.off_solids.proofs.whole.put_scene.Goals as goal

pub returns : goal.returns
returns c = (search scene_length, search scene_made, search rules)

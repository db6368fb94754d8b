use Rattle.scene.specs.Read.{face_read}
use borrow.Author.Rules.{rules}
use Rattle.scene.proofs.read.face_at.Goals as goal

pub returns : goal.returns
returns c = (
  face_read _ _ c.face_start-at.ensures.0 c.byte.ensures.0 c.byte-2.ensures.0 c.byte-3.ensures.0,
  search rules,
  search rules,
  search rules,
)

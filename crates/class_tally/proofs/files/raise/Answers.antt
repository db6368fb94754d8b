-- The line's count, one higher.
use Rattle.class_tally.proofs.FilesProof.{raised_by}
use Rattle.class_tally.proofs.files.raise.Goals as goal

pub returns : goal.returns
returns c = raised_by _ _ c.sum.ensures

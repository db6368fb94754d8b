-- The two bytes are compared with the mark.
use Rattle.judge.proofs.records.face_marked.Goals as goal

pub returns : goal.returns
returns c = cc

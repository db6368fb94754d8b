-- The two bytes are compared with the mark.
use Rattle.judge.proofs.records.end_marked.Goals as goal

pub returns : goal.returns
returns c = cc

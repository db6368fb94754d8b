-- The length is compared with what the counts ask for.
use Rattle.judge.proofs.header.length_ok.Goals as goal

pub returns : goal.returns
returns c = cc

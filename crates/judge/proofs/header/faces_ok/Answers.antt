-- The byte is held to the limits.
use Rattle.judge.proofs.header.faces_ok.Goals as goal

pub returns : goal.returns
returns c = cc

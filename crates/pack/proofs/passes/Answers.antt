-- By the judgement.
use Rattle.pack.specs.PackedProof.{number_passes}
use Rattle.pack.proofs.passes.Goals as goal

pub returns-in-Err : goal.returns-in-Err
returns-in-Err c = search number_passes

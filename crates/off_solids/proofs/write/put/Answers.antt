-- One byte.
use Rattle.off_solids.specs.Grown.{grown_one}
use Rattle.off_solids.proofs.write.put.Goals as goal

pub returns : goal.returns
returns c = grown_one c.args.out.now c.args.k c.args.v c.requires.0

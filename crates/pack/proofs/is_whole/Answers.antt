-- What the judge says.
use Rattle.pack.specs.PackedProof.{passes_by}
use Rattle.pack.proofs.is_whole.Goals as goal

pub returns-then-not-whole : goal.returns-then-not-whole
returns-then-not-whole c = passes_by c.args.s.now c.judge-j.ensures c.passes-whole.ensures

pub returns-else-not-whole : goal.returns-else-not-whole
returns-else-not-whole c = passes_by c.args.s.now c.judge-j.ensures c.passes-whole.ensures

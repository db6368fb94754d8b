-- By whether the counts are full.
use Rattle.light.specs.Cases.{counts_one}
use Rattle.light.proofs.CasesProof.{uncounted, counted}
use Rattle.light.proofs.light_of.Goals as goal

pub returns-then-is_full : goal.returns-then-is_full
returns-then-is_full c = search uncounted

pub count_one-requires : goal.count_one-requires
count_one-requires c = counts_one _ _ c.is_full.ensures c.if-is_full.false c.colour-l.ensures c.number.ensures

pub returns : goal.returns
returns c = search counted

use Rattle.off_form.proofs.Laws.{wholes_begin, reads}
use Rattle.off_form.proofs.wholes.Goals as goal

pub loop-init : goal.loop-init
loop-init c = (wholes_begin _ _ _ _, c.requires)

pub returns-then-not-is_whole : goal.returns-then-not-is_whole
returns-then-not-is_whole c = search reads

pub loop-preserved : goal.loop-preserved
loop-preserved c = search reads

pub returns : goal.returns
returns c = search reads

use Rattle.off_form.proofs.Laws.{faces_begin, face_within, reads}
use borrow.Author.Rules.{rules}
use Rattle.off_form.proofs.faces.Goals as goal

pub loop-init : goal.loop-init
loop-init c = (faces_begin _ _ _, c.requires)

pub loop-preserved : goal.loop-preserved
loop-preserved c = (search (c.in_ok-k.was, reads), search (c.in_ok-k.was, face_within, rules))

pub returns-in_err-k : goal.returns-in_err-k
returns-in_err-k c = search reads

pub returns : goal.returns
returns c = search reads

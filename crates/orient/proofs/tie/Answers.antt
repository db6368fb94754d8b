-- `orient::tie` meets its contract: a term that is zero hands the sign on to the next, and of the last the slide tells it. Assumes nothing.
use mathlib.Core.Path.{sym, ap, ◌∙◌}
use Rattle.orient.specs.Terms.{is_plus}
use Rattle.orient.specs.Bits.{decides, passes_on}
use Rattle.orient.proofs.tie.Goals as goal

pub returns-then-t1-ne0 : goal.returns-then-t1-ne0
returns-then-t1-ne0 c = decides _ c.term1-t1.type_inv c.term1-t1.ensures c.if-t1-ne0.true

pub returns-then-t2-ne0 : goal.returns-then-t2-ne0
returns-then-t2-ne0 c =
    decides _ c.term2-t2.type_inv c.term2-t2.ensures c.if-t2-ne0.true
    ∙ sym (ap is_plus (passes_on _ c.term1-t1.type_inv c.term1-t1.ensures c.if-t1-ne0.false))

pub returns : goal.returns
returns c =
    c.last_positive.ensures
    ∙ c.requires.1
    ∙ sym
    (ap is_plus
    (passes_on _ c.term1-t1.type_inv c.term1-t1.ensures c.if-t1-ne0.false
    ∙ passes_on _ c.term2-t2.type_inv c.term2-t2.ensures c.if-t2-ne0.false))

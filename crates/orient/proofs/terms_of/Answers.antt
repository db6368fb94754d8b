-- `orient::terms_of` meets its contract, term by term. Assumes nothing.
use Rattle.laws.specs.Size.{called}
use Rattle.orient.proofs.terms_of.Goals as goal

pub returns : goal.returns
returns c =
    λ i.
    record {
      c0 = called c.term0.type_inv c.term0.ensures i;
      c1 = called c.term1.type_inv c.term1.ensures i;
      c2 = called c.term2.type_inv c.term2.ensures i;
      c3 = called c.term3.type_inv c.term3.ensures i;
    }

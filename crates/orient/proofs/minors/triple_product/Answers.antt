-- `orient::minors::triple_product` meets its contract: the minors of the last two rows, and three products of them. Assumes nothing.
use Rattle.std.proofs.Common.{rules, ℕ, ◌≤◌, sym, subst, ◌∙◌}
use Rattle.laws.specs.Size.{called}
use Rattle.orient.specs.Minors.{alternating_of}
use Rattle.orient.specs.Formed.{most_formed, alternating_size}
use Rattle.orient.specs.Bits.{RowFits, triple_product_read}
use Rattle.orient.proofs.minors.triple_product.Goals as goal

pub alternating-requires : goal.alternating-requires
alternating-requires c =
    let p : RowFits c.args.p = search rules in
    let q : RowFits c.args.q = search rules in
    let r : RowFits c.args.r = search rules in
    subst (λ (n : ℕ). n ≤ most_formed)
    (sym
    (triple_product_read p q r alternating_size c.minor-x.type_inv c.minor-x.ensures c.minor-y.type_inv c.minor-y.ensures
    c.minor-z.type_inv c.minor-z.ensures))
    c.requires.whole

pub returns : goal.returns
returns c =
    let p : RowFits c.args.p = search rules in
    let q : RowFits c.args.q = search rules in
    let r : RowFits c.args.r = search rules in
    called c.alternating.type_inv
    (c.alternating.ensures
    ∙ triple_product_read p q r alternating_of c.minor-x.type_inv c.minor-x.ensures c.minor-y.type_inv c.minor-y.ensures
    c.minor-z.type_inv c.minor-z.ensures)

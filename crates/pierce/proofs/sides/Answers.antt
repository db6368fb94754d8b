-- Each side by its own function, and their sum.
use Rattle.pierce.specs.Steps.{sides_sum}
use Rattle.pierce.specs.Beside.{ask_rp}
use borrow.Author.Rules.{rules}
use Rattle.pierce.proofs.sides.Goals as goal

pub side-rp-requires : goal.side-rp-requires
side-rp-requires c = record { sizes = search rules; points = ask_rp c.requires.edge }

pub returns : goal.returns
returns c =
    sides_sum _ _ _ _ _ _ _ c.positive_at-hp.ensures c.positive_at-hq.ensures c.positive_at-hr.ensures
    c.side-pq.ensures c.side-qr.ensures c.side-rp.ensures

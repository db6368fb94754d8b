-- The words of both solids decide.
use native.Mathlib.Omega.{arith}
use Rattle.laws.specs.Exits.{exits}
use Rattle.judge.specs.Laws.{then_refused, chain}
use Rattle.judge.specs.Words.{words_none}
use Rattle.judge.proofs.closed.solids_fault.Goals as goal

pub words_of-ua-requires : goal.words_of-ua-requires
words_of-ua-requires c =
    record { words = words_none _ _; faces = (omega arith, λ i b. c.requires.0 i (omega arith)) }

pub words_of-ub-requires : goal.words_of-ub-requires
words_of-ub-requires c =
    record { words = words_none _ _; faces = (omega arith, λ i b. c.requires.0 i (omega arith)) }

pub unuseds_fault-requires : goal.unuseds_fault-requires
unuseds_fault-requires c =
    record {
      words = (
        rw c.byte-a.ensures.0 at c.words_of-ua.ensures.1,
        rw (c.byte-a.ensures.0, c.byte-b.ensures.0) at c.words_of-ub.ensures.1,
      );
      vertices = (c.requires.1, c.requires.2);
    }

pub edges_fault-requires : goal.edges_fault-requires
edges_fault-requires c =
    record {
      faces = c.requires;
      words = (
        rw c.byte-a.ensures.0 at c.words_of-ua.ensures.0,
        rw (c.byte-a.ensures.0, c.byte-b.ensures.0) at c.words_of-ub.ensures.0,
      );
    }

pub returns-in_err-unuseds_fault : goal.returns-in_err-unuseds_fault
returns-in_err-unuseds_fault c = exits c.from_residual.ensures.1 (then_refused _ c.unuseds_fault.ensures c.in_err-unuseds_fault.was)

pub returns : goal.returns
returns c = search (chain, c.in_ok-unuseds_fault.was) depth 12

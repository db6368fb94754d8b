-- The words are those of the definition.
use Prim.Native.Nat.{◌+◌}
use mathlib.Core.Path.{ap, ◌∙◌}
use native.Mathlib.Omega.{arith}
use lib.Bits.{bit_and, bit_or, bit_xor}
use lib.Count.{trailing_le}
use lib.ListN.{get_or}
use Rattle.survey_enclosed.specs.Walk.{passed, fresh, flipped, step_of}
use Rattle.survey_enclosed.proofs.step.Goals as goal

pub overflow_cast-i : goal.overflow_cast-i
overflow_cast-i c = omega (arith, trailing_le 64 (bit_and c.args.t.known c.args.t.left))

pub returns : goal.returns
unfolding step_of
returns c =
    let at = c.args.low + 1 + passed c.args.t in
    let new = fresh (get_or c.args.links.now at 0) c.args.t in
    λ j. record {
      inside =
          bit_or c.args.t.inside
          ((c.flipped-over.ensures ∙ ap (flipped new (bit_and new (get_or c.args.odds.now at 0))) c.has.ensures) j);
      known = bit_or c.args.t.known new;
      left = bit_xor c.args.t.left (c.bit.ensures j);
    }

use Prim.Native.Nat.{◌-◌}
use native.Mathlib.Nat.{le_refl}
use native.Mathlib.Omega.{arith}
use lib.Bits.{and_le_r}
use lib.Count.{trailing_le}
use Rattle.laws.specs.Walk.{walk_less}
use Rattle.survey_edges.specs.Bits.{word_first}
use Rattle.survey_edges.specs.Entries.{hits_most}
use Rattle.survey_edges.specs.Rest.{rest_start, rest_turn, rest_end}
use Rattle.survey_edges.proofs.pairs.write_pairs_of_word.Goals as goal

pub loop-left-init : goal.loop-left-init
loop-left-init c = (omega arith, rest_start _ _ _ _ (omega arith))

pub overflow_cast-t : goal.overflow_cast-t
overflow_cast-t c = omega (arith, trailing_le 64 c.loop-left.left)

pub overflow_add-first-in-loop-left : goal.overflow_add-first-in-loop-left
overflow_add-first-in-loop-left c = omega (arith, trailing_le 64 c.loop-left.left)

pub narrow-requires : goal.narrow-requires
narrow-requires c =
    omega (arith, (word_first 64 64 (le_refl 64) c.loop-left.invariant.0 (omega arith)).below)

pub put-requires : goal.put-requires
put-requires c =
    omega (arith, c.loop-left.invariant.1.count, hits_most c.args.u c.args.v c.args.first c.args.w 64)

pub overflow_add-n : goal.overflow_add-n
overflow_add-n c =
    omega (arith, c.loop-left.invariant.1.count, hits_most c.args.u c.args.v c.args.first c.args.w 64)

pub loop-left-smaller : goal.loop-left-smaller
loop-left-smaller c =
    walk_less c.loop-left.left (omega arith)

pub loop-left-preserved : goal.loop-left-preserved
loop-left-preserved c = (
  omega (arith, and_le_r c.loop-left.left (c.loop-left.left - 1)),
  rest_turn _ _ _ c.loop-left.left (omega arith) c.loop-left.invariant.0 c.narrow.ensures c.loop-left.invariant.1
      c.put.ensures c.put.auto.out,
)

pub returns : goal.returns
returns c = rest_end _ _ _ (omega arith) c.loop-left.invariant.1

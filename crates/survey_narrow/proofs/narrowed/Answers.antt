use mathlib.Core.Path.{◌≡◌, ap, ◌∙◌}
use Prim.Native.Nat.{◌+◌, ◌-◌, ◌*◌, ◌^◌, ◌%◌}
use native.Mathlib.Omega.{arith}
use lib.Bits.{bit_and, and_le_r}
use lib.Count.{trailing_le, count_trailing_zeros}
use Rattle.laws.specs.Mask.{digit}
use Rattle.laws.specs.Walk.{walk_less}
use Rattle.pierce_masks.specs.declared.Mask.{Mask}
use Rattle.survey_sides.specs.Candidates.{kept_le, kept_none, each_turn, turn_rest}
use Rattle.survey_sides.specs.Tables.{mask_in}
use Rattle.survey_narrow.specs.Cover.{covers}
use Rattle.survey_narrow.specs.Narrow.{Numbered, narrowed_of}
use Rattle.survey_narrow.proofs.narrowed.Goals as goal

pub loop-left-init : goal.loop-left-init
loop-left-init c = (omega arith, c.requires.faces.0, omega arith)

pub overflow_cast-k : goal.overflow_cast-k
overflow_cast-k c = omega (arith, trailing_le 64 c.loop-left.left)

pub overflow_shl-word : goal.overflow_shl-word
overflow_shl-word c = ((each_turn c.loop-left.left (omega arith) (omega (arith, c.ranges.candidates)) (Numbered c.args.from) c.loop-left.invariant.1).0).small

pub overflow_add-word : goal.overflow_add-word
overflow_add-word c =
    let h : Numbered c.args.from (count_trailing_zeros 64 c.loop-left.left) = (each_turn c.loop-left.left (omega arith) (omega (arith, c.ranges.candidates)) (Numbered c.args.from) c.loop-left.invariant.1).0 in
    let r : c.loop-left.word + c.bit.result * 2 ^ count_trailing_zeros 64 c.loop-left.left % 2 ^ 64
    + narrowed_of (mask_in c.args.separating.now) c.args.from c.args.at (bit_and c.loop-left.left (c.loop-left.left - 1))
    ≡ narrowed_of (mask_in c.args.separating.now) c.args.from c.args.at c.args.candidates =
    turn_rest c.loop-left.left (omega arith) (omega (arith, c.ranges.candidates)) _ c.loop-left.word h.small
    c.loop-left.invariant.2
    (c.bit.ensures ∙ ap digit (c.has_all.ensures ∙ ap (λ (m : Mask). covers m c.args.at) c.separating_at.ensures)) in
    omega (
      arith,
      r,
      kept_le (λ k. covers (mask_in c.args.separating.now (c.args.from + 1 + k)) c.args.at) c.args.candidates,
      c.ranges.candidates,
    )

pub loop-left-smaller : goal.loop-left-smaller
loop-left-smaller c = walk_less _ (omega arith)

pub loop-left-preserved : goal.loop-left-preserved
loop-left-preserved c =
    let h : Numbered c.args.from (count_trailing_zeros 64 c.loop-left.left) = (each_turn c.loop-left.left (omega arith) (omega (arith, c.ranges.candidates)) (Numbered c.args.from) c.loop-left.invariant.1).0 in
    let r : c.loop-left.word + c.bit.result * 2 ^ count_trailing_zeros 64 c.loop-left.left % 2 ^ 64
    + narrowed_of (mask_in c.args.separating.now) c.args.from c.args.at (bit_and c.loop-left.left (c.loop-left.left - 1))
    ≡ narrowed_of (mask_in c.args.separating.now) c.args.from c.args.at c.args.candidates =
    turn_rest c.loop-left.left (omega arith) (omega (arith, c.ranges.candidates)) _ c.loop-left.word h.small
    c.loop-left.invariant.2
    (c.bit.ensures ∙ ap digit (c.has_all.ensures ∙ ap (λ (m : Mask). covers m c.args.at) c.separating_at.ensures)) in (
      omega (arith, and_le_r c.loop-left.left (c.loop-left.left - 1)),
      (each_turn c.loop-left.left (omega arith) (omega (arith, c.ranges.candidates)) (Numbered c.args.from)
          c.loop-left.invariant.1).1,
      r,
    )

pub returns : goal.returns
returns c =
    let z : c.loop-left.left ≡ 0 = omega arith in
    let none = ap (narrowed_of (mask_in c.args.separating.now) c.args.from c.args.at) z ∙ kept_none _ in
    omega (arith, none, c.loop-left.invariant.2)

pub overflow_add-from-in-loop-left : goal.overflow_add-from-in-loop-left
overflow_add-from-in-loop-left c = omega (arith, (each_turn c.loop-left.left (omega arith) (omega (arith, c.ranges.candidates)) (Numbered c.args.from) c.loop-left.invariant.1).0)

pub separating_at-requires : goal.separating_at-requires
separating_at-requires c = omega (arith, (each_turn c.loop-left.left (omega arith) (omega (arith, c.ranges.candidates)) (Numbered c.args.from) c.loop-left.invariant.1).0)

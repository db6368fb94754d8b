use mathlib.Core.Path.{◌≡◌, ap, ◌∙◌}
use Prim.Native.Nat.{◌+◌, ◌-◌, ◌*◌, ◌^◌, ◌%◌}
use native.Mathlib.Omega.{arith}
use lib.Bits.{bit_and, and_le_r}
use lib.Count.{trailing_le, count_trailing_zeros}
use Rattle.laws.specs.Mask.{digit}
use Rattle.laws.specs.Walk.{walk_less}
use Rattle.scene.specs.Arrays.{row_in, face_in}
use Rattle.survey_sides.specs.Candidates.{kept_le, kept_none, each_turn, turn_rest}
use Rattle.survey_sides.specs.Sides.{above, plane_in}
use Rattle.survey_sides.specs.Ties.{Tied, settled_of}
use Rattle.survey_sides.proofs.ties.ties.Goals as goal

pub loop-left-init : goal.loop-left-init
loop-left-init c = (omega arith, c.requires.tied, omega arith, c.requires.sloped)

pub overflow_cast-k : goal.overflow_cast-k
overflow_cast-k c = omega (arith, trailing_le 64 c.loop-left.left)

pub tie_above-requires : goal.tie_above-requires
tie_above-requires c =
    let here : Tied (row_in c.args.rows.now) (face_in c.args.corners.now) (plane_in c.args.planes.now c.args.base) c.args.base c.args.first c.args.t
    (count_trailing_zeros 64 c.loop-left.left) = (each_turn c.loop-left.left (omega arith) (omega (arith, c.ranges.tied)) _ c.loop-left.invariant.1).0 in
    record {
      rows = (c.requires.rows.0, c.requires.rows.1, here.number.0, omega arith, here.number.1);
      point = c.requires.point;
      ready = here.ready;
      within = here.within;
      sloped = c.loop-left.invariant.3;
    }

pub overflow_shl-word : goal.overflow_shl-word
overflow_shl-word c =
    let here : Tied (row_in c.args.rows.now) (face_in c.args.corners.now) (plane_in c.args.planes.now c.args.base) c.args.base c.args.first c.args.t
    (count_trailing_zeros 64 c.loop-left.left) = (each_turn c.loop-left.left (omega arith) (omega (arith, c.ranges.tied)) _ c.loop-left.invariant.1).0 in
    here.small

pub overflow_add-word : goal.overflow_add-word
overflow_add-word c =
    let here : Tied (row_in c.args.rows.now) (face_in c.args.corners.now) (plane_in c.args.planes.now c.args.base) c.args.base c.args.first c.args.t
    (count_trailing_zeros 64 c.loop-left.left) = (each_turn c.loop-left.left (omega arith) (omega (arith, c.ranges.tied)) _ c.loop-left.invariant.1).0 in
    let rest : c.loop-left.word + c.bit.result * 2 ^ count_trailing_zeros 64 c.loop-left.left % 2 ^ 64
    + settled_of (row_in c.args.rows.now) (face_in c.args.corners.now) c.args.first c.args.t (bit_and c.loop-left.left (c.loop-left.left - 1))
    ≡ settled_of (row_in c.args.rows.now) (face_in c.args.corners.now) c.args.first c.args.t c.args.tied = turn_rest c.loop-left.left (omega arith) (omega (arith, c.ranges.tied)) _ c.loop-left.word here.small c.loop-left.invariant.2
    (c.bit.ensures ∙ ap digit c.tie_above.ensures.0) in
    omega (
      arith,
      rest,
      kept_le (λ k. above (row_in c.args.rows.now) c.args.t (face_in c.args.corners.now (c.args.first + 1 + k))) c.args.tied,
      c.ranges.tied,
    )

pub loop-left-smaller : goal.loop-left-smaller
loop-left-smaller c = walk_less _ (omega arith)

pub loop-left-preserved : goal.loop-left-preserved
loop-left-preserved c =
    let here : Tied (row_in c.args.rows.now) (face_in c.args.corners.now) (plane_in c.args.planes.now c.args.base) c.args.base c.args.first c.args.t
    (count_trailing_zeros 64 c.loop-left.left) = (each_turn c.loop-left.left (omega arith) (omega (arith, c.ranges.tied)) _ c.loop-left.invariant.1).0 in
    let rest : c.loop-left.word + c.bit.result * 2 ^ count_trailing_zeros 64 c.loop-left.left % 2 ^ 64
    + settled_of (row_in c.args.rows.now) (face_in c.args.corners.now) c.args.first c.args.t (bit_and c.loop-left.left (c.loop-left.left - 1))
    ≡ settled_of (row_in c.args.rows.now) (face_in c.args.corners.now) c.args.first c.args.t c.args.tied = turn_rest c.loop-left.left (omega arith) (omega (arith, c.ranges.tied)) _ c.loop-left.word here.small c.loop-left.invariant.2
    (c.bit.ensures ∙ ap digit c.tie_above.ensures.0) in (
      omega (arith, and_le_r c.loop-left.left (c.loop-left.left - 1)),
      (each_turn c.loop-left.left (omega arith) (omega (arith, c.ranges.tied)) _ c.loop-left.invariant.1).1,
      rest,
      c.tie_above.ensures.1,
    )

pub returns : goal.returns
returns c =
    let z : c.loop-left.left ≡ 0 = omega arith in
    let none = ap (settled_of (row_in c.args.rows.now) (face_in c.args.corners.now) c.args.first c.args.t) z ∙ kept_none _ in
    (omega (arith, none, c.loop-left.invariant.2), c.loop-left.invariant.3)

pub overflow_add-first-in-loop-left : goal.overflow_add-first-in-loop-left
overflow_add-first-in-loop-left c =
    let here : Tied (row_in c.args.rows.now) (face_in c.args.corners.now) (plane_in c.args.planes.now c.args.base) c.args.base c.args.first c.args.t
    (count_trailing_zeros 64 c.loop-left.left) = (each_turn c.loop-left.left (omega arith) (omega (arith, c.ranges.tied)) _ c.loop-left.invariant.1).0 in
    omega (arith, here)

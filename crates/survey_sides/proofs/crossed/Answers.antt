use borrow.Author.Rules.{rules}
use mathlib.Core.Path.{◌≡◌, ap, ◌∙◌}
use Prim.Native.Nat.{◌+◌, ◌-◌, ◌*◌, ◌^◌, ◌%◌}
use native.Mathlib.Omega.{arith}
use lib.Bits.{bit_and, and_le_r}
use lib.Count.{trailing_le, count_trailing_zeros}
use Rattle.laws.specs.Mask.{digit}
use Rattle.laws.specs.Walk.{walk_less}
use Rattle.scene.specs.Limits.{limits}
use Rattle.scene.specs.Arrays.{row_in, face_in, FaceWithin}
use Rattle.pierce.specs.Beside.{beside_same}
use Rattle.pierce.specs.Formula.{pierced}
use Rattle.survey_sides.specs.Candidates.{kept_le, kept_none, each_turn, turn_rest}
use Rattle.survey_sides.specs.Crossing.{Candidate, crossed_of, differs_same}
use Rattle.survey_sides.proofs.crossed.Goals as goal

pub loop-left-init : goal.loop-left-init
loop-left-init g c = (omega arith, c.requires.faces, omega arith)

pub overflow_cast-k : goal.overflow_cast-k
overflow_cast-k g c = omega (arith, trailing_le 64 c.loop-left.left)

pub crosses-requires : goal.crosses-requires
crosses-requires g c =
    let here : Candidate c.args.n (row_in c.args.rows.now) (face_in c.args.corners.now) c.args.u c.args.v c.args.first (count_trailing_zeros 64 c.loop-left.left) = (each_turn c.loop-left.left (omega arith) (omega (arith, c.ranges.candidates)) _ c.loop-left.invariant.1).0 in
    let w : FaceWithin limits c.face_in-f.result = rw c.face_in-f.ensures (c.requires.rows.1 _) in
    record {
      points = (c.requires.rows.0, search rules, search rules, search rules, search rules, w);
      edge = (c.requires.edge.0, beside_same c.face_in-f.ensures here.beside, c.requires.edge.1);
      ends = differs_same (row_in c.args.rows.now) _ _ c.face_in-f.ensures here.differs;
    }

pub overflow_shl-word : goal.overflow_shl-word
overflow_shl-word g c =
    let here : Candidate c.args.n (row_in c.args.rows.now) (face_in c.args.corners.now) c.args.u c.args.v c.args.first (count_trailing_zeros 64 c.loop-left.left) = (each_turn c.loop-left.left (omega arith) (omega (arith, c.ranges.candidates)) _ c.loop-left.invariant.1).0 in
    here.small

pub overflow_add-word : goal.overflow_add-word
overflow_add-word g c =
    let here : Candidate c.args.n (row_in c.args.rows.now) (face_in c.args.corners.now) c.args.u c.args.v c.args.first (count_trailing_zeros 64 c.loop-left.left) = (each_turn c.loop-left.left (omega arith) (omega (arith, c.ranges.candidates)) _ c.loop-left.invariant.1).0 in
    let rest : c.loop-left.word + c.bit.result * 2 ^ count_trailing_zeros 64 c.loop-left.left % 2 ^ 64
    + crossed_of c.args.n (row_in c.args.rows.now) (face_in c.args.corners.now) c.args.u c.args.v c.args.first (bit_and c.loop-left.left (c.loop-left.left - 1))
    ≡ crossed_of c.args.n (row_in c.args.rows.now) (face_in c.args.corners.now) c.args.u c.args.v c.args.first c.args.candidates = turn_rest c.loop-left.left (omega arith) (omega (arith, c.ranges.candidates)) _ c.loop-left.word here.small
    c.loop-left.invariant.2
    (c.bit.ensures ∙ ap digit (c.crosses.ensures ∙ ap (pierced _ _ _ _) c.face_in-f.ensures)) in
    omega (
      arith,
      rest,
      kept_le (λ k. pierced c.args.n (row_in c.args.rows.now) c.args.u c.args.v
          (face_in c.args.corners.now (c.args.first + 1 + k))) c.args.candidates,
      c.ranges.candidates,
    )

pub loop-left-smaller : goal.loop-left-smaller
loop-left-smaller g c = walk_less _ (omega arith)

pub loop-left-preserved : goal.loop-left-preserved
loop-left-preserved g c =
    let here : Candidate c.args.n (row_in c.args.rows.now) (face_in c.args.corners.now) c.args.u c.args.v c.args.first (count_trailing_zeros 64 c.loop-left.left) = (each_turn c.loop-left.left (omega arith) (omega (arith, c.ranges.candidates)) _ c.loop-left.invariant.1).0 in
    let rest : c.loop-left.word + c.bit.result * 2 ^ count_trailing_zeros 64 c.loop-left.left % 2 ^ 64
    + crossed_of c.args.n (row_in c.args.rows.now) (face_in c.args.corners.now) c.args.u c.args.v c.args.first (bit_and c.loop-left.left (c.loop-left.left - 1))
    ≡ crossed_of c.args.n (row_in c.args.rows.now) (face_in c.args.corners.now) c.args.u c.args.v c.args.first c.args.candidates = turn_rest c.loop-left.left (omega arith) (omega (arith, c.ranges.candidates)) _ c.loop-left.word here.small
    c.loop-left.invariant.2
    (c.bit.ensures ∙ ap digit (c.crosses.ensures ∙ ap (pierced _ _ _ _) c.face_in-f.ensures)) in (
      omega (arith, and_le_r c.loop-left.left (c.loop-left.left - 1)),
      (each_turn c.loop-left.left (omega arith) (omega (arith, c.ranges.candidates)) _ c.loop-left.invariant.1).1,
      rest,
    )

pub returns : goal.returns
returns g c =
    let z : c.loop-left.left ≡ 0 = omega arith in
    let none = ap (crossed_of c.args.n (row_in c.args.rows.now) (face_in c.args.corners.now) c.args.u c.args.v c.args.first) z ∙ kept_none _ in
    omega (arith, none, c.loop-left.invariant.2)

pub overflow_add-first-in-loop-left : goal.overflow_add-first-in-loop-left
overflow_add-first-in-loop-left g c =
    let here : Candidate c.args.n (row_in c.args.rows.now) (face_in c.args.corners.now) c.args.u c.args.v c.args.first (count_trailing_zeros 64 c.loop-left.left) = (each_turn c.loop-left.left (omega arith) (omega (arith, c.ranges.candidates)) _ c.loop-left.invariant.1).0 in
    omega (arith, here)

pub face_in-f-requires : goal.face_in-f-requires
face_in-f-requires g c =
    let here : Candidate c.args.n (row_in c.args.rows.now) (face_in c.args.corners.now) c.args.u c.args.v c.args.first (count_trailing_zeros 64 c.loop-left.left) = (each_turn c.loop-left.left (omega arith) (omega (arith, c.ranges.candidates)) _ c.loop-left.invariant.1).0 in
    omega (arith, here)

-- The faces that the first word holds are all, or the second goes on from there.
use borrow.Author.Rules.{rules}
use native.Mathlib.Omega.{arith}
use Rattle.scene.specs.Arrays.{row_in, face_in}
use Rattle.survey_sides.specs.Sides.{plane_in, ready_low, ready_high}
use Rattle.survey_sides.specs.Ties.{told_one, told_two}
use Rattle.survey_sides.proofs.digits.digits_of_point.Goals as goal

pub digits_of_word-requires : goal.digits_of_word-requires
digits_of_word-requires c =
    record { rows = c.requires.rows; faces = (c.requires.faces.0, omega arith, omega arith, omega arith); ready = c.requires.ready }

pub returns-then-count-le-WORD : goal.returns-then-count-le-WORD
returns-then-count-le-WORD c =
    told_one (row_in c.args.rows.now) (face_in c.args.corners.now) c.args.first _ _ c.if-count-le-WORD.true c.digits_of_word.ensures

pub digits_of_word-requires-2 : goal.digits_of_word-requires-2
digits_of_word-requires-2 c =
    record {
      rows = c.requires.rows;
      faces = search rules;
      ready = ready_low (row_in c.args.rows.now) (face_in c.args.corners.now) (plane_in c.args.planes.now c.args.first) c.args.first c.args.count
          c.requires.ready 64 (omega arith);
    }

pub digits_of_word-requires-3 : goal.digits_of_word-requires-3
digits_of_word-requires-3 c =
    record {
      rows = c.requires.rows;
      faces = search rules;
      ready = ready_high (row_in c.args.rows.now) (face_in c.args.corners.now) (plane_in c.args.planes.now c.args.first) c.args.first c.args.count
          c.requires.ready;
    }

pub returns : goal.returns
returns c =
    told_two (row_in c.args.rows.now) (face_in c.args.corners.now) c.args.first _ _ c.if-count-le-WORD.false
    c.digits_of_word-2.ensures
    c.digits_of_word-3.ensures

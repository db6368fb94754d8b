-- What is settled of each word is added to what the planes tell.
use native.Mathlib.Omega.{arith}
use Rattle.scene.specs.Arrays.{row_in, face_in}
use Rattle.survey_sides.specs.Sides.{plane_in}
use Rattle.survey_sides.specs.Ties.{masks_settled, low_fits, high_fits, low_tied, high_tied}
use Rattle.survey_sides.proofs.ties.settled.Goals as goal

pub ties-near-requires : goal.ties-near-requires
ties-near-requires c =
    record { rows = (c.requires.rows.0, c.requires.rows.1, omega arith, omega arith); point = (c.requires.rows.2, c.row_in-r.ensures, c.shift_at-s.ensures); tied = low_tied (row_in c.args.rows.now) (face_in c.args.corners.now) c.args.first c.args.count c.args.t c.requires.faces.1 c.requires.told (plane_in c.args.planes.now c.args.first) c.requires.faces.0 c.requires.faces.2; sloped = c.requires.sloped }

pub ties-next-requires : goal.ties-next-requires
ties-next-requires c =
    record { rows = (c.requires.rows.0, c.requires.rows.1, omega arith, omega arith); point = (c.requires.rows.2, c.row_in-r.ensures, c.shift_at-s.ensures); tied = high_tied (row_in c.args.rows.now) (face_in c.args.corners.now) c.args.first c.args.count c.args.t c.requires.faces.1 c.requires.told (plane_in c.args.planes.now c.args.first) c.requires.faces.0 c.requires.faces.2; sloped = c.ties-near.ensures.1 }

pub overflow_add-result : goal.overflow_add-result
overflow_add-result c =
    let told = c.requires.told in
    omega (
      arith,
      low_fits (row_in c.args.rows.now) (face_in c.args.corners.now) c.args.first c.args.count c.args.t c.requires.faces.1 told c.ties-near.ensures.0 c.ties-next.ensures.0,
    )

pub overflow_add-result-2 : goal.overflow_add-result-2
overflow_add-result-2 c =
    let told = c.requires.told in
    omega (
      arith,
      high_fits (row_in c.args.rows.now) (face_in c.args.corners.now) c.args.first c.args.count c.args.t c.requires.faces.1 told c.ties-near.ensures.0 c.ties-next.ensures.0,
    )

pub returns : goal.returns
returns c =
    let told = c.requires.told in (
      masks_settled (row_in c.args.rows.now) (face_in c.args.corners.now) c.args.first c.args.count c.args.t c.requires.faces.1 told c.ties-near.ensures.0 c.ties-next.ensures.0,
      c.ties-next.ensures.1,
    )

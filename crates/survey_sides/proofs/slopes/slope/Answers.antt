-- The rows of a face's corners and their shifts are within the limits.
use mathlib.Core.Path.{sym, ◌∙◌}
use Rattle.scene.specs.Arrays.{row_in}
use Rattle.survey_sides.specs.Planes.{plane_of}
use Rattle.survey_sides.specs.Slopes.{sum_of, slope_of, slope_for}
use Rattle.survey_sides.specs.SlopeSizes.{first_formed, second_formed, third_formed, slope_formed}
use Rattle.survey_sides.specs.Units.{units_are}
use Rattle.survey_sides.proofs.slopes.slope.Goals as goal

pub slope_from_directions-requires : goal.slope_from_directions-requires
slope_from_directions-requires c = (
  c.requires.0,
  c.requires.1,
  rw (sym c.row_in-q.ensures, sym c.row_in-p.ensures, sym c.row_in-r.ensures)
      (units_are _ _ _ (sym c.are_units.ensures ∙ c.if-are_units.true)),
)

pub through-requires : goal.through-requires
through-requires c =
    rw (c.shift_at.ensures, c.row_in-p.ensures, c.row_in-r.ensures)
    (first_formed (row_in c.args.rows.now) c.args.f.q c.args.f.p c.args.f.r c.requires.0 c.requires.1.q c.requires.1.p c.requires.1.r)

pub through-requires-2 : goal.through-requires-2
through-requires-2 c =
    rw (c.shift_at-2.ensures, c.row_in-q.ensures, c.row_in-r.ensures)
    (second_formed (row_in c.args.rows.now) c.args.f.q c.args.f.p c.args.f.r c.requires.0 c.requires.1.q c.requires.1.p c.requires.1.r)

pub shift_at-requires-3 : goal.shift_at-requires-3
shift_at-requires-3 c =
    (c.requires.0, c.requires.1.r)

pub through-requires-3 : goal.through-requires-3
through-requires-3 c =
    rw (c.shift_at-3.ensures, c.row_in-q.ensures, c.row_in-p.ensures)
    (third_formed (row_in c.args.rows.now) c.args.f.q c.args.f.p c.args.f.r c.requires.0 c.requires.1.q c.requires.1.p c.requires.1.r)

pub added-requires : goal.added-requires
added-requires c =
    rw (
      c.through.ensures,
      c.through-2.ensures,
      c.through-3.ensures,
      c.shift_at.ensures,
      c.shift_at-2.ensures,
      c.shift_at-3.ensures,
      c.row_in-p.ensures,
      c.row_in-q.ensures,
      c.row_in-r.ensures,
    )
    (slope_formed (row_in c.args.rows.now) c.args.f.q c.args.f.p c.args.f.r c.requires.0 c.requires.1.q c.requires.1.p c.requires.1.r)

pub returns : goal.returns
unfolding slope_of slope_for
returns c =
    c.added.ensures
    ∙ (λ i.
    sum_of ((c.through.ensures ∙ (λ j. plane_of (c.shift_at.ensures j) (c.row_in-p.ensures j) (c.row_in-r.ensures j))) i)
    ((c.through-2.ensures ∙ (λ j. plane_of (c.row_in-q.ensures j) (c.shift_at-2.ensures j) (c.row_in-r.ensures j))) i)
    ((c.through-3.ensures ∙ (λ j. plane_of (c.row_in-q.ensures j) (c.row_in-p.ensures j) (c.shift_at-3.ensures j))) i))

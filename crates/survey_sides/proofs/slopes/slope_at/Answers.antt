-- An entry that is not blank is the slope; else the slope is made, and the table with it holds slopes still.
use mathlib.Core.Path.{sym, ap, ◌∙◌}
use Rattle.scene.specs.Arrays.{row_in, face_in}
use Rattle.survey_sides.specs.Slopes.{slope_for, is_blank, stored_sloped}
use Rattle.survey_sides.proofs.slopes.slope_at.Goals as goal

pub slope-made-requires : goal.slope-made-requires
slope-made-requires c =
    (c.requires.rows.0, rw c.face_in.ensures (c.requires.rows.1 _))

pub returns-then-is_blank : goal.returns-then-is_blank
returns-then-is_blank c =
    let row = row_in c.args.rows.now in
    let e = c.slope-made.ensures ∙ ap (slope_for row) c.face_in.ensures in record { slope = e; sloped = rw c.put.ensures (stored_sloped row (face_in c.args.corners.now) c.args.slopes.now c.args.k c.requires.rows.2 e c.requires.sloped) }

pub returns : goal.returns
returns c =
    record { slope = c.stored_slope-s.ensures ∙ c.requires.sloped.made c.args.k (sym (ap is_blank c.stored_slope-s.ensures) ∙ sym c.is_blank.ensures ∙ c.if-is_blank.false); sloped = c.requires.sloped }

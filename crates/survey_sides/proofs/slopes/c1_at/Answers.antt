-- The slope at the point and the plane at its shift, added.
use mathlib.Core.Path.{sym, subst, ◌∙◌}
use Prim.Native.Nat.{ℕ, ◌≤◌}
use lib.IntN.{◌+ℤ◌}
use Rattle.laws.specs.Size.{called}
use Rattle.scene.specs.Arrays.{row_in, face_in}
use Rattle.orient.specs.Formed.{most_formed}
use Rattle.survey_sides.specs.Planes.{dot_of, plane_for}
use Rattle.survey_sides.specs.Slopes.{slope_for, slope_term}
use Rattle.survey_sides.specs.SlopeSizes.{plus_size, slope_dot, shift_dot, tilt_formed}
use Rattle.survey_sides.proofs.slopes.c1_at.Goals as goal

pub dot-a-requires : goal.dot-a-requires
unfolding slope_for
dot-a-requires c =
    let f = face_in c.args.corners.now c.args.k in
    let h = c.requires.rows.1 c.args.k in
    rw (c.slope_at.ensures.slope, c.requires.point.1)
    (slope_dot (row_in c.args.rows.now) f.q f.p f.r c.requires.rows.0 h.q h.p h.r c.args.t)

pub dot-b-requires : goal.dot-b-requires
unfolding plane_for
dot-b-requires c =
    let f = face_in c.args.corners.now c.args.k in
    let h = c.requires.rows.1 c.args.k in
    rw (c.plane_at.ensures ∙ c.requires.ready, c.requires.point.2)
    (shift_dot (row_in c.args.rows.now) f.q f.p f.r c.requires.rows.0 h.q h.p h.r c.args.t c.requires.point.0)

pub plus-requires : goal.plus-requires
unfolding slope_for plane_for
plus-requires c =
    let f = face_in c.args.corners.now c.args.k in
    let w = c.requires.rows.1 c.args.k in
    let x = called c.dot-a.type_inv (c.dot-a.ensures ∙ (λ i. dot_of (c.slope_at.ensures.slope i) (c.requires.point.1 i))) in
    let y = called c.dot-b.type_inv (c.dot-b.ensures ∙ (λ i. dot_of ((c.plane_at.ensures ∙ c.requires.ready) i) (c.requires.point.2 i))) in
    subst (λ (n : ℕ). n ≤ most_formed) (λ i. plus_size (sym x i) (sym y i))
    (tilt_formed (row_in c.args.rows.now) f.q f.p f.r c.requires.rows.0 w.q w.p w.r c.args.t c.requires.point.0)

pub returns : goal.returns
unfolding slope_for plane_for
returns c =
    let f = face_in c.args.corners.now c.args.k in
    let x = called c.dot-a.type_inv (c.dot-a.ensures ∙ (λ i. dot_of (c.slope_at.ensures.slope i) (c.requires.point.1 i))) in
    let y = called c.dot-b.type_inv (c.dot-b.ensures ∙ (λ i. dot_of ((c.plane_at.ensures ∙ c.requires.ready) i) (c.requires.point.2 i))) in
    record {
      tilt = called c.plus.type_inv (c.plus.ensures ∙ (λ i. x i +ℤ y i) ∙ slope_term (row_in c.args.rows.now) f.q f.p f.r c.args.t);
      sloped = c.slope_at.ensures.sloped;
    }

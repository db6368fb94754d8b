-- The vertices up to the first tie, and those from there on.
use mathlib.Core.Path.{◌≡◌, ap, ◌∙◌}
use Prim.Native.Nat.{ℕ, ◌+◌, ◌-◌}
use native.Mathlib.Omega.{arith}
use Rattle.scene.specs.Arrays.{row_in, face_in}
use Rattle.survey_sides.specs.Sides.{sides_of, plane_in}
use Rattle.survey_sides.specs.Tables.{masks_from, masks_join, ready_from}
use Rattle.survey_sides.proofs.point_masks.fill.Goals as goal

pub overflow_add-k : goal.overflow_add-k
overflow_add-k c = omega (arith, c.fill_clear-n.ensures.0, c.requires.solid)

pub overflow_sub-k : goal.overflow_sub-k
overflow_sub-k c = omega (arith, c.fill_clear-n.ensures.0)

pub fill_tied-requires : goal.fill_tied-requires
fill_tied-requires c =
    record {
      rows = c.requires.rows;
      solid = (omega (arith, c.fill_clear-n.ensures.0, c.requires.solid), c.requires.solid.1, c.requires.solid.2);
      ready = λ i b. ready_from (row_in c.args.rows.now) (face_in c.args.corners.now) (plane_in c.args.planes.now c.args.k.other0) c.args.k
          c.requires.ready c.fill_clear-n.result i (omega arith);
    }

pub returns : goal.returns
returns c =
    let g = sides_of (row_in c.args.rows.now) (face_in c.args.corners.now) c.args.k.other0 c.args.k.others in
    let e : c.fill_clear-n.result + (c.args.k.verts - c.fill_clear-n.result) ≡ c.args.k.verts = omega (arith, c.fill_clear-n.ensures.0) in
    c.fill_tied.ensures
    ∙ ap (masks_from g (c.args.k.vert0 + c.fill_clear-n.result) (c.args.k.verts - c.fill_clear-n.result)) c.fill_clear-n.ensures.1
    ∙ masks_join g c.args.k.vert0 c.fill_clear-n.result (c.args.k.verts - c.fill_clear-n.result) c.args.words.now
    ∙ ap (λ (n : ℕ). masks_from g c.args.k.vert0 n c.args.words.now) e

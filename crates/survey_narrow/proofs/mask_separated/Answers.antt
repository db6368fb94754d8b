-- The candidates of the two words, narrowed by the faces that part all that is pierced, and what of them is pierced: no other face is.
use native.Mathlib.Omega.{arith}
use mathlib.Core.Path.{◌∙◌}
use Rattle.scene.specs.Arrays.{row_in, face_in}
use Rattle.orient.specs.Minors.{join_of}
use Rattle.survey_sides.specs.Sizes.{join_formed}
use Rattle.survey_sides.specs.Tables.{mask_in}
use Rattle.survey_narrow.specs.Narrow.{numbered_low, numbered_high, narrow_low, narrow_high, narrow_masks}
use Rattle.survey_narrow.proofs.mask_separated.Goals as goal

pub narrowed-near-requires : goal.narrowed-near-requires
narrowed-near-requires g c =
    record {
      faces = (
        numbered_low c.args.n (row_in c.args.rows.now) (face_in c.args.corners.now) (mask_in c.args.separating.now) c.args.at c.args.u c.args.v c.args.first c.args.count (c.mask_at-a.ensures ∙ c.requires.sides.0) (c.mask_at-b.ensures ∙ c.requires.sides.1) c.requires.points.4
            c.requires.points.5,
        omega (arith, c.requires.points),
      );
    }

pub narrowed-next-requires : goal.narrowed-next-requires
narrowed-next-requires g c =
    record {
      faces = (
        numbered_high c.args.n (row_in c.args.rows.now) (face_in c.args.corners.now) (mask_in c.args.separating.now) c.args.at c.args.u c.args.v c.args.first c.args.count (c.mask_at-a.ensures ∙ c.requires.sides.0) (c.mask_at-b.ensures ∙ c.requires.sides.1) c.requires.points.4
            c.requires.points.5,
        omega (arith, c.requires.points),
      );
    }

pub row_in-requires : goal.row_in-requires
row_in-requires g c = c.requires.points.2

pub row_in-requires-2 : goal.row_in-requires-2
row_in-requires-2 g c = c.requires.points.3

pub join-l-requires : goal.join-l-requires
join-l-requires g c = rw (c.row_in.ensures, c.row_in-2.ensures) (join_formed (c.requires.rows.0 _) (c.requires.rows.0 _))

pub crossed-low-requires : goal.crossed-low-requires
crossed-low-requires g c =
    record {
      rows = c.requires.rows;
      points = (c.requires.points.0, c.requires.points.1, c.requires.points.2, c.requires.points.3, omega (arith, c.requires.points));
      edge = (c.requires.edge.0, c.join-l.ensures ∙ (λ i. join_of (c.row_in.ensures i) (c.row_in-2.ensures i)));
      faces =
          narrow_low c.args.n (row_in c.args.rows.now) (face_in c.args.corners.now) (mask_in c.args.separating.now) c.args.at c.args.u c.args.v c.args.first c.args.count (c.mask_at-a.ensures ∙ c.requires.sides.0) (c.mask_at-b.ensures ∙ c.requires.sides.1)
          c.requires.points.4 c.requires.points.5 c.requires.edge.1 c.narrowed-near.ensures;
    }

pub overflow_add-first : goal.overflow_add-first
overflow_add-first g c = omega (arith, c.requires.points)

pub crossed-high-requires : goal.crossed-high-requires
crossed-high-requires g c =
    record {
      rows = c.requires.rows;
      points = (c.requires.points.0, c.requires.points.1, c.requires.points.2, c.requires.points.3, omega (arith, c.requires.points));
      edge = (c.requires.edge.0, c.join-l.ensures ∙ (λ i. join_of (c.row_in.ensures i) (c.row_in-2.ensures i)));
      faces =
          narrow_high c.args.n (row_in c.args.rows.now) (face_in c.args.corners.now) (mask_in c.args.separating.now) c.args.at c.args.u c.args.v c.args.first c.args.count (c.mask_at-a.ensures ∙ c.requires.sides.0) (c.mask_at-b.ensures ∙ c.requires.sides.1)
          c.requires.points.4 c.requires.points.5 c.requires.edge.1 c.narrowed-next.ensures;
    }

pub returns : goal.returns
returns g c =
    narrow_masks c.args.n (row_in c.args.rows.now) (face_in c.args.corners.now) (mask_in c.args.separating.now) c.args.at c.args.u c.args.v c.args.first c.args.count (c.mask_at-a.ensures ∙ c.requires.sides.0) (c.mask_at-b.ensures ∙ c.requires.sides.1) c.requires.points.4
    c.requires.points.5 c.requires.parted c.narrowed-near.ensures c.narrowed-next.ensures c.crossed-low.ensures c.crossed-high.ensures

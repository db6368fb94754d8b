-- The candidates of the two words, and what of them is pierced: no other face is.
use borrow.Author.Rules.{rules}
use mathlib.Core.Path.{◌≡◌, ◌∙◌}
use Rattle.scene.specs.Arrays.{row_in, face_in}
use Rattle.orient.specs.Minors.{join_of}
use Rattle.survey_sides.specs.Sizes.{join_formed}
use Rattle.survey_sides.specs.Crossing.{candidates_low, candidates_high, masks_told}
use Rattle.survey_sides.proofs.mask_from_sides.Goals as goal

pub join-l-requires : goal.join-l-requires
join-l-requires g c =
    rw (c.row_in.ensures, c.row_in-2.ensures) (join_formed (c.requires.rows.0 _) (c.requires.rows.0 _))

pub crossed-low-requires : goal.crossed-low-requires
crossed-low-requires g c =
    let line : c.join-l.result ≡ join_of ((row_in c.args.rows.now) c.args.u) ((row_in c.args.rows.now) c.args.v) = c.join-l.ensures ∙ (λ i. join_of (c.row_in.ensures i) (c.row_in-2.ensures i)) in
    record {
      rows = c.requires.rows;
      points = search rules;
      edge = (c.requires.edge.0, line);
      faces = candidates_low c.args.n (row_in c.args.rows.now) (face_in c.args.corners.now) c.args.u c.args.v c.args.first c.args.count c.requires.sides.0 c.requires.sides.1 c.requires.faces.0
          c.requires.faces.1 c.requires.edge.1;
    }

pub crossed-high-requires : goal.crossed-high-requires
crossed-high-requires g c =
    let line : c.join-l.result ≡ join_of ((row_in c.args.rows.now) c.args.u) ((row_in c.args.rows.now) c.args.v) = c.join-l.ensures ∙ (λ i. join_of (c.row_in.ensures i) (c.row_in-2.ensures i)) in
    record {
      rows = c.requires.rows;
      points = search rules;
      edge = (c.requires.edge.0, line);
      faces = candidates_high c.args.n (row_in c.args.rows.now) (face_in c.args.corners.now) c.args.u c.args.v c.args.first c.args.count c.requires.sides.0 c.requires.sides.1 c.requires.faces.0
          c.requires.faces.1 c.requires.edge.1;
    }

pub returns : goal.returns
returns g c =
    masks_told c.args.n (row_in c.args.rows.now) (face_in c.args.corners.now) c.args.u c.args.v c.args.first c.args.count c.requires.sides.0 c.requires.sides.1 c.requires.faces.0 c.requires.faces.1
    c.crossed-low.ensures c.crossed-high.ensures

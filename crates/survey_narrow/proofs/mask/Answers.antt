-- Where a face at the edge parts no face of the other solid nothing is pierced; else those at the edge part all that is.
use mathlib.Core.Path.{sym, ◌∙◌}
use Rattle.scene.specs.Arrays.{row_in, face_in}
use Rattle.survey_sides.specs.Tables.{mask_in}
use Rattle.survey_narrow.specs.Cover.{covers, both_of}
use Rattle.survey_narrow.specs.Narrow.{all_parted, none_pierced}
use Rattle.survey_narrow.proofs.mask.Goals as goal

pub returns-then-not-has_all : goal.returns-then-not-has_all
returns-then-not-has_all g c =
    none_pierced c.args.n (row_in c.args.rows.now) (face_in c.args.corners.now) (mask_in c.args.own.now) (mask_in c.args.separating.now) c.args.u c.args.v c.args.first c.args.count (c.both-at.ensures ∙ (λ i. both_of (c.mask_at.ensures i) (c.mask_at-2.ensures i))) c.requires.edge.0 c.requires.points.0 c.requires.edge.1
    c.requires.around
    (sym (c.has_all.ensures ∙ (λ i. covers (c.separating_at.ensures i) c.both-at.result)) ∙ c.if-not-has_all.true)

pub mask_separated-requires-clause-parted : goal.mask_separated-requires-clause-parted
mask_separated-requires-clause-parted g c =
    all_parted c.args.n (row_in c.args.rows.now) (face_in c.args.corners.now) (mask_in c.args.own.now) (mask_in c.args.separating.now) c.args.u c.args.v c.args.first c.args.count (c.both-at.ensures ∙ (λ i. both_of (c.mask_at.ensures i) (c.mask_at-2.ensures i))) c.requires.edge.0 c.requires.points.0
    c.requires.edge.1 c.requires.around

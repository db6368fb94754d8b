-- The words of the three corners are looked up.
use Rattle.survey_narrow.specs.Cover.{cut_of, cut_in}
use Rattle.survey_narrow.proofs.separating_faces.separating_of.Goals as goal

pub returns : goal.returns
unfolding cut_in
returns c =
    λ i. cut_of (c.mask_at-p.ensures i) (c.mask_at-q.ensures i) (c.mask_at-r.ensures i)

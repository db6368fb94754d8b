-- Ends and mask are read, and the mask tells the first face.
use mathlib.Core.Path.{◌∙◌}
use Rattle.questions.specs.First.{first_of}
use Rattle.survey_edges.specs.Table.{entry_hits}
use Rattle.survey_edges.proofs.first.find_entry.Goals as goal

pub returns : goal.returns
returns c =
    c.first_of_mask.ensures ∙ (λ i. first_of (entry_hits c.args.first
    (record { low = c.from-u.ensures i; high = c.from-v.ensures i; mask = c.mask_at.ensures.value i })))

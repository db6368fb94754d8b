-- The judge decides, then the question's own faults; else the mask with its ones.
use Rattle.std.specs.Prelude.{refl}
use Rattle.std.proofs.Common.{ap, ◌∙◌}
use Rattle.laws.specs.Exits.{exits}
use Rattle.questions.specs.Answers.{masked_in, masked_of, refused, said_mask}
use Rattle.questions.specs.Asked.{mask_outside}
use Rattle.questions.specs.Laws.{accepted_so, refused_so, own_refused, both_accept}
use Rattle.survey_scene.specs.Ready.{mask_said}
use Rattle.kernel.proofs.masks.mask.Goals as goal

pub returns-in_err-judge : goal.returns-in_err-judge
unfolding masked_of masked_in
returns-in_err-judge g c =
    ap said_mask (exits c.from_residual.ensures.1 refl) ∙ refused_so refused _ c.judge.ensures c.in_err-judge.was

pub returns-in_err-mask_fault : goal.returns-in_err-mask_fault
unfolding masked_of masked_in
returns-in_err-mask_fault g c =
    ap said_mask (exits c.from_residual-in_err-mask_fault.ensures.1 refl)
    ∙ own_refused refused _ c.judge.ensures c.in_ok-judge.was c.mask_fault.ensures c.in_err-mask_fault.was

pub mask_of-m-requires : goal.mask_of-m-requires
unfolding masked_of masked_in
mask_of-m-requires g c = search (mask_outside, accepted_so, c.in_ok-judge.was, c.in_ok-mask_fault.was)

pub returns : goal.returns
unfolding masked_of masked_in
returns g c = search (both_accept refused, accepted_so, mask_said, c.in_ok-judge.was, c.in_ok-mask_fault.was)

-- The judge decides, then 11; else the oddness of the mask toward the far point.
use Rattle.laws.specs.Exits.{exits}
use Rattle.questions.specs.Answers.{enclosed_in, enclosed_of}
use Rattle.questions.specs.Asked.{enclosed_vertex_law, far_outside}
use Rattle.questions.specs.Laws.{accepted_so, said_so, err_so, own_err, both_ok}
use Rattle.survey_scene.specs.Ready.{enclosed_found}
use Rattle.kernel.proofs.masks.enclosed.Goals as goal

pub returns-in_err-judge : goal.returns-in_err-judge
unfolding enclosed_of enclosed_in
returns-in_err-judge g c = exits c.from_residual.ensures.1 (err_so _ c.judge.ensures c.in_err-judge.was)

pub returns-in_err-enclosed_fault : goal.returns-in_err-enclosed_fault
unfolding enclosed_of enclosed_in
returns-in_err-enclosed_fault g c =
    exits c.from_residual-in_err-enclosed_fault.ensures.1 (own_err _ c.judge.ensures c.in_ok-judge.was c.enclosed_fault.ensures c.in_err-enclosed_fault.was)

pub mask_of-requires : goal.mask_of-requires
unfolding enclosed_of enclosed_in
mask_of-requires g c = search (far_outside, enclosed_vertex_law, accepted_so, c.in_ok-judge.was, c.in_ok-enclosed_fault.was)

pub returns : goal.returns
unfolding enclosed_of enclosed_in
returns g c = search (both_ok, accepted_so, said_so, enclosed_found, c.in_ok-judge.was, c.in_ok-enclosed_fault.was)

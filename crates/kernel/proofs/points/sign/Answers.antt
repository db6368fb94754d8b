-- The judge decides, then the question's own faults; four different points of an accepted scene have a sign.
use Rattle.laws.specs.Exits.{exits}
use Rattle.questions.specs.Answers.{sign_in, sign_of}
use Rattle.questions.specs.Laws.{accepted_so, err_so, own_err, both_ok}
use Rattle.rules.proofs.Given.{rows_within}
use Rattle.survey_scene.specs.Ready.{rows_fit, sign_fits, four_are, sign_found}
use Rattle.kernel.proofs.points.sign.Goals as goal

pub returns-in_err-judge : goal.returns-in_err-judge
unfolding sign_of sign_in
returns-in_err-judge c = exits c.from_residual.ensures.1 (err_so _ c.judge.ensures c.in_err-judge.was)

pub returns-in_err-sign_fault : goal.returns-in_err-sign_fault
unfolding sign_of sign_in
returns-in_err-sign_fault c =
    exits c.from_residual-in_err-sign_fault.ensures.1 (own_err _ c.judge.ensures c.in_ok-judge.was c.sign_fault.ensures c.in_err-sign_fault.was)

pub rows-requires : goal.rows-requires
unfolding sign_of sign_in
rows-requires c = search (rows_fit, rows_within, accepted_so, c.in_ok-judge.was, c.in_ok-sign_fault.was)

pub terms_at-terms-requires : goal.terms_at-terms-requires
unfolding sign_of sign_in
terms_at-terms-requires c = search (sign_fits, accepted_so, c.in_ok-judge.was, c.in_ok-sign_fault.was)

pub positive_at-requires : goal.positive_at-requires
unfolding sign_of sign_in
positive_at-requires c = search (sign_fits, four_are, accepted_so, c.in_ok-judge.was, c.in_ok-sign_fault.was)

pub returns : goal.returns
unfolding sign_of sign_in
returns c = search (both_ok, accepted_so, sign_found, c.in_ok-judge.was, c.in_ok-sign_fault.was)

-- The judge decides, then the question's own faults; else the engine.
use Rattle.laws.specs.Exits.{exits}
use Rattle.std.specs.Prelude.{Ok}
use mathlib.Core.Path.{◌≡◌}
use Rattle.judge.specs.Judge.{judged}
use Rattle.scene.specs.View.{view_of}
use Rattle.questions.specs.Answers.{pierces_fault, pierces_in, pierces_of}
use Rattle.questions.specs.Laws.{accepted_so, said_so, err_so, own_err, both_ok}
use Rattle.rules.proofs.Given.{rows_within}
use Rattle.survey_scene.specs.Ready.{rows_fit, pierces_fit, pierces_found}
use Rattle.kernel.proofs.points.pierces.Goals as goal

pub returns-in_err-judge : goal.returns-in_err-judge
unfolding pierces_of pierces_in
returns-in_err-judge g c = exits c.from_residual.ensures.1 (err_so _ c.judge.ensures c.in_err-judge.was)

pub returns-in_err-pierces_fault : goal.returns-in_err-pierces_fault
unfolding pierces_of pierces_in
returns-in_err-pierces_fault g c =
    exits c.from_residual-in_err-pierces_fault.ensures.1 (own_err _ c.judge.ensures c.in_ok-judge.was c.pierces_fault.ensures c.in_err-pierces_fault.was)

pub rows-requires : goal.rows-requires
unfolding pierces_of pierces_in
rows-requires g c = search (rows_fit, rows_within, accepted_so, c.in_ok-judge.was, c.in_ok-pierces_fault.was)

pub pierces-requires : goal.pierces-requires
unfolding pierces_of pierces_in
pierces-requires g c =
    let ok : judged c.args.s.now ≡ (Ok tt) = search (accepted_so, c.in_ok-judge.was, c.in_ok-pierces_fault.was) in
    let h : pierces_fault (view_of c.args.s.now) c.args.u c.args.v c.args.f ≡ (Ok tt) = search (accepted_so, c.in_ok-judge.was, c.in_ok-pierces_fault.was) in
    let q = pierces_fit c.args.s.now ok c.args.f h c.rows.ensures c.points.ensures.0 c.corners.ensures in
    record { points = q.0; edge = q.1 }

pub returns : goal.returns
unfolding pierces_of pierces_in
returns g c = search (both_ok, accepted_so, said_so, pierces_found, c.in_ok-judge.was, c.in_ok-pierces_fault.was)

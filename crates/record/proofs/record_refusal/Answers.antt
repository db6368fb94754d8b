-- The judge decides, then the number of records.
use Rattle.laws.specs.Exits.{exits}
use Prim.Native.Nat.{◌<◌, ◌≤◌}
use Rattle.scene.specs.Records.{last_record}
use native.Mathlib.Omega.{arith}
use Rattle.record.specs.Cases.{not_judged, lacking, had}
use Rattle.record.proofs.record_refusal.Goals as goal

pub returns-then-k-last_record : goal.returns-then-k-last_record
returns-then-k-last_record c =
    let h : last_record c.args.s.now < c.args.k = omega arith in
    search (lacking, c.in_ok-judge.was)

pub returns : goal.returns
returns c =
    let h : c.args.k ≤ last_record c.args.s.now = omega arith in
    search (had, c.in_ok-judge.was)

pub returns-in_err-judge : goal.returns-in_err-judge
returns-in_err-judge c = exits c.from_residual.ensures.1 (not_judged _ _ c.judge.ensures c.in_err-judge.was)

-- What the judge says, and then the room.
use Rattle.std.proofs.Common.{refl}
use Rattle.std.specs.Prelude.{ℕ}
use Rattle.laws.specs.Exits.{exits}
use Rattle.off_scene.specs.Laws.{judge_accepts, judge_refuses}
use Rattle.off_scene.proofs.judged.Goals as goal

pub returns-in_err-judge : goal.returns-in_err-judge
returns-in_err-judge c =
    judge_refuses _ _ c.judge.ensures _ _ c.in_err-judge.was (exits c.from_residual.ensures.1 refl)

pub returns : goal.returns
returns c = judge_accepts _ _ c.judge.ensures _ _ c.in_ok-judge.was c.placed.ensures

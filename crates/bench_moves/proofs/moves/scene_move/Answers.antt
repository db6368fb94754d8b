use native.Mathlib.Omega.{arith}
use mathlib.Core.Path.{ap, ◌∙◌}
use Prim.Native.Nat.{ℕ, ◌+◌}
use Rattle.session.specs.Session.{moved_of}
use Rattle.bench_moves.specs.Laws.{scene_vertex, scene_far}
use Rattle.bench_moves.proofs.moves.scene_move.Goals as goal

pub returns-then-n-from : goal.returns-then-n-from
returns-then-n-from c =
    scene_vertex _ _ _ _ (omega arith)
    (c.move_vertex.ensures ∙ ap (λ (i : ℕ). moved_of c.args.s (i + c.args.n) c.args.v) c.from-own.ensures)

pub returns : goal.returns
returns c = scene_far _ _ _ _ (omega arith) c.move_far.ensures

-- The scene is saved and its header read.
use mathlib.Core.Path.{◌≡◌, refl}
use lib.ListN.{length}
use Rattle.scene.specs.Limits.{limits, longest}
use Rattle.bench_moves.specs.Laws.{scene_fits, solids_none, solids_held}
use borrow.Author.Rules.{rules}
use Rattle.bench_moves.proofs.moves.solids_of.Goals as goal

pub returns-in-Err : goal.returns-in-Err
returns-in-Err c =
    let h : length c.args.s.bytes ≡ longest limits = search rules in
    solids_none _ _ c.save-j.ensures.answer c.in-Err.is (scene_fits c.args.s (longest limits) h)

pub returns-in-Ok : goal.returns-in-Ok
returns-in-Ok c = solids_held _ _ _ c.save-j.ensures c.in-Ok.is refl refl

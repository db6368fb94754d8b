use Rattle.scene.specs.Write.{row_put}
use Rattle.session.specs.Place.{move_fault}
use Rattle.bodhranhaze.specs.Moves.{row_again, moved_by}
use Rattle.bodhranhaze.proofs.moves.bodhranhaze_move.Goals as goal

pub returns : goal.returns
returns c =
    moved_by (move_fault c.args.s.now c.args.p) (row_put c.args.s.now c.args.p) c.args.s.now
    (row_again c.ranges.x c.ranges.y c.ranges.z c.ranges.w) c.move_vertex-j.ensures c.number_of.ensures

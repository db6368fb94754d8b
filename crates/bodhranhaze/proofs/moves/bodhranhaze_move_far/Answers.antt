use Rattle.scene.specs.Write.{row_put}
use Rattle.session.specs.Place.{move_far_fault}
use Rattle.bodhranhaze.specs.Moves.{row_again, moved_by}
use Rattle.bodhranhaze.proofs.moves.bodhranhaze_move_far.Goals as goal

pub returns : goal.returns
returns c =
    moved_by (move_far_fault c.args.s.now) (row_put c.args.s.now 0) c.args.s.now
    (row_again c.ranges.x c.ranges.y c.ranges.z c.ranges.w) c.move_far-j.ensures c.number_of.ensures

use mathlib.Core.Path.{◌≡◌, refl}
use Rattle.std.proofs.Common.{ap, not}
use native.Mathlib.Omega.{arith}
use lib.ListN.{length}
use Rattle.print_lines.specs.Rows.{rows_length, rows_none, rendered_none, rendered_row, rendered_full, rendered_all}
use Rattle.print_lines.specs.Rows.{room_left, room_gone}
use Rattle.print_lines.proofs.rows.rows.Goals as goal

pub returns-then-out-at : goal.returns-then-out-at
returns-then-out-at c = rows_none _ _ _ c.if-out-at.true

pub loop-i-init : goal.loop-i-init
loop-i-init c = (omega arith, c.least-m.ensures, refl, rendered_none _ _ _ (omega arith))

pub returns-then-not-has_room : goal.returns-then-not-has_room
returns-then-not-has_room c =
    let room = room_gone (length c.loop-i.out) c.loop-i.p c.has_room.ensures (ap not c.if-not-has_room.true) in
    rendered_full _ _ _ c.loop-i.invariant.3 (omega (arith, room, c.loop-i.invariant.2))

pub loop-i-preserved : goal.loop-i-preserved
loop-i-preserved c =
    let room = room_left (length c.loop-i.out) c.loop-i.p c.has_room.ensures (ap not c.if-not-has_room.false) in
    let x = rendered_row _ _ c.loop-i.invariant.3 (omega (arith, c.loop-i.invariant.1, c.loop-i-test.true)) (omega (arith, room, c.loop-i.invariant.2)) c.row-p.ensures in
    (c.loop-i.invariant.0, c.loop-i.invariant.1, x.so_far.kept, x)

pub returns : goal.returns
returns c =
    let e : c.loop-i.i ≡ c.least-m.result = omega arith in
    rw (← e) (rendered_all _ _ _ c.loop-i.invariant.3 (omega (arith, rows_length c.args.list.now c.args.n)))

use Rattle.std.proofs.Common.{not, ap}
use Rattle.scene.specs.Tables.{tables_of, row}
use Rattle.off_write.specs.Laws.{weighted_start, weighted_stop, weighted_found, weighted_next}
use Rattle.off_write.proofs.is_weighted.Goals as goal

pub loop-i-init : goal.loop-i-init
loop-i-init c =
    (weighted_start (row (tables_of c.args.s.now)) c.args.first c.args.n)

pub returns-then-not-is_one : goal.returns-then-not-is_one
returns-then-not-is_one c =
    weighted_found (row (tables_of c.args.s.now)) c.args.first c.args.n c.loop-i.i c.loop-i.invariant
    c.loop-i-test.true
    c.row.ensures c.is_one.ensures (ap not c.if-not-is_one.true)

pub loop-i-preserved : goal.loop-i-preserved
loop-i-preserved c =
    weighted_next (row (tables_of c.args.s.now)) c.args.first c.args.n c.loop-i.i c.loop-i.invariant
    c.loop-i-test.true
    c.row.ensures c.is_one.ensures (ap not c.if-not-is_one.false)

pub returns : goal.returns
returns c =
    weighted_stop (row (tables_of c.args.s.now)) c.args.first c.args.n c.loop-i.i c.loop-i.invariant c.loop-i-test.false

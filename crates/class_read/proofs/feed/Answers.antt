use mathlib.Core.Path.{◌≡◌, refl}
use lib.ListN.{length}
use native.Mathlib.Omega.{arith}
use Rattle.class_read.specs.Branches.{fed_end, fed_stops, read_next, end_next}
use Rattle.class_read.proofs.feed.Goals as goal

pub loop-i-init : goal.loop-i-init
loop-i-init c = (refl, omega arith)

pub returns-then-q-form : goal.returns-then-q-form
returns-then-q-form c = search fed_stops

pub loop-i-preserved : goal.loop-i-preserved
loop-i-preserved c = search (read_next, end_next)

pub returns : goal.returns
returns c = let e : c.loop-i.i ≡ length c.args.text.now = omega arith in rw (← e) (search fed_end)

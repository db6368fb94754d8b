use mathlib.Core.Path.{refl}
use native.Mathlib.Omega.{arith}
use Rattle.off_items.specs.Items.{start_of}
use Rattle.off_items.specs.Laws.{scans}
use Rattle.off_items.proofs.start.Goals as goal

pub loop-i-init : goal.loop-i-init
unfolding start_of
loop-i-init c = (refl, omega arith, omega arith)

pub bounds-text-i : goal.bounds-text-i
bounds-text-i c = search scans

pub separates-requires : goal.separates-requires
separates-requires c = search scans

pub returns-then-not-separates : goal.returns-then-not-separates
returns-then-not-separates c = search scans

pub overflow_add-i : goal.overflow_add-i
overflow_add-i c = search scans

pub line_end-i-requires : goal.line_end-i-requires
line_end-i-requires c = search scans

pub loop-i-smaller-then-c-eq35 : goal.loop-i-smaller-then-c-eq35
loop-i-smaller-then-c-eq35 c = search scans

pub loop-i-preserved-then-c-eq35 : goal.loop-i-preserved-then-c-eq35
loop-i-preserved-then-c-eq35 c = search scans

pub overflow_add-i-else-c-eq35 : goal.overflow_add-i-else-c-eq35
overflow_add-i-else-c-eq35 c = search scans

pub loop-i-smaller : goal.loop-i-smaller
loop-i-smaller c = search scans

pub loop-i-preserved : goal.loop-i-preserved
loop-i-preserved c = search scans

pub returns : goal.returns
returns c = search scans

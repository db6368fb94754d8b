-- Each row out of range decides.
use Rattle.laws.specs.Tests.{ands}
use Rattle.map_image.specs.Image.{entries_ok}
use Rattle.map_image.proofs.rows.entries_ok.Goals as goal

pub returns-then-not-row_upto : goal.returns-then-not-row_upto
unfolding entries_ok
returns-then-not-row_upto c = search ands depth 16

pub returns-then-not-row_upto-2 : goal.returns-then-not-row_upto-2
unfolding entries_ok
returns-then-not-row_upto-2 c = search ands depth 16

pub returns-then-not-row_upto-3 : goal.returns-then-not-row_upto-3
unfolding entries_ok
returns-then-not-row_upto-3 c = search ands depth 16

pub returns : goal.returns
unfolding entries_ok
returns c = search ands depth 16

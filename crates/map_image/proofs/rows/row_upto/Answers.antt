-- Each size that is too large decides.
use Rattle.map_image.specs.Image.{row_upto}
use Rattle.map_image.specs.Tests.{sized}
use borrow.Author.Rules.{rules}
use Rattle.map_image.proofs.rows.row_upto.Goals as goal

pub returns-then-size-most : goal.returns-then-size-most
unfolding row_upto
returns-then-size-most c = search (sized, rules) depth 16

pub returns-then-size-most-2 : goal.returns-then-size-most-2
unfolding row_upto
returns-then-size-most-2 c = search (sized, rules) depth 16

pub returns-then-size-most-3 : goal.returns-then-size-most-3
unfolding row_upto
returns-then-size-most-3 c = search (sized, rules) depth 16

pub returns : goal.returns
unfolding row_upto
returns c = search (sized, rules) depth 16

-- Each size that is too large decides.
use Rattle.map_image.specs.Image.{coordinates_ok}
use Rattle.map_image.specs.Tests.{sized}
use borrow.Author.Rules.{rules}
use Rattle.map_image.proofs.rows.coordinates_ok.Goals as goal

pub returns-then-size-gt-MOST_COORDINATE : goal.returns-then-size-gt-MOST_COORDINATE
unfolding coordinates_ok
returns-then-size-gt-MOST_COORDINATE c = search (sized, rules) depth 16

pub returns-then-size-gt-MOST_COORDINATE-2 : goal.returns-then-size-gt-MOST_COORDINATE-2
unfolding coordinates_ok
returns-then-size-gt-MOST_COORDINATE-2 c = search (sized, rules) depth 16

pub returns : goal.returns
unfolding coordinates_ok
returns c = search (sized, rules) depth 16

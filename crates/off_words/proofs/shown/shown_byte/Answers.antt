-- By its branches.
use Rattle.off_words.specs.Shown.{shown_below, shown_plain, shown_above}
use Rattle.off_words.proofs.shown.shown_byte.Goals as goal

pub returns-then-c-lt33 : goal.returns-then-c-lt33
returns-then-c-lt33 c = search shown_below

pub returns-then-c-lt127 : goal.returns-then-c-lt127
returns-then-c-lt127 c = search shown_plain

pub returns : goal.returns
returns c = search shown_above

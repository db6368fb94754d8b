-- The light's number.
use Rattle.bodhranhaze.specs.Colours.{shown}
use Rattle.bodhranhaze.proofs.colours.bodhranhaze_light.Goals as goal

pub returns : goal.returns
returns c = search shown

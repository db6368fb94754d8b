-- A number is zero where its bits are.
use Rattle.orient.specs.Bits.{read}
use Rattle.survey_sides.specs.Slopes.{zero_read}
use Rattle.survey_sides.proofs.slopes.is_zero.Goals as goal

pub returns : goal.returns
returns c = zero_read (read c.ranges.n)

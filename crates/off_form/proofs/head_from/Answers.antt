-- Three items behind the keyword.
use Rattle.off_form.specs.Head.{headed}
use Rattle.off_form.proofs.head_from.Goals as goal

pub returns : goal.returns
returns c = search headed depth 14

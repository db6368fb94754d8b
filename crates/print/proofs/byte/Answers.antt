-- A byte within the buffer, or none.
use Rattle.print.specs.Put.{put_byte, put_full}
use Rattle.print.proofs.byte.Goals as goal

pub returns-then-at-out : goal.returns-then-at-out
returns-then-at-out c = put_byte _ _ _ c.if-at-out.true

pub returns-else-at-out : goal.returns-else-at-out
returns-else-at-out c = put_full _ _ _ c.if-at-out.false

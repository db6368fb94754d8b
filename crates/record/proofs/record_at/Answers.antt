-- Each kind of record starts where the counts say.
use native.Mathlib.Omega.{arith}
use Rattle.record.specs.Cases.{at_header, at_point, at_face, at_end}
use Rattle.record.proofs.record_at.Goals as goal

pub returns-then-k-eq0 : goal.returns-then-k-eq0
returns-then-k-eq0 c = at_header _ _ (omega arith) c.part.ensures

pub returns-then-k-v : goal.returns-then-k-v
returns-then-k-v c = at_point _ _ (omega arith) (omega arith) c.part-then-k-v.ensures

pub returns-then-k-v-2 : goal.returns-then-k-v-2
returns-then-k-v-2 c = at_face _ _ (omega arith) (omega arith) (omega arith) (cc)

pub returns : goal.returns
returns c = at_end _ _ (omega arith) (omega arith) (omega arith) (cc)

-- A's faces come first.
use native.Mathlib.Omega.{arith}
use mathlib.Core.Path.{sym, ◌∙◌}
use Rattle.judge.specs.Cases.{verts_of_a, verts_of_b}
use Rattle.judge.proofs.records.verts_at.Goals as goal

pub returns-then-i-byte : goal.returns-then-i-byte
returns-then-i-byte c = c.byte-then-i-byte.ensures.0 ∙ sym (verts_of_a _ _ (omega arith))

pub returns-else-i-byte : goal.returns-else-i-byte
returns-else-i-byte c = c.byte-else-i-byte.ensures.0 ∙ sym (verts_of_b _ _ (omega arith))

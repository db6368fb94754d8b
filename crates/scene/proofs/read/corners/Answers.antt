use native.Mathlib.Omega.{arith}
use mathlib.Core.Path.{sym, ap₂, ◌∙◌}
use Rattle.scene.specs.Tables.{raise}
use Rattle.scene.specs.Read.{face_zero, face_none, face_a, face_b}
use Rattle.scene.proofs.read.corners.Goals as goal

pub returns-then-k-eq0 : goal.returns-then-k-eq0
returns-then-k-eq0 c =
    sym (face_zero c.args.s.now {k = c.args.k} (omega arith))

pub returns-then-k-a : goal.returns-then-k-a
returns-then-k-a c =
    sym (face_none c.args.s.now c.args.k (omega arith))

pub returns-then-k-a-2 : goal.returns-then-k-a-2
returns-then-k-a-2 c = c.face_at-f.ensures.0 ∙ sym (face_a _ _ (omega arith) (omega arith))

pub returns : goal.returns
returns c =
    ap₂ raise c.byte-m.ensures.0 c.face_at-f.ensures.0 ∙ sym (face_b c.args.s.now c.args.k (omega arith) (omega arith))

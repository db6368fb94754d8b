-- The edges are counted over the faces of the face's own solid.
use mathlib.Core.Path.{◌≡◌, ◌∙◌, sym, ap}
use Prim.Native.Nat.{ℕ, ◌+◌}
use native.Mathlib.Omega.{arith}
use Rattle.scene.specs.Records.{faces_in_a, faces_in_b}
use Rattle.judge.specs.Judge.{sides_ok}
use Rattle.judge.specs.Cases.{closed_of_a, closed_of_b}
use Rattle.judge.proofs.closed.is_closed_at.Goals as goal

pub returns-then-i-byte : goal.returns-then-i-byte
returns-then-i-byte c =
    let e : 0 + faces_in_a c.args.s.now ≡ faces_in_a c.args.s.now = omega arith in
    c.sides_ok.ensures 0 (faces_in_a c.args.s.now) c.requires.words.0
    ∙ ap (λ (n : ℕ). sides_ok c.args.s.now 0 n c.args.i) e ∙ sym (closed_of_a c.args.s.now c.args.i (omega arith))

pub returns : goal.returns
returns c =
    c.sides_ok-2.ensures (faces_in_a c.args.s.now) (faces_in_b c.args.s.now) c.requires.words.1 ∙ sym (closed_of_b c.args.s.now c.args.i (omega arith))

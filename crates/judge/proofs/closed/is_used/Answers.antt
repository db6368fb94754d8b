-- The bit of the point in the word of its own solid.
use Prim.Native.Nat.{ℕ, ◌+◌}
use mathlib.Core.Path.{◌≡◌, sym, ap, ◌∙◌}
use native.Mathlib.Omega.{arith}
use Rattle.laws.specs.Range.{any_of}
use Rattle.scene.specs.Records.{faces_in_a, faces_in_b, faces}
use Rattle.judge.specs.Judge.{is_corner_of}
use Rattle.judge.specs.Cases.{used_of_a, used_of_b}
use Rattle.judge.specs.Words.{in_used}
use Rattle.judge.proofs.closed.is_used.Goals as goal

pub returns-then-p-v : goal.returns-then-p-v
returns-then-p-v c =
    let e : 0 + faces_in_a c.args.s.now ≡ faces_in_a c.args.s.now = omega arith in
    c.in_used.ensures ∙ in_used c.args.s.now 0 (faces_in_a c.args.s.now) c.args.p c.requires.words.0 (omega arith) ∙ ap (any_of (is_corner_of c.args.s.now c.args.p) 0) e
    ∙ sym (used_of_a c.args.s.now c.args.p (omega arith))

pub returns : goal.returns
returns c =
    c.in_used-2.ensures ∙ in_used c.args.s.now (faces_in_a c.args.s.now) (faces_in_b c.args.s.now) _ c.requires.words.1 (omega arith)
    ∙ ap (λ (v : ℕ). any_of (is_corner_of c.args.s.now v) (faces_in_a c.args.s.now) (faces c.args.s.now)) (omega arith)
    ∙ sym (used_of_b c.args.s.now c.args.p (omega arith))

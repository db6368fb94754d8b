-- The three corners are read once; their word is turned in that of each.
use Prim.Native.Nat.{ℕ, ◌^◌}
use mathlib.Core.Path.{ap, ◌∙◌}
use native.Mathlib.Omega.{arith}
use Rattle.judge.specs.Words.{xored_size, three_places, turns_face}
use Rattle.judge.proofs.words.turn_face.Goals as goal

pub turn-requires-2 : goal.turn-requires-2
turn-requires-2 c =
    (xored_size _ _ _ c.turn.ensures c.requires.0, omega (arith, c.requires.2.q, c.corner-q.ensures.0))

pub turn-requires-3 : goal.turn-requires-3
turn-requires-3 c =
    (xored_size _ _ _ c.turn-2.ensures (xored_size _ _ _ c.turn.ensures c.requires.0), omega (arith, c.requires.2.r, c.corner-r.ensures.0))

pub returns : goal.returns
returns c =
    let t = three_places _ _ c.requires.2 (c.bit.ensures ∙ ap (λ (k : ℕ). 2 ^ k) c.corner-p.ensures.0) (c.bit-2.ensures ∙ ap (λ (k : ℕ). 2 ^ k) c.corner-q.ensures.0)
    (c.bit-3.ensures ∙ ap (λ (k : ℕ). 2 ^ k) c.corner-r.ensures.0) in
    (turns_face _ _ _ c.requires.2 c.requires.0 c.corner-p.ensures.0 c.corner-q.ensures.0 c.corner-r.ensures.0 t c.turn.ensures c.turn-2.ensures c.turn-3.ensures, t)

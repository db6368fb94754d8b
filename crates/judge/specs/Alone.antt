-- A word has no bit set but its own vertex's. Assumes nothing.
use Rattle.std.specs.Prelude.{◌≡◌, Bool, true, List, ℕ, ◌^◌, ◌≤◌, get_or}
use Rattle.std.specs.Int.Bits.{bit_or}
use Rattle.std.proofs.Math.Dec.{eqb}

-- no bit of the word of v is set but that of v
abbrev pub is_alone : (w v : ℕ) → Bool
is_alone w v = eqb (bit_or w (2 ^ v)) (2 ^ v)

-- so it is of each vertex up to n
abbrev pub Alone : List ℕ → ℕ → Type 0
Alone words n = (v : ℕ) → v ≤ n → is_alone (get_or words v 0) v ≡ true

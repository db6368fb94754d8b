-- The numbers that the bytes of a scene stand for. Assumes nothing.
use Rattle.std.specs.Prelude.{ℕ, ◌+◌, ◌*◌, ◌-◌, List, cond, get_or, ltb, ℤ, pos, negsuc}

-- the byte at i, 0 past the end
abbrev pub byte_at : List ℕ → ℕ → ℕ
byte_at s i = get_or s i 0

-- two bytes, low byte first
unfoldable pub two_at : List ℕ → ℕ → ℕ
two_at s i = byte_at s i + byte_at s (i + 1) * 256

-- n as a signed number: half and above stand for the negative numbers
abbrev pub signed : ℕ → ℕ → ℤ
signed half n = cond (ltb n half) (pos n) (negsuc (half + half - 1 - n))

unfoldable pub coordinate_at : List ℕ → ℕ → ℤ
coordinate_at s i = signed 32768 (two_at s i)

unfoldable pub weight_at : List ℕ → ℕ → ℤ
weight_at s i = signed 128 (byte_at s i)

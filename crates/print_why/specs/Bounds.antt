-- How large the numbers are that a sentence looks at: a count or a corner is one byte, and no record starts as far as `records_end`.
-- Assumes nothing.
use Rattle.std.specs.Prelude.{ℕ, ◌+◌, ◌<◌}

-- what one byte holds
abbrev pub OneByte : ℕ → Type 0
OneByte n = n < 256

-- more than an opening's four counts can ask for, each of one byte
abbrev pub records_end : ℕ
records_end = 16384

-- byte b is one of a face's five
abbrev pub InFace : ℕ → Type 0
InFace b = b < records_end + 5

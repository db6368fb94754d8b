-- The nine bytes of a vertex's record, and what a call that writes them answers and leaves. Assumes nothing.
use Rattle.std.specs.Prelude.{◌≡◌, ℕ, ◌+◌, ◌-◌, ◌/◌, ◌%◌, cond, List, [], ◌∷◌, ◌++◌, length, drop, ℤ, pos, negsuc, nat_le, Result, Ok, Err}
use Rattle.scene.specs.Records.{markvx}
use Rattle.scene.specs.declared.Refusal.TheVariants.{BufferTooShort}
use Rattle.scene.specs.declared.Row.{Row}
use Rattle.doubles.specs.Taken.{taken_of}
use Rattle.doubles.specs.declared.Fault.{Fault}
use Rattle.doubles.specs.declared.Fault.TheVariants.{OfScene}
use Rattle.doubles.specs.declared.Vertex.{Vertex}

-- two bytes, low byte first
abbrev pub two : ℕ → List ℕ
two n = n % 256 ∷ n / 256 ∷ []

-- the number that stands for z: the negative numbers from half on
abbrev pub unsigned : ℕ → ℤ → ℕ
unsigned half (pos n) = n
unsigned half (negsuc n) = half + half - 1 - n

abbrev pub vertex_bytes : Row → List ℕ
vertex_bytes r =
    two markvx ++ two (unsigned 32768 r.x) ++ two (unsigned 32768 r.y) ++ two (unsigned 32768 r.z) ++ unsigned 128 r.w ∷ []

-- the vertex's own refusal, then 13 where there is no room for nine bytes
abbrev pub recorded_by : Result Row Fault → ℕ → Result (Unit {0}) Fault
recorded_by (Err f) room = Err f
recorded_by (Ok r) room = cond (nat_le 9 room) (Ok tt) (Err (OfScene (BufferTooShort 9)))

-- the bytes stand in front; under a refusal all is as it was
abbrev pub left_by : Result Row Fault → List ℕ → List ℕ
left_by (Err f) d = d
left_by (Ok r) d = cond (nat_le 9 (length d)) (vertex_bytes r ++ drop 9 d) d

-- d is what the lent bytes held, d' what they hold afterwards
pub record IsRecord (v : Vertex) (d d' : List ℕ) (r : Result (Unit {0}) Fault) : Type 0 where
  pub answer : r ≡ recorded_by (taken_of v) (length d)
  pub held : d' ≡ left_by (taken_of v) d

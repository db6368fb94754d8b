-- The number and the place of a refusal, as document 01 has them. Assumes nothing.
use Rattle.std.specs.Prelude.{ℕ}
use Rattle.scene.specs.declared.Refusal.{Refusal}
use Rattle.scene.specs.declared.Refusal.TheVariants.{Opening, Counts, Length, Mark, Coordinate, Weight, Corner}
use Rattle.scene.specs.declared.Refusal.TheVariants.{Unused, Edge, ListTooShort, NoSuchNumber, NotDistinct, BufferTooShort}
use Rattle.scene.specs.declared.Refusal.TheVariants.{FarAllZero}

abbrev pub number_of : Refusal → ℕ
number_of Opening = 1
number_of Counts = 2
number_of Length = 3
number_of (Mark p) = 4
number_of (Coordinate p) = 5
number_of (Weight p) = 6
number_of (Corner p) = 7
number_of (Unused p) = 8
number_of (Edge p) = 9
number_of (ListTooShort p) = 10
number_of NoSuchNumber = 11
number_of NotDistinct = 12
number_of (BufferTooShort p) = 13
number_of (FarAllZero p) = 14

abbrev pub place_of : Refusal → ℕ
place_of Opening = 0
place_of Counts = 0
place_of Length = 0
place_of (Mark p) = p
place_of (Coordinate p) = p
place_of (Weight p) = p
place_of (Corner p) = p
place_of (Unused p) = p
place_of (Edge p) = p
place_of (ListTooShort p) = p
place_of NoSuchNumber = 0
place_of NotDistinct = 0
place_of (BufferTooShort p) = p
place_of (FarAllZero p) = p

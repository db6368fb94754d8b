-- The table of refusals 1 to 9 and 14: what gives each of them, at which place, where nothing earlier in the order of checking is at fault.
-- Assumes nothing.
use Rattle.std.specs.Prelude.{◌≡◌, List, ℕ, ◌≤◌, ◌<◌}
use Rattle.scene.specs.Limits.{Limits}
use Rattle.scene.specs.Records.{verts, faces, face_record, last_record}
use Rattle.scene.specs.declared.Refusal.{Refusal}
use Rattle.scene.specs.declared.Refusal.TheVariants.{Opening, Counts, Length, Mark, Coordinate, Weight, Corner}
use Rattle.scene.specs.declared.Refusal.TheVariants.{Unused, Edge, ListTooShort, NoSuchNumber, NotDistinct, BufferTooShort, FarAllZero}
use Rattle.rules.specs.Rules.{Opens, CountsOk, LengthOk, HeaderOk, MarkOk, CoordinatesOk, WeightOk, SomewhereOk}
use Rattle.rules.specs.Rules.{CornersOk, RecordOk, RecordsOk, Used, AllUsed, SidesOk}

-- the order of checking comes to record k: the header and every record before it keep their rules
pub record AtRecord (l : Limits) (s : List ℕ) (k : ℕ) : Type 0 where
  pub header : HeaderOk l s
  pub from : 1 ≤ k
  pub to : k ≤ last_record s
  pub earlier : (j : ℕ) → 1 ≤ j → j < k → RecordOk l s j

-- it comes to the vertex with point number p: every record keeps its rules, and every vertex before it is used
pub record AtVertex (l : Limits) (s : List ℕ) (p : ℕ) : Type 0 where
  pub header : HeaderOk l s
  pub records : RecordsOk l s
  pub from : 1 ≤ p
  pub to : p ≤ verts s
  pub earlier : (q : ℕ) → 1 ≤ q → q < p → Used s q

-- it comes to the file's face i: every vertex is used, and the sides of every face before it keep their rule
pub record AtFace (l : Limits) (s : List ℕ) (i : ℕ) : Type 0 where
  pub header : HeaderOk l s
  pub records : RecordsOk l s
  pub used : AllUsed s
  pub to : i < faces s
  pub earlier : (j : ℕ) → j < i → SidesOk s j

-- refusals 10 to 13 are never given to a scene
abbrev pub Grounds : Limits → List ℕ → Refusal → Type 0
Grounds l s Opening = ¬ Opens s
Grounds l s Counts = Opens s × ¬ CountsOk l s
Grounds l s Length = Opens s × (CountsOk l s × ¬ LengthOk s)
Grounds l s (Mark k) = AtRecord l s k × ¬ MarkOk s k
Grounds l s (Coordinate k) = AtRecord l s k × (MarkOk s k × ¬ CoordinatesOk l s k)
Grounds l s (Weight k) = AtRecord l s k × (MarkOk s k × (CoordinatesOk l s k × ¬ WeightOk l s k))
Grounds l s (FarAllZero k) = AtRecord l s k × (MarkOk s k × (CoordinatesOk l s k × (WeightOk l s k × ¬ SomewhereOk s k)))
Grounds l s (Corner k) = AtRecord l s k × (MarkOk s k × (CoordinatesOk l s k × (WeightOk l s k × (SomewhereOk s k × ¬ CornersOk s k))))
Grounds l s (Unused p) = AtVertex l s p × ¬ Used s p
Grounds l s (Edge k) = (i : ℕ) × (k ≡ face_record s i) × AtFace l s i × ¬ SidesOk s i
Grounds l s (ListTooShort p) = ⊥
Grounds l s NoSuchNumber = ⊥
Grounds l s NotDistinct = ⊥
Grounds l s (BufferTooShort p) = ⊥

-- The image of a scene: its refusals in order, each with its number and place, and its bytes. The scene's own refusals come first; then 17
-- for an entry of the table outside its range, and 18 for the determinant zero; then 5 and 6 of the image, record by record; then 13.
-- Assumes nothing.
use Rattle.std.specs.Prelude.{◌≡◌, Bool, true, false, not, ◌&&◌, List, ◌++◌, ℕ, ◌+◌, leb, nat_abs, length, drop, Result, Ok, Err}
use Rattle.laws.specs.Filled.{filled}
use Rattle.scene.specs.Limits.{limits, least_weight, within}
use Rattle.scene.specs.Records.{verts}
use Rattle.scene.specs.Refusal.{number_of, place_of}
use Rattle.scene.specs.Tables.{row_at}
use Rattle.scene.specs.Write.{row_put}
use Rattle.scene.specs.declared.Row.{Row}
use Rattle.scene.specs.declared.Refusal.TheVariants.{Coordinate, Weight, BufferTooShort}
use Rattle.judge.specs.Judge.{refuse_unless, first_fault, judged}
use Rattle.judge.specs.Judge.{Judged}
use Rattle.clean.specs.Clean.{is_zero}
use Rattle.map_image.specs.Mapped.{mapped, determinant_of}
use Rattle.map_image.specs.declared.Map.{Map}
use Rattle.map_image.specs.declared.Fault.{Fault}
use Rattle.map_image.specs.declared.Fault.TheVariants.{Scene, Entry, Singular}

-- ---- refusals

abbrev pub fault_number : Fault → ℕ
fault_number (Scene r) = number_of r
fault_number Entry = 17
fault_number Singular = 18

abbrev pub fault_place : Fault → ℕ
fault_place (Scene r) = place_of r
fault_place Entry = 0
fault_place Singular = 0

-- that nothing is at fault, or what is; and how many bytes the image has, or why there is none
abbrev pub Checked : Type 0
Checked = Result (Unit {0}) Fault

abbrev pub Imaged : Type 0
Imaged = Result ℕ Fault

-- a test that fails is at fault, a judgement that refuses is; else what comes after says
unfoldable pub unless : Bool → Fault → Checked → Checked
unless true f rest = rest
unless false f rest = Err f

unfoldable pub then_scene : Judged → Checked → Checked
then_scene (Ok _) rest = rest
then_scene (Err r) rest = Err (Scene r)

-- ---- the table

-- the largest entry
abbrev pub most_table : ℕ
most_table = 100

unfoldable pub row_upto : ℕ → Row → Bool
row_upto k r = leb (nat_abs r.x) k && (leb (nat_abs r.y) k && (leb (nat_abs r.z) k && leb (nat_abs r.w) k))

unfoldable pub entries_ok : Map → Bool
entries_ok m = row_upto most_table m.x && (row_upto most_table m.y && (row_upto most_table m.z && row_upto most_table m.w))

abbrev pub regular : Map → Bool
regular m = not (is_zero (determinant_of m))

-- ---- the image's rows: that of the file's point j (0 the far point, then the vertices)

abbrev pub image_row : Map → List ℕ → ℕ → Row
image_row m s j = mapped m (row_at s j)

unfoldable pub coordinates_ok : Row → Bool
coordinates_ok r =
    leb (nat_abs r.x) limits.most_coordinate
    && (leb (nat_abs r.y) limits.most_coordinate && leb (nat_abs r.z) limits.most_coordinate)

-- the far point, and no other, may have weight 0
unfoldable pub weight_ok : ℕ → Row → Bool
weight_ok j r = within (least_weight j) limits.most_weight (nat_abs r.w)

unfoldable pub row_fault : ℕ → Row → Judged
row_fault j r = refuse_unless (coordinates_ok r) (Coordinate (j + 1)) (refuse_unless (weight_ok j r) (Weight (j + 1)) (Ok tt))

unfoldable pub point_fault : Map → List ℕ → ℕ → Judged
point_fault m s j = row_fault j (image_row m s j)

unfoldable pub rows_fault : Map → List ℕ → Judged
rows_fault m s = first_fault (point_fault m s) 0 (verts s + 1)

-- ---- what is answered, and what the lent buffer d, of `room` bytes, holds afterwards

unfoldable pub image_fault : List ℕ → Map → (room : ℕ) → Checked
image_fault s m room =
    then_scene (judged s)
    (unless (entries_ok m) Entry (unless (regular m) Singular
    (then_scene (rows_fault m s)
    (unless (leb (length s) room) (Scene (BufferTooShort (length s))) (Ok tt)))))

-- the scene's bytes with each point's four numbers replaced
unfoldable pub image_bytes : Map → List ℕ → List ℕ
image_bytes m s = filled row_put (image_row m s) (verts s + 1) s

unfoldable pub said_of : Checked → ℕ → Imaged
said_of (Ok _) n = Ok n
said_of (Err f) n = Err f

unfoldable pub left_of : Checked → (d new : List ℕ) → List ℕ
left_of (Ok _) d new = new
left_of (Err f) d new = d

pub record IsImage (s : List ℕ) (m : Map) (d d' : List ℕ) (r : Imaged) : Type 0 where
  pub answer : r ≡ said_of (image_fault s m (length d)) (length s)
  pub held : d' ≡ left_of (image_fault s m (length d)) d (image_bytes m s ++ drop (length s) d)

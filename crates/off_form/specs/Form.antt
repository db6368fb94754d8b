-- The form of an object text: the keyword OFF or 4OFF, the counts of vertices, faces and edges, the vertices' numbers, the faces, and
-- nothing behind them. What is read so far is `Ok` of its end; else the first item at fault is told by the offset of its first byte,
-- which is the text's length where an item is missing. Assumes nothing.
use Rattle.std.specs.Prelude.{ℕ, zero, suc, ◌+◌, ◌*◌, ◌-◌, List, Bool, true, false, cond, ◌&&◌, length, eqb, Result, Ok, Err}
use Rattle.scene.specs.Bytes.{byte_at}
use Rattle.off_items.specs.Items.{start_of, end_of, after}
use Rattle.off_items.specs.Numbers.{whole_from, size_from}
use Rattle.off_form.specs.declared.Flaw.{Flaw}
use Rattle.off_form.specs.declared.Flaw.TheVariants.{Outside, Sides}

-- ---- the keyword

-- `OFF` at i
unfoldable pub is_off : List ℕ → ℕ → Bool
is_off s i = eqb (byte_at s i) 79 && (eqb (byte_at s (i + 1)) 70 && eqb (byte_at s (i + 2)) 70)

-- n bytes from i on are `OFF`; are `4OFF`
unfoldable pub is_three : List ℕ → (i n : ℕ) → Bool
is_three s i n = eqb n 3 && is_off s i

unfoldable pub is_four : List ℕ → (i n : ℕ) → Bool
is_four s i n = eqb n 4 && (eqb (byte_at s i) 52 && is_off s (i + 1))

-- how many numbers each vertex has, by the keyword; 0 where it is neither
unfoldable pub keyword : List ℕ → (i n : ℕ) → ℕ
keyword s i n = cond (is_three s i n) 3 (cond (is_four s i n) 4 0)

abbrev pub numbers_of : List ℕ → ℕ
numbers_of s = keyword s (start_of s 0) (end_of s 0 - start_of s 0)

-- ---- the counts: items 1 and 2

abbrev pub count_at : List ℕ → ℕ → ℕ
count_at s k = size_from false s (after s k)

abbrev pub vertices_of : List ℕ → ℕ
vertices_of s = count_at s 1

abbrev pub faces_of : List ℕ → ℕ
faces_of s = count_at s 2

-- ---- items one after another

abbrev pub go_on : Result ℕ Flaw → (ℕ → Result ℕ Flaw) → Result ℕ Flaw
go_on (Ok k) rest = rest k
go_on (Err f) rest = Err f

-- n whole numbers, signed or not
unfoldable pub wholes : Bool → ℕ → List ℕ → ℕ → Result ℕ Flaw
wholes signed zero s at = Ok at
wholes signed (suc n) s at = cond (whole_from signed s at) (wholes signed n s (end_of s at)) (Err (Outside (start_of s at)))

-- a face: 3, and three numbers
unfoldable pub face_from : List ℕ → ℕ → Result ℕ Flaw
face_from s at =
    cond (whole_from false s at) (cond (eqb (size_from false s at) 3) (wholes false 3 s (end_of s at)) (Err (Sides (start_of s at))))
    (Err (Outside (start_of s at)))

unfoldable pub faces_from : ℕ → List ℕ → ℕ → Result ℕ Flaw
faces_from zero s at = Ok at
faces_from (suc n) s at = go_on (face_from s at) (faces_from n s)

-- ---- the whole text

unfoldable pub end_from : List ℕ → ℕ → Result ℕ Flaw
end_from s at = cond (eqb (start_of s at) (length s)) (Ok at) (Err (Outside (start_of s at)))

abbrev pub faces_then : List ℕ → ℕ → Result ℕ Flaw
faces_then s at = go_on (faces_from (faces_of s) s at) (end_from s)

abbrev pub vertices_then : List ℕ → ℕ → Result ℕ Flaw
vertices_then s at = go_on (wholes true (vertices_of s * numbers_of s) s at) (faces_then s)

abbrev pub counts_then : List ℕ → Result ℕ Flaw
counts_then s = go_on (wholes false 3 s (after s 1)) (vertices_then s)

unfoldable pub form_of : List ℕ → Result ℕ Flaw
form_of s = cond (eqb (numbers_of s) 0) (Err (Outside (start_of s 0))) (counts_then s)

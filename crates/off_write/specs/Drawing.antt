-- A solid as an object text: the keyword, OFF or, where a weight is not 1, 4OFF; the counts, with 0 for the edges, which are not counted;
-- a line for each vertex, and one for each face, whose corners count from 0 in the text and from 1 in the solid. Assumes nothing.
use Rattle.std.specs.Prelude.{ℕ, ◌+◌, ◌-◌, Bool, true, false, not, cond, ◌&&◌, ◌||◌, List, [], ◌∷◌, ◌++◌, map, ℤ, pos, length}
use Rattle.std.specs.Int.Signed.{lt_z}
use Rattle.laws.specs.Lists.{run}
use Rattle.print.specs.Text.{ascii, decimal, signed_decimal, line, text}
use Rattle.print.specs.Back.{Words}
use Rattle.scene.specs.Tables.{Table, tables_of, row, face, size}
use Rattle.scene.specs.View.{view_of, solid}
use Rattle.scene.specs.declared.Row.{Row}
use Rattle.scene.specs.declared.Face.{Face}
use Rattle.scene.specs.declared.Solid.{Solid}

-- neither less nor more than 1
unfoldable pub is_one : ℤ → Bool
is_one z = not (lt_z z (pos 1)) && not (lt_z (pos 1) z)

-- some weight is not 1
unfoldable pub weighted : List Row → Bool
weighted [] = false
weighted (r ∷ rs) = not (is_one r.w) || weighted rs

abbrev pub keyword_line : Bool → List ℕ
keyword_line four = cond four (ascii "4OFF\n") (ascii "OFF\n")

abbrev pub counts_line : (vertices faces : ℕ) → List ℕ
counts_line v f = line (decimal v ∷ decimal f ∷ ascii "0" ∷ [])

abbrev pub row_words : Bool → Row → Words
row_words true r = signed_decimal r.x ∷ signed_decimal r.y ∷ signed_decimal r.z ∷ signed_decimal r.w ∷ []
row_words false r = signed_decimal r.x ∷ signed_decimal r.y ∷ signed_decimal r.z ∷ []

abbrev pub face_words : Face → Words
face_words f = ascii "3" ∷ decimal (f.p - 1) ∷ decimal (f.q - 1) ∷ decimal (f.r - 1) ∷ []

abbrev pub drawn : Table → List ℕ
drawn t =
    keyword_line (weighted t.rows)
    ++ (counts_line (size t) (length t.faces)
    ++ (text (map (row_words (weighted t.rows)) t.rows) ++ text (map face_words t.faces)))

-- the face within the solid whose vertices come behind m points
abbrev pub lowered : ℕ → Face → Face
lowered m f = record { p = f.p - m; q = f.q - m; r = f.r - m }

-- of a scene, n points and n faces by their numbers from k on, a line each
abbrev pub rows_in : List ℕ → (k n : ℕ) → Bool → List ℕ
rows_in s k n four = text (map (row_words four) (run (row (tables_of s)) k n))

abbrev pub faces_in : List ℕ → (k n low : ℕ) → List ℕ
faces_in s k n low = text (map (λ (f : Face). face_words (lowered low f)) (run (face (tables_of s)) k n))

-- the solid o of a scene, its faces within it
abbrev pub table_in : List ℕ → Solid → Table
table_in s o =
    record {
      rows = run (row (tables_of s)) (o.vert0 + 1) o.verts;
      faces = map (lowered o.vert0) (run (face (tables_of s)) (o.face0 + 1) o.faces);
    }

-- solid k of a scene as text
abbrev pub drawn_of : List ℕ → ℕ → List ℕ
drawn_of s k = drawn (table_in s (solid (view_of s) k))

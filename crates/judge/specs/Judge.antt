-- The judge: what is refused, in the order of checking. Assumes nothing.
use Rattle.std.specs.Prelude.{ℕ, zero, suc, ◌+◌, ◌-◌, ◌%◌, List, Bool, true, false, not, cond, ◌&&◌, length, ltb, leb, eqb, nat_abs, Result, Ok, Err}
use Rattle.laws.specs.Range.{first_of, any_of, count_of}
use Rattle.scene.specs.Limits.{Limits, limits, least_weight, within}
use Rattle.scene.specs.Bytes.{two_at, coordinate_at, weight_at}
use Rattle.scene.specs.Records.{verts_a, verts_b, faces_in_a, faces_in_b, verts, faces, face_record, last_record, length_of}
use Rattle.scene.specs.Records.{point_start, face_start, end_start, marksc, markfp, markvx, markfc, marken}
use Rattle.scene.specs.Tables.{corner_at, face_at}
use Rattle.scene.specs.Faces.{is_corner, has_both}
use Rattle.scene.specs.declared.Refusal.{Refusal}
use Rattle.scene.specs.declared.Refusal.TheVariants.{Opening, Counts, Length, Mark, Coordinate, Weight, Corner, Unused, Edge, FarAllZero}

-- what a rule says: nothing, or its refusal
abbrev pub Judged : Type 0
Judged = Result (Unit {0}) Refusal

-- a rule: where its test fails, its refusal, and else what the rules after it say
unfoldable pub refuse_unless : Bool → Refusal → Judged → Judged
refuse_unless true r rest = rest
refuse_unless false r rest = Err r

-- one judgement after another: the first that refuses
unfoldable pub and_then : Judged → Judged → Judged
and_then (Ok _) j = j
and_then (Err r) j = Err r

-- the first refusal of f at a, a + 1, .., e - 1
abbrev pub first_fault : (ℕ → Judged) → ℕ → ℕ → Judged
first_fault = first_of (Ok tt) and_then

-- ---- refusals 1, 2 and 3

unfoldable pub opens : List ℕ → Bool
opens s = leb 6 (length s) && eqb (two_at s 0) marksc

unfoldable pub counts_ok : Limits → List ℕ → Bool
counts_ok l s =
    within l.least_vertices l.most_vertices (verts_a s)
    && (within l.least_faces l.most_faces (faces_in_a s)
    && (within l.least_vertices l.most_vertices (verts_b s)
    && within l.least_faces l.most_faces (faces_in_b s)))

unfoldable pub header_fault : Limits → List ℕ → Judged
header_fault l s = refuse_unless (opens s) Opening
    (refuse_unless (counts_ok l s) Counts (refuse_unless (eqb (length s) (length_of s)) Length (Ok tt)))

-- ---- refusals 4 to 7 and 14, record by record

unfoldable pub coordinate_ok : Limits → List ℕ → ℕ → Bool
coordinate_ok l s i = leb (nat_abs (coordinate_at s i)) l.most_coordinate

-- of the file's point j: 0 the far point, then the vertices
unfoldable pub weight_ok : Limits → List ℕ → ℕ → Bool
weight_ok l s j = within (least_weight j) l.most_weight (nat_abs (weight_at s (point_start j + 8)))

-- the far point's four numbers are all 0; no other point is looked at
unfoldable pub nowhere : List ℕ → Bool
nowhere s =
    eqb (nat_abs (coordinate_at s 8)) 0
    && (eqb (nat_abs (coordinate_at s 10)) 0 && (eqb (nat_abs (coordinate_at s 12)) 0 && eqb (nat_abs (weight_at s 14)) 0))

unfoldable pub somewhere_ok : List ℕ → ℕ → Bool
somewhere_ok s zero = not (nowhere s)
somewhere_ok s (suc j) = true

abbrev pub point_mark : ℕ → ℕ
point_mark j = cond (eqb j 0) markfp markvx

-- the far point (j is 0) or a vertex
unfoldable pub point_fault : Limits → List ℕ → ℕ → Judged
point_fault l s j =
    refuse_unless (eqb (two_at s (point_start j)) (point_mark j)) (Mark (j + 1))
    (refuse_unless (coordinate_ok l s (point_start j + 2)) (Coordinate (j + 1))
    (refuse_unless (coordinate_ok l s (point_start j + 4)) (Coordinate (j + 1))
    (refuse_unless (coordinate_ok l s (point_start j + 6)) (Coordinate (j + 1))
    (refuse_unless (weight_ok l s j) (Weight (j + 1))
    (refuse_unless (somewhere_ok s j) (FarAllZero (j + 1)) (Ok tt))))))

-- three corners of a solid with v vertices, no two the same
unfoldable pub are_corners : (v p q r : ℕ) → Bool
are_corners v p q r =
    within 1 v p && (within 1 v q && (within 1 v r && (not (eqb p q) && (not (eqb q r) && not (eqb r p)))))

-- the vertices of the solid of the file's face i
unfoldable pub verts_at : List ℕ → ℕ → ℕ
verts_at s i = cond (ltb i (faces_in_a s)) (verts_a s) (verts_b s)

unfoldable pub corners_ok : List ℕ → ℕ → Bool
corners_ok s i = are_corners (verts_at s i) (corner_at s i 0) (corner_at s i 1) (corner_at s i 2)

unfoldable pub face_fault : List ℕ → ℕ → Judged
face_fault s i =
    refuse_unless (eqb (two_at s (face_start s i)) markfc) (Mark (face_record s i))
    (refuse_unless (corners_ok s i) (Corner (face_record s i)) (Ok tt))

unfoldable pub end_fault : List ℕ → Judged
end_fault s = refuse_unless (eqb (two_at s (end_start s)) marken) (Mark (last_record s)) (Ok tt)

-- record k: a point, a face, or EN
unfoldable pub record_fault : Limits → List ℕ → ℕ → Judged
record_fault l s k =
    cond (ltb k (2 + verts s)) (point_fault l s (k - 1)) (cond (ltb k (last_record s)) (face_fault s (k - (2 + verts s))) (end_fault s))

unfoldable pub records_fault : Limits → List ℕ → Judged
records_fault l s = first_fault (record_fault l s) 1 (last_record s + 1)

-- ---- refusal 8: a vertex in no face of its solid

-- v is a corner of the file's face i; v and w are
unfoldable pub is_corner_of : List ℕ → ℕ → ℕ → Bool
is_corner_of s v i = is_corner v (face_at s i)

unfoldable pub is_edge : List ℕ → ℕ → ℕ → ℕ → Bool
is_edge s v w i = has_both v w (face_at s i)

-- point p is a corner of one of its solid's faces
unfoldable pub is_used : List ℕ → ℕ → Bool
is_used s p =
    cond (leb p (verts_a s)) (any_of (is_corner_of s p) 0 (faces_in_a s)) (any_of (is_corner_of s (p - verts_a s)) (faces_in_a s) (faces s))

unfoldable pub unused_fault : List ℕ → ℕ → Judged
unused_fault s p = refuse_unless (is_used s p) (Unused p) (Ok tt)

unfoldable pub unuseds_fault : List ℕ → Judged
unuseds_fault s = first_fault (unused_fault s) 1 (verts s + 1)

-- ---- refusal 9: an edge in an odd number of faces of its solid, whose faces are the file's from a up to e

unfoldable pub edge_ok : List ℕ → (a e v w : ℕ) → Bool
edge_ok s a e v w = eqb (count_of (is_edge s v w) a e % 2) 0

unfoldable pub sides_ok : List ℕ → (a e i : ℕ) → Bool
sides_ok s a e i =
    edge_ok s a e (corner_at s i 0) (corner_at s i 1)
    && (edge_ok s a e (corner_at s i 1) (corner_at s i 2) && edge_ok s a e (corner_at s i 2) (corner_at s i 0))

-- each side of the file's face i is an edge in an even number of faces of its solid
unfoldable pub closed_at : List ℕ → ℕ → Bool
closed_at s i = cond (ltb i (faces_in_a s)) (sides_ok s 0 (faces_in_a s) i) (sides_ok s (faces_in_a s) (faces s) i)

unfoldable pub edge_fault : List ℕ → ℕ → Judged
edge_fault s i = refuse_unless (closed_at s i) (Edge (face_record s i)) (Ok tt)

unfoldable pub edges_fault : List ℕ → Judged
edges_fault s = first_fault (edge_fault s) 0 (faces s)

-- ---- the judge: 1, 2, 3; 4 to 7 and 14 record by record; 8; 9

unfoldable pub judged_at : Limits → List ℕ → Judged
judged_at l s = and_then (header_fault l s) (and_then (records_fault l s) (and_then (unuseds_fault s) (edges_fault s)))

abbrev pub judged : List ℕ → Judged
judged = judged_at limits

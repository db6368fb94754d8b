-- What a session holds, and what each of its operations answers and hands back. Assumes nothing.
use Rattle.std.specs.Prelude.{Bool, not, ◌&&◌, List, ◌++◌, ℕ, ◌+◌, ◌-◌, leb, eqb, nat_abs, length, take, replicate, Ok, Err}
use Rattle.scene.specs.Limits.{limits, longest, within}
use Rattle.scene.specs.Records.{verts, faces, length_of, face_start}
use Rattle.scene.specs.Tables.{face_at}
use Rattle.scene.specs.Write.{row_put, corners_put}
use Rattle.scene.specs.declared.Row.{Row}
use Rattle.scene.specs.declared.Face.{Face}
use Rattle.scene.specs.declared.Refusal.TheVariants.{Opening, Coordinate, Weight, NoSuchNumber, FarAllZero}
use Rattle.judge.specs.Judge.{judged, refuse_unless, and_then}
use Rattle.judge.specs.Judge.{Judged}
use Rattle.questions.specs.Answers.{counted_of}
use Rattle.questions.specs.declared.Counts.{Counts}
use Rattle.questions.specs.Types.{Counted}
use Rattle.session.specs.declared.faults.Sizes.{Sizes}
use Rattle.session.specs.declared.Session.{Session}
use Rattle.session.specs.declared.Changed.{Changed}

-- ---- a session

-- the scene that it holds: no bytes where it is empty
abbrev pub scene : Session → List ℕ
scene s = take s.len s.bytes

abbrev pub no_counts : Counts
no_counts = record { pairs = 0; a_in_b = 0; b_in_a = 0 }

abbrev pub counts_by : Counted → Counts
counts_by (Ok c) = c
counts_by (Err r) = no_counts

-- the session of the scene that the first n of b are, freshly counted
unfoldable pub fresh : List ℕ → ℕ → Session
fresh b n = record { bytes = b; len = n; counts = counts_by (counted_of (take n b)) }

abbrev pub empty : Session
empty = record { bytes = replicate (longest limits) 0; len = 0; counts = no_counts }

-- ---- open: the scene's own refusals

abbrev pub opened_by : Judged → List ℕ → Changed
opened_by (Ok _) s = record { answer = Ok tt; session = fresh (s ++ replicate (longest limits - length s) 0) (length s) }
opened_by (Err r) s = record { answer = Err r; session = empty }

unfoldable pub opened : List ℕ → Changed
opened s = opened_by (judged s) s

-- ---- why a scene that is held is not to be changed

-- as long as its counts say: an accepted scene is, and no bytes are not
unfoldable pub is_whole : List ℕ → Bool
is_whole s = eqb (length s) (length_of s)

abbrev pub sizes_of : Row → Sizes
sizes_of v = record { x = nat_abs v.x; y = nat_abs v.y; z = nat_abs v.z; w = nat_abs v.w }

-- of point p: 5, then 6, where its weight's size is at least `least`
unfoldable pub row_fault : (least p : ℕ) → Sizes → Judged
row_fault least p m =
    refuse_unless (leb m.x limits.most_coordinate) (Coordinate p)
    (refuse_unless (leb m.y limits.most_coordinate) (Coordinate p)
    (refuse_unless (leb m.z limits.most_coordinate) (Coordinate p)
    (refuse_unless (within least limits.most_weight m.w) (Weight p) (Ok tt))))

unfoldable pub is_nowhere : Sizes → Bool
is_nowhere m = eqb m.x 0 && (eqb m.y 0 && (eqb m.z 0 && eqb m.w 0))

unfoldable pub vertex_fault : List ℕ → ℕ → Row → Judged
vertex_fault s p v = refuse_unless (is_whole s) Opening (refuse_unless (within 1 (verts s) p) NoSuchNumber (row_fault 1 p (sizes_of v)))

-- the far point, numbered behind the vertices, may have weight 0, but not four zeros
unfoldable pub far_fault : List ℕ → Row → Judged
far_fault s v =
    refuse_unless (is_whole s) Opening
    (and_then (row_fault 0 (verts s + 1) (sizes_of v)) (refuse_unless (not (is_nowhere (sizes_of v))) (FarAllZero (verts s + 1)) (Ok tt)))

unfoldable pub turn_fault : List ℕ → ℕ → Judged
turn_fault s f = refuse_unless (is_whole s) Opening (refuse_unless (within 1 (faces s) f) NoSuchNumber (Ok tt))

-- ---- move a vertex, move the far point, reverse a face: the session with b for its bytes, or as it was

abbrev pub changed_by : Judged → Session → List ℕ → Changed
changed_by (Ok _) s b = record { answer = Ok tt; session = fresh b (length (scene s)) }
changed_by (Err r) s b = record { answer = Err r; session = s }

unfoldable pub moved_of : Session → ℕ → Row → Changed
moved_of s p v = changed_by (vertex_fault (scene s) p v) s (row_put s.bytes p v)

unfoldable pub far_moved_of : Session → Row → Changed
far_moved_of s v = changed_by (far_fault (scene s) v) s (row_put s.bytes 0 v)

-- a face with its first and third corners swapped
abbrev pub reversed_face : Face → Face
reversed_face f = record { p = f.r; q = f.q; r = f.p }

abbrev pub reversed_in : List ℕ → List ℕ → ℕ → List ℕ
reversed_in b s i = corners_put b (face_start s i) (reversed_face (face_at s i))

unfoldable pub reversed_of : Session → ℕ → Changed
reversed_of s f = changed_by (turn_fault (scene s) f) s (reversed_in s.bytes (scene s) (f - 1))

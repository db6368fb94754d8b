-- A bench: what opening it and each move at it answer, and the bench that is handed back. Each move is a session's move in one scene or in
-- both. Assumes nothing.
use Rattle.std.specs.Prelude.{Bool, true, false, not, cond, ◌&&◌, List, ℕ, ◌+◌, ◌*◌, leb, eqb, Result, Ok, Err, Option, Some, None}
use Rattle.laws.specs.Range.{any_of}
use Rattle.scene.specs.Bytes.{byte_at}
use Rattle.scene.specs.Limits.{within}
use Rattle.scene.specs.Records.{verts_a, verts_b, faces_in_a, faces_in_b, point_start, face_start}
use Rattle.scene.specs.Refusal.{number_of, place_of}
use Rattle.scene.specs.declared.Row.{Row}
use Rattle.scene.specs.declared.Refusal.{Refusal}
use Rattle.scene.specs.declared.Refusal.TheVariants.{Opening, NoSuchNumber, Coordinate, Weight, FarAllZero}
use Rattle.judge.specs.Judge.{judged}
use Rattle.judge.specs.Judge.{Judged}
use Rattle.session.specs.Session.{scene, empty, is_whole, opened, moved_of, far_moved_of}
use Rattle.session.specs.declared.Session.{Session}
use Rattle.session.specs.declared.Changed.{Changed}
use Rattle.bench_moves.specs.declared.Bench.{Bench}
use Rattle.bench_moves.specs.declared.Answered.{Answered}
use Rattle.bench_moves.specs.declared.moves.Solids.{Solids}
use Rattle.bench_moves.specs.declared.moves.Moved.{Moved}
use Rattle.bench_moves.specs.declared.Group.{Group}
use Rattle.bench_moves.specs.declared.Group.TheVariants.{One, Two}
use Rattle.bench_moves.specs.declared.Fault.{Fault}
use Rattle.bench_moves.specs.declared.Fault.TheVariants.{Scene, Shared, Differing}

-- ---- refusals

abbrev pub fault_number : Fault → ℕ
fault_number (Scene r) = number_of r
fault_number (Shared p) = 19
fault_number Differing = 22

abbrev pub fault_place : Fault → ℕ
fault_place (Scene r) = place_of r
fault_place (Shared p) = p
fault_place Differing = 0

-- what an operation is answered with: that it is done, or its fault
abbrev pub Answer : Type 0
Answer = Result (Unit {0}) Fault

-- where a test fails its fault is told, where a judgement refuses its refusal is; else what comes after says
unfoldable pub unless : Bool → Fault → Answer → Answer
unless true f rest = rest
unless false f rest = Err f

unfoldable pub then_scene : Judged → Answer → Answer
then_scene (Ok _) rest = rest
then_scene (Err r) rest = Err (Scene r)

unfoldable pub said : Judged → Answer
said j = then_scene j (Ok tt)

-- ---- a shared fixture: solid B, and the far point, of two scenes

-- the n bytes of s from i on are those of t from j on
unfoldable pub differ_at : List ℕ → ℕ → List ℕ → ℕ → ℕ → Bool
differ_at s i t j k = not (eqb (byte_at s (i + k)) (byte_at t (j + k)))

unfoldable pub same_bytes : List ℕ → ℕ → List ℕ → ℕ → ℕ → Bool
same_bytes s i t j n = not (any_of (differ_at s i t j) 0 n)

unfoldable pub same_counts : List ℕ → List ℕ → Bool
same_counts s t = eqb (verts_b s) (verts_b t) && eqb (faces_in_b s) (faces_in_b t)

unfoldable pub same_far : List ℕ → List ℕ → Bool
same_far s t = same_bytes s (point_start 0) t (point_start 0) 9

unfoldable pub same_vertices : List ℕ → List ℕ → Bool
same_vertices s t = same_bytes s (point_start (verts_a s + 1)) t (point_start (verts_a t + 1)) (verts_b s * 9)

unfoldable pub same_faces : List ℕ → List ℕ → Bool
same_faces s t = same_bytes s (face_start s (faces_in_a s)) t (face_start t (faces_in_a t)) (faces_in_b s * 5)

unfoldable pub is_shared : List ℕ → List ℕ → Bool
is_shared s t = same_counts s t && (same_far s t && (same_vertices s t && same_faces s t))

-- ---- open: the first scene's own refusal, then the second's, then 22

unfoldable pub open_fault : List ℕ → List ℕ → Answer
open_fault s t = then_scene (judged s) (then_scene (judged t) (unless (is_shared s t) Differing (Ok tt)))

abbrev pub empty_bench : Bench
empty_bench = record { one = empty; two = empty }

abbrev pub opened_by : Answer → List ℕ → List ℕ → Answered
opened_by (Ok _) s t = record { answer = Ok tt; bench = record { one = (opened s).session; two = (opened t).session } }
opened_by (Err f) s t = record { answer = Err f; bench = empty_bench }

unfoldable pub opened_of : List ℕ → List ℕ → Answered
opened_of s t = opened_by (open_fault s t) s t

-- ---- a group's move

abbrev pub session_of : Bench → Group → Session
session_of b One = b.one
session_of b Two = b.two

abbrev pub with_session : Bench → Group → Session → Bench
with_session b One s = record { one = s; two = b.two }
with_session b Two s = record { one = b.one; two = s }

-- the vertices of the scene's two solids, where there is a scene
abbrev pub counted : List ℕ → Solids
counted s = record { own = verts_a s; fixture = verts_b s }

unfoldable pub solids_of : List ℕ → Option Solids
solids_of s = cond (is_whole s) (Some (counted s)) None

-- 1 where there is no scene; 11 for a number that the scene lacks; then 19 for a fixture vertex and for the far point
unfoldable pub own_fault : Option Solids → ℕ → Answer
own_fault None p = Err (Scene Opening)
own_fault (Some k) p =
    unless (within 1 (k.own + k.fixture + 1) p) (Scene NoSuchNumber) (unless (within 1 k.own p) (Shared p) (Ok tt))

-- then the session's move of the vertex, with its 5 and 6
abbrev pub own_moved_by : Answer → Session → ℕ → Row → Moved
own_moved_by (Ok _) s p v = record { answer = said (moved_of s p v).answer; session = (moved_of s p v).session }
own_moved_by (Err f) s p v = record { answer = Err f; session = s }

unfoldable pub own_moved_of : Session → ℕ → Row → Moved
own_moved_of s p v = own_moved_by (own_fault (solids_of (scene s)) p) s p v

unfoldable pub group_moved_of : Bench → Group → ℕ → Row → Answered
group_moved_of b g p v =
    record { answer = (own_moved_of (session_of b g) p v).answer; bench = with_session b g (own_moved_of (session_of b g) p v).session }

-- ---- the lecturer's move: the fixture's vertices are numbered from 1, and the far point behind them

-- 1 where there is no scene, 11 for a number that the fixture lacks; else the solids, in which it is
unfoldable pub number_fault : Option Solids → ℕ → Result Solids Refusal
number_fault None n = Err Opening
number_fault (Some k) n = cond (within 1 (k.fixture + 1) n) (Ok k) (Err NoSuchNumber)

-- the session's move of that point
unfoldable pub scene_moved : Session → Solids → ℕ → Row → Changed
scene_moved s k n v = cond (leb n k.fixture) (moved_of s (k.own + n) v) (far_moved_of s v)

-- a refusal of a row (5, 6, 14) tells the lecturer's number
unfoldable pub placed : ℕ → Refusal → Refusal
placed n (Coordinate p) = Coordinate n
placed n (Weight p) = Weight n
placed n (FarAllZero p) = FarAllZero n
placed n r = r

unfoldable pub placed_in : ℕ → Judged → Judged
placed_in n (Ok _) = Ok tt
placed_in n (Err r) = Err (placed n r)

abbrev pub fixture_moved_by : Result Solids Refusal → Session → ℕ → Row → Changed
fixture_moved_by (Ok k) s n v = record { answer = placed_in n (scene_moved s k n v).answer; session = (scene_moved s k n v).session }
fixture_moved_by (Err r) s n v = record { answer = Err r; session = s }

unfoldable pub fixture_moved_of : Session → ℕ → Row → Changed
fixture_moved_of s n v = fixture_moved_by (number_fault (solids_of (scene s)) n) s n v

-- both scenes are moved, or none
abbrev pub lecturer_moved_by : Judged → Bench → ℕ → Row → Answered
lecturer_moved_by (Ok _) b n v =
    record { answer = Ok tt; bench = record { one = (fixture_moved_of b.one n v).session; two = (fixture_moved_of b.two n v).session } }
lecturer_moved_by (Err r) b n v = record { answer = Err (Scene r); bench = b }

unfoldable pub lecturer_moved_of : Bench → ℕ → Row → Answered
lecturer_moved_of b n v = lecturer_moved_by (fixture_moved_of b.one n v).answer b n v

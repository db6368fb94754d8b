-- A record shown: which bytes it is, and when it is refused. Assumes nothing.
use Rattle.std.specs.Prelude.{ℕ, ◌+◌, ◌-◌, List, [], cond, take, drop, ltb, leb, eqb, Ok, Err}
use Rattle.scene.specs.Records.{verts, last_record, point_start, face_start, end_start}
use Rattle.scene.specs.declared.Refusal.TheVariants.{NoSuchNumber}
use Rattle.judge.specs.Judge.{refuse_unless, and_then, judged}
use Rattle.judge.specs.Judge.{Judged}

-- the n bytes from a on
abbrev pub part : List ℕ → ℕ → ℕ → List ℕ
part s a n = take n (drop a s)

-- record k, from 0: SC, the points, the faces, EN
unfoldable pub part_at : List ℕ → ℕ → List ℕ
part_at s k =
    cond (eqb k 0) (part s 0 6)
    (cond (ltb k (2 + verts s)) (part s (point_start (k - 1)) 9)
    (cond (ltb k (last_record s)) (part s (face_start s (k - (2 + verts s))) 5) (part s (end_start s) 2)))

-- the scene's own refusal, then 11 for a record that it lacks; none is said as accepted
unfoldable pub refusal : List ℕ → ℕ → Judged
refusal s k = and_then (judged s) (refuse_unless (leb k (last_record s)) NoSuchNumber (Ok tt))

unfoldable pub if_accepted : Judged → List ℕ → List ℕ
if_accepted (Ok _) l = l
if_accepted (Err r) l = []

unfoldable pub shown : List ℕ → ℕ → List ℕ
shown s k = if_accepted (refusal s k) (part_at s k)

-- The judge of document 01 as it was before the requests: counts up to 32 and 64, no weight 0 and no refusal 14, an edge in exactly two
-- faces. Assumes nothing.
use Rattle.std.specs.Prelude.{Bool, cond, ◌&&◌, List, ℕ, ◌+◌, ◌-◌, eqb, ltb, nat_abs, Ok}
use Rattle.laws.specs.Range.{count_of}
use Rattle.scene.specs.Limits.{limits_before, within}
use Rattle.scene.specs.Bytes.{two_at, weight_at}
use Rattle.scene.specs.Records.{faces_in_a, verts, faces, face_record, last_record, point_start}
use Rattle.scene.specs.Tables.{corner_at}
use Rattle.scene.specs.declared.Refusal.TheVariants.{Mark, Coordinate, Weight, Edge}
use Rattle.judge.specs.Judge.{refuse_unless, and_then, first_fault, header_fault, coordinate_ok, point_mark, record_fault, unuseds_fault, is_edge}
use Rattle.judge.specs.Judge.{Judged}

module _ (s : List ℕ) where
  -- 6 was "a weight 0 or outside its limits", of the far point too
  abbrev pub point_fault_before : ℕ → Judged
  point_fault_before j =
      refuse_unless (eqb (two_at s (point_start j)) (point_mark j)) (Mark (j + 1))
      (refuse_unless (coordinate_ok limits_before s (point_start j + 2)) (Coordinate (j + 1))
      (refuse_unless (coordinate_ok limits_before s (point_start j + 4)) (Coordinate (j + 1))
      (refuse_unless (coordinate_ok limits_before s (point_start j + 6)) (Coordinate (j + 1))
      (refuse_unless (within 1 limits_before.most_weight (nat_abs (weight_at s (point_start j + 8)))) (Weight (j + 1)) (Ok tt)))))

  -- the records of faces, and the last, are as they were
  abbrev pub record_fault_before : ℕ → Judged
  record_fault_before k = cond (ltb k (2 + verts s)) (point_fault_before (k - 1)) (record_fault limits_before s k)

  -- 9 was "an edge not in exactly two faces of its solid", whose faces are the file's from a up to e
  abbrev pub in_two : (a e v w : ℕ) → Bool
  in_two a e v w = eqb (count_of (is_edge s v w) a e) 2

  abbrev pub sides_in_two : (a e i : ℕ) → Bool
  sides_in_two a e i =
      in_two a e (corner_at s i 0) (corner_at s i 1)
      && (in_two a e (corner_at s i 1) (corner_at s i 2) && in_two a e (corner_at s i 2) (corner_at s i 0))

  abbrev pub edge_fault_before : ℕ → Judged
  edge_fault_before i =
      refuse_unless (cond (ltb i (faces_in_a s)) (sides_in_two 0 (faces_in_a s) i) (sides_in_two (faces_in_a s) (faces s) i)) (Edge (face_record s i))
      (Ok tt)

  -- 1, 2, 3; 4 to 7 record by record; 8; 9
  abbrev pub judged_before : Judged
  judged_before =
      and_then (header_fault limits_before s) (and_then (first_fault record_fault_before 1 (last_record s + 1))
      (and_then (unuseds_fault s) (first_fault edge_fault_before 0 (faces s))))

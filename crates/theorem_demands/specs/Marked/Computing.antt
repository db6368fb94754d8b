-- Computing with a scene that is written out: to name one of these on an `unfolding` line is to open what it computes with, from the bytes
-- up. Assumes nothing.
use Rattle.std.specs.Prelude.{Bool, ℕ}
use mathlib.Core.List.{List, flat_map}
use Rattle.laws.specs.Range.{over, first_of, any_of, count_of, lowest_of}
use Rattle.scene.specs.Bytes.{two_at, coordinate_at, weight_at}
use Rattle.scene.specs.Tables.{corner_at, row, face, tables_of}
use Rattle.scene.specs.Faces.{is_corner, has_both}
use Rattle.judge.specs.Judge.{refuse_unless, and_then, opens, counts_ok, header_fault, coordinate_ok, weight_ok}
use Rattle.judge.specs.Judge.{nowhere, somewhere_ok, point_fault, are_corners}
use Rattle.judge.specs.Judge.{verts_at, corners_ok, face_fault, end_fault, record_fault, records_fault, is_corner_of, is_edge, is_used, unused_fault}
use Rattle.judge.specs.Judge.{unuseds_fault, edge_ok, sides_ok, closed_at, edge_fault, edges_fault, judged_at, judged}
use Rattle.scene.specs.Limits.{within}
use Rattle.judge.specs.Judge.{Judged}
use Rattle.orient.specs.Terms.{terms, orientation, positive_at}
use Rattle.pierce.specs.Formula.{can_help, helper, counts, sides_count, formula, pierces, pierced}

-- the judge
unfoldable pub judging : List ℕ → Judged
unfolding flat_map over first_of any_of count_of two_at coordinate_at weight_at corner_at refuse_unless and_then within opens counts_ok header_fault
    coordinate_ok weight_ok nowhere somewhere_ok point_fault are_corners verts_at corners_ok face_fault end_fault record_fault records_fault is_corner_of
    is_corner is_edge has_both is_used unused_fault unuseds_fault edge_ok sides_ok closed_at edge_fault edges_fault judged_at
judging = judged

-- the formula, on the scene's rows and faces
unfoldable pub piercing : List ℕ → (n u v f : ℕ) → Bool
unfolding over lowest_of two_at coordinate_at weight_at corner_at row face terms orientation positive_at can_help helper counts sides_count formula
    pierces
piercing s n u v f = pierced n (row (tables_of s)) u v (face (tables_of s) f)

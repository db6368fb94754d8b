-- What an operation changes: the numbers of its record, and no other byte. A refused one changes nothing, and the empty session refuses all
-- of them with 1. Assumes nothing.
use Rattle.std.specs.Prelude.{◌≡◌, false, List, length, take, Ok, Err}
use Rattle.std.proofs.Math.Path.{ap}
use Rattle.std.proofs.Common.{◌∙◌, arith}
use Prim.Native.Nat.{ℕ, ◌+◌, ◌-◌, ◌≤◌, ◌<◌}
use borrow.Author.Tests.{ne_eqb}
use Rattle.scene.specs.Bytes.{byte_at}
use Rattle.scene.specs.Records.{length_of, point_start, face_start}
use Rattle.scene.specs.Tables.{row_at, face_at}
use Rattle.scene.specs.Write.{row_put}
use Rattle.scene.specs.Written.{row_length, row_below, row_above, row_back, corners_length, corners_below, corners_above, corners_back}
use Rattle.scene.specs.declared.Row.{Row}
use Rattle.scene.specs.declared.Face.{Face}
use Rattle.scene.specs.declared.Refusal.{Refusal}
use Rattle.scene.specs.declared.Refusal.TheVariants.{Opening}
use Rattle.judge.specs.Judge.{refuse_unless}
use Rattle.judge.specs.Judge.{Judged}
use Rattle.session.specs.Session.{scene, fresh, is_whole, vertex_fault, far_fault, turn_fault, changed_by, moved_of, far_moved_of}
use Rattle.session.specs.Session.{reversed_face}
use Rattle.session.specs.Session.{reversed_in, reversed_of}
use Rattle.session.specs.Laws.{row_fits, vertex_free, far_free}
use Rattle.session.specs.Kept.{Empty, Holds, row_in_law, corners_in, vertex_room, far_room, face_room}
use Rattle.session.specs.declared.Session.{Session}

-- t is s with v as the row of the file's point j (0 the far point, then the vertices)
pub record RowChanged (s : List ℕ) (j : ℕ) (v : Row) (t : List ℕ) : Type 0 where
  pub long : length t ≡ length s
  pub row : row_at t j ≡ v
  pub below : (k : ℕ) → k < point_start j + 2 → byte_at t k ≡ byte_at s k
  pub above : (k : ℕ) → point_start j + 9 ≤ k → byte_at t k ≡ byte_at s k

-- t is s with the first and third corners of the file's face i swapped
pub record FaceTurned (s : List ℕ) (i : ℕ) (t : List ℕ) : Type 0 where
  pub long : length t ≡ length s
  pub face : face_at t i ≡ reversed_face (face_at s i)
  pub below : (k : ℕ) → k < face_start s i + 2 → byte_at t k ≡ byte_at s k
  pub above : (k : ℕ) → face_start s i + 5 ≤ k → byte_at t k ≡ byte_at s k

module _ (s : Session) where
  -- the scene after a change that was not refused
  changed_scene : (j : Judged) (b : List ℕ) → j ≡ Ok tt → scene (changed_by j s b).session ≡ take (length (scene s)) b
  unfolding fresh
  changed_scene j b q = ap (λ (j : Judged). scene (changed_by j s b).session) q

  row_changed : (j : ℕ) (v : Row) {t : List ℕ} → t ≡ row_put (scene s) j v → row_at (row_put (scene s) j v) j ≡ v → RowChanged (scene s) j v t
  row_changed j v e r =
      rw e (record { long = row_length (scene s) j v; row = r; below = row_below (scene s) j v; above = row_above (scene s) j v })

  pub vertex_changed : (p : ℕ) (v : Row) → vertex_fault (scene s) p v ≡ Ok tt → RowChanged (scene s) p v (scene (moved_of s p v).session)
  unfolding moved_of
  vertex_changed p v q =
      let room = vertex_room s p v q in
      row_changed p v (changed_scene _ (row_put s.bytes p v) q ∙ row_in_law s p v room)
      (row_back (scene s) p v (row_fits (vertex_free (scene s) p v q).row) room)

  pub far_changed : (v : Row) → far_fault (scene s) v ≡ Ok tt → RowChanged (scene s) 0 v (scene (far_moved_of s v).session)
  unfolding far_moved_of
  far_changed v q =
      let room = far_room s v q in
      row_changed 0 v (changed_scene _ (row_put s.bytes 0 v) q ∙ row_in_law s 0 v room)
      (row_back (scene s) 0 v (row_fits (far_free (scene s) v q).row) room)

  pub face_turned : (f : ℕ) → turn_fault (scene s) f ≡ Ok tt → FaceTurned (scene s) (f - 1) (scene (reversed_of s f).session)
  unfolding reversed_of
  face_turned f q =
      let i : ℕ = f - 1 in
      let k : ℕ = face_start (scene s) i in
      let g : Face = reversed_face (face_at (scene s) i) in
      let room = face_room s f q in
      rw (changed_scene _ (reversed_in s.bytes (scene s) i) q ∙ corners_in s k g room)
      (record {
        long = corners_length (scene s) k g;
        face = corners_back (scene s) i g room;
        below = corners_below (scene s) k g;
        above = corners_above (scene s) k g;
      })

  -- ---- refused

  pub vertex_refused : (p : ℕ) (v : Row) {r : Refusal} → vertex_fault (scene s) p v ≡ Err r →
      moved_of s p v ≡ record { answer = Err r; session = s }
  unfolding moved_of
  vertex_refused p v q = ap (λ (j : Judged). changed_by j s (row_put s.bytes p v)) q

  pub far_refused : (v : Row) {r : Refusal} → far_fault (scene s) v ≡ Err r → far_moved_of s v ≡ record { answer = Err r; session = s }
  unfolding far_moved_of
  far_refused v q = ap (λ (j : Judged). changed_by j s (row_put s.bytes 0 v)) q

  pub turn_refused : (f : ℕ) {r : Refusal} → turn_fault (scene s) f ≡ Err r → reversed_of s f ≡ record { answer = Err r; session = s }
  unfolding reversed_of
  turn_refused f q = ap (λ (j : Judged). changed_by j s (reversed_in s.bytes (scene s) (f - 1))) q

  module _ (h : Holds s) (e : Empty s) where
    not_whole : is_whole (scene s) ≡ false
    unfolding is_whole
    not_whole = ne_eqb (length (scene s)) (length_of (scene s)) (λ q. omega (arith, q, h.sized, e.none))

    pub empty_move : (p : ℕ) (v : Row) → moved_of s p v ≡ record { answer = Err Opening; session = s }
    unfolding vertex_fault refuse_unless
    empty_move p v = vertex_refused p v (rw not_whole)

    pub empty_far : (v : Row) → far_moved_of s v ≡ record { answer = Err Opening; session = s }
    unfolding far_fault refuse_unless
    empty_far v = far_refused v (rw not_whole)

    pub empty_turn : (f : ℕ) → reversed_of s f ≡ record { answer = Err Opening; session = s }
    unfolding turn_fault refuse_unless
    empty_turn f = turn_refused f (rw not_whole)

-- What a session holds is kept by every operation and given by opening, so it stands after any of them, from any string of bytes.
-- Assumes nothing.
use Rattle.std.specs.Prelude.{◌≡◌, refl, ◌⊎◌, length, take, set, replicate, Ok, Err}
use Rattle.std.proofs.Math.Path.{sym, ap}
use Rattle.std.proofs.Common.{◌∙◌, inl, inr, arith}
use mathlib.Core.List.{List, [], ◌∷◌, ◌++◌}
use Prim.Native.Nat.{ℕ, zero, suc, ◌+◌, ◌-◌, ◌≤◌}
use Rattle.std.proofs.Math.Seq.{sets, take-set-lt, take-append_seam}
use Rattle.scene.specs.Limits.{limits, longest}
use Rattle.scene.specs.Records.{length_of, point_start, face_start}
use Rattle.scene.specs.Tables.{face_at}
use Rattle.scene.specs.Write.{row_bytes, corner_bytes, row_put, corners_put}
use Rattle.scene.specs.Written.{row_length, corners_length}
use Rattle.scene.specs.declared.Row.{Row}
use Rattle.scene.specs.declared.Face.{Face}
use Rattle.judge.specs.Judge.{judged}
use Rattle.judge.specs.Judge.{Judged}
use Rattle.questions.specs.Answers.{or_refuse, counted_of}
use Rattle.session.specs.Session.{scene, no_counts, counts_by, fresh, opened_by, opened, vertex_fault, far_fault}
use Rattle.session.specs.Session.{turn_fault, changed_by, moved_of, far_moved_of, reversed_face, reversed_in, reversed_of}
use Rattle.session.specs.Laws.{row_fits, vertex_free, far_free, turn_free}
use Rattle.session.specs.Moved.{vertex_accepted, far_accepted}
use Rattle.session.specs.Turned.{turned_accepted}
use Rattle.session.specs.declared.Session.{Session}
use Rattle.session.specs.declared.Changed.{Changed}

-- no bytes and zero counts
pub record Empty (s : Session) : Type 0 where
  pub none : s.len ≡ 0
  pub zeros : s.counts ≡ no_counts

-- an accepted scene, and the counts that a fresh count of it gives
pub record Full (s : Session) : Type 0 where
  pub accepted : judged (scene s) ≡ Ok tt
  pub counted : counted_of (scene s) ≡ Ok s.counts

pub record Holds (s : Session) : Type 0 where
  pub sized : s.len ≡ length (scene s)
  pub state : Empty s ⊎ Full s

-- ---- any operations, one after another

pub data Operation : Type 0 where
  reopen : List ℕ → Operation
  move : ℕ → Row → Operation
  far : Row → Operation
  reverse : ℕ → Operation

abbrev pub step : Session → Operation → Changed
step s (reopen b) = opened b
step s (move p v) = moved_of s p v
step s (far v) = far_moved_of s v
step s (reverse f) = reversed_of s f

abbrev pub after : Session → List Operation → Session
after s [] = s
after s (o ∷ os) = after (step s o).session os

-- ---- a fresh count of an accepted scene

counted_so : (s : List ℕ) → judged s ≡ Ok tt → counted_of s ≡ Ok (counts_by (counted_of s))
unfolding counted_of or_refuse
counted_so s h = rw h

fresh_holds : (b : List ℕ) (n : ℕ) {s : List ℕ} → take n b ≡ s → n ≡ length s → judged s ≡ Ok tt → Holds (fresh b n)
unfolding fresh
fresh_holds b n e l h =
    let q : judged (take n b) ≡ (Ok tt) = ap judged e ∙ h in
    record { sized = l ∙ ap length (sym e); state = inr (record { accepted = q; counted = counted_so (take n b) q }) }

pub opened_holds : (s : List ℕ) → Holds (opened s).session
unfolding opened
opened_holds s = go (judged s) refl
  where
    go : (j : Judged) → judged s ≡ j → Holds (opened_by j s).session
    go (Ok _) h = fresh_holds (s ++ replicate (longest limits - length s) 0) (length s) (take-append_seam s _) refl h
    go (Err r) h = record { sized = refl; state = inl (record { none = refl; zeros = refl }) }

-- ---- the scene after a change, of bytes that have room

take_sets : (n : ℕ) (vs l : List ℕ) (i : ℕ) → i + length vs ≤ n → take n (sets l i vs) ≡ sets (take n l) i vs
take_sets n [] l i h = refl
take_sets n (a ∷ vs) l i h =
    take_sets n vs (set l i a) (suc i) (omega arith)
    ∙ ap (λ (r : List ℕ). sets r (suc i) vs) (take-set-lt n l i a (omega arith))

take_again : (n : ℕ) (l : List ℕ) → take (length (take n l)) l ≡ take n l
take_again zero l = refl
take_again (suc n) [] = refl
take_again (suc n) (a ∷ l) = ap (λ (r : List ℕ). a ∷ r) (take_again n l)

module _ (s : Session) where
  abbrev n : ℕ
  n = length (scene s)

  pub row_in_law : (j : ℕ) (v : Row) → point_start j + 9 ≤ length (scene s) →
      take (length (scene s)) (row_put s.bytes j v) ≡ row_put (scene s) j v
  unfolding row_put
  row_in_law j v h =
      take_sets n (row_bytes v) s.bytes (point_start j + 2) (omega arith)
      ∙ ap (λ (l : List ℕ). sets l (point_start j + 2) (row_bytes v)) (take_again s.len s.bytes)

  pub corners_in : (k : ℕ) (f : Face) → k + 5 ≤ length (scene s) →
      take (length (scene s)) (corners_put s.bytes k f) ≡ corners_put (scene s) k f
  unfolding corners_put
  corners_in k f h =
      take_sets n (corner_bytes f) s.bytes (k + 2) (omega arith)
      ∙ ap (λ (l : List ℕ). sets l (k + 2) (corner_bytes f)) (take_again s.len s.bytes)

  changed_holds : (j : Judged) (b : List ℕ) {t : List ℕ} → Holds s → (j ≡ Ok tt → take (length (scene s)) b ≡ t) →
      (j ≡ Ok tt → length (scene s) ≡ length t) →
      (j ≡ Ok tt → judged t ≡ Ok tt) → Holds (changed_by j s b).session
  changed_holds (Ok _) b h e l q = fresh_holds b n (e refl) (l refl) (q refl)
  changed_holds (Err r) b h e l q = h

  -- a session that holds a scene as long as its counts say is not the empty one
  pub full : Holds s → length (scene s) ≡ length_of (scene s) → judged (scene s) ≡ Ok tt
  full h e = go h.state
    where
      go : Empty s ⊎ Full s → judged (scene s) ≡ Ok tt
      go (inl m) = absurd (omega (arith, h.sized, m.none))
      go (inr f) = f.accepted

  -- ---- each operation

  pub vertex_room : (p : ℕ) (v : Row) → vertex_fault (scene s) p v ≡ Ok tt → point_start p + 9 ≤ length (scene s)
  vertex_room p v q = let f = vertex_free (scene s) p v q in omega (arith, f.whole, f.high)

  pub far_room : (v : Row) → far_fault (scene s) v ≡ Ok tt → point_start 0 + 9 ≤ length (scene s)
  far_room v q = omega (arith, (far_free (scene s) v q).whole)

  pub face_room : (f : ℕ) → turn_fault (scene s) f ≡ Ok tt → face_start (scene s) (f - 1) + 5 ≤ length (scene s)
  face_room f q = let t = turn_free (scene s) f q in omega (arith, t.whole, t.low, t.high)

  pub moved_holds : (p : ℕ) (v : Row) → Holds s → Holds (moved_of s p v).session
  unfolding moved_of
  moved_holds p v h =
      changed_holds (vertex_fault (scene s) p v) (row_put s.bytes p v) h (λ q. row_in_law p v (vertex_room p v q))
      (λ q. sym (row_length (scene s) p v)) (λ q.
      let f = vertex_free (scene s) p v q in
      vertex_accepted (scene s) p v (row_fits f.row) (full h f.whole) f.low f.high f.row)

  pub far_holds : (v : Row) → Holds s → Holds (far_moved_of s v).session
  unfolding far_moved_of
  far_holds v h =
      changed_holds (far_fault (scene s) v) (row_put s.bytes 0 v) h (λ q. row_in_law 0 v (far_room v q)) (λ q. sym (row_length (scene s) 0 v))
      (λ q. let f = far_free (scene s) v q in far_accepted (scene s) v (row_fits f.row) (full h f.whole) f.row f.somewhere)

  pub reversed_holds : (f : ℕ) → Holds s → Holds (reversed_of s f).session
  unfolding reversed_of
  reversed_holds f h =
      let i : ℕ = f - 1 in
      let k : ℕ = face_start (scene s) i in
      let g : Face = reversed_face (face_at (scene s) i) in
      changed_holds (turn_fault (scene s) f) (reversed_in s.bytes (scene s) i) h (λ q. corners_in k g (face_room f q))
      (λ q. sym (corners_length (scene s) k g)) (λ q. turned_accepted (scene s) i (face_room f q) (full h (turn_free (scene s) f q).whole))

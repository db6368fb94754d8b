-- The same changes to the bytes of a scene in place: the scene's own refusals first, then the change's. Assumes nothing.
use Rattle.std.specs.Prelude.{◌≡◌, List, ℕ, ◌+◌, ◌-◌, ◌≤◌, ◌<◌, length, Ok, Err}
use Rattle.std.proofs.Common.{sym, ap, ◌∙◌, arith}
use Rattle.std.specs.Result.{IsErrAnd}
use Rattle.laws.specs.Exits.{exits}
use Rattle.scene.specs.Records.{point_start, face_start}
use Rattle.scene.specs.Write.{RowFits, row_put}
use Rattle.scene.specs.declared.Row.{Row}
use Rattle.scene.specs.declared.Refusal.{Refusal}
use Rattle.judge.specs.Judge.{judged, and_then}
use Rattle.judge.specs.Laws.{then_first, then_rest}
use Rattle.judge.specs.Judge.{Judged}
use Rattle.session.specs.Session.{vertex_fault, far_fault, turn_fault, reversed_in}
use Rattle.session.specs.Laws.{row_fits, vertex_free, far_free, turn_free, accepted_short}
use Rattle.session.specs.Moved.{vertex_accepted, far_accepted}
use Rattle.session.specs.Turned.{turned_accepted}

unfoldable pub move_fault : List ℕ → ℕ → Row → Judged
move_fault s p v = and_then (judged s) (vertex_fault s p v)

unfoldable pub move_far_fault : List ℕ → Row → Judged
move_far_fault s v = and_then (judged s) (far_fault s v)

unfoldable pub reverse_fault : List ℕ → ℕ → Judged
reverse_fault s f = and_then (judged s) (turn_fault s f)

-- t where nothing is at fault, else what stood there
abbrev pub kept_or : Judged → List ℕ → List ℕ → List ℕ
kept_or (Ok _) s t = t
kept_or (Err r) s t = s

-- s is what stood there, s' what stands there afterwards
pub record IsChanged (fault : Judged) (s t s' : List ℕ) (r : Judged) : Type 0 where
  pub answer : r ≡ fault
  pub held : s' ≡ kept_or fault s t

module _ (s t : List ℕ) {o j : Judged} (e : o ≡ j) where
  pub kept_so : {r : Refusal} {d : Judged} → o ≡ Err r → IsErrAnd d (λ y. y ≡ r) → IsChanged j s t s d
  kept_so q h = record { answer = exits h (sym q ∙ e); held = ap (λ (j : Judged). kept_or j s t) (sym q ∙ e) }

  pub put_so : {l : List ℕ} → o ≡ Ok tt → l ≡ t → IsChanged j s t l (Ok tt)
  put_so q h = record { answer = sym q ∙ e; held = h ∙ ap (λ (j : Judged). kept_or j s t) (sym q ∙ e) }

-- ---- what a change in place takes, and that it leaves an accepted scene

pub record RowRoom (s : List ℕ) (j : ℕ) (v : Row) : Type 0 where
  pub fits : RowFits v
  pub room : point_start j + 9 ≤ length s
  pub accepted : judged (row_put s j v) ≡ Ok tt

pub move_room : (s : List ℕ) (p : ℕ) (v : Row) → move_fault s p v ≡ Ok tt → RowRoom s p v
unfolding move_fault
move_room s p v e =
    let q = then_first _ _ e in
    let f = vertex_free s p v (then_rest _ _ e) in
    record {
      fits = row_fits f.row;
      room = omega (arith, f.whole, f.high);
      accepted = vertex_accepted s p v (row_fits f.row) q f.low f.high f.row;
    }

pub far_room : (s : List ℕ) (v : Row) → move_far_fault s v ≡ Ok tt → RowRoom s 0 v
unfolding move_far_fault
far_room s v e =
    let q = then_first _ _ e in
    let f = far_free s v (then_rest _ _ e) in
    record {
      fits = row_fits f.row;
      room = omega (arith, f.whole);
      accepted = far_accepted s v (row_fits f.row) q f.row f.somewhere;
    }

pub record FaceRoom (s : List ℕ) (f : ℕ) : Type 0 where
  pub low : 1 ≤ f
  pub high : f < 1024
  pub room : face_start s (f - 1) + 5 ≤ length s
  pub accepted : judged (reversed_in s s (f - 1)) ≡ Ok tt

pub face_room : (s : List ℕ) (f : ℕ) → reverse_fault s f ≡ Ok tt → FaceRoom s f
unfolding reverse_fault
face_room s f e =
    let q = then_first _ _ e in
    let t = turn_free s f (then_rest _ _ e) in
    let room : face_start s (f - 1) + 5 ≤ length s = omega (arith, t.whole, t.low, t.high) in
    record {
      low = t.low;
      high = omega (arith, t.whole, t.high, accepted_short s q);
      room = room;
      accepted = turned_accepted s (f - 1) room q;
    }

-- What the definitions give in each case, in the form in which a call's answer and a branch arrive. Assumes nothing.
use Rattle.std.specs.Prelude.{ℕ, ◌+◌, ◌≡◌, Bool, true, false, cond, ℤ, pos, nat_abs, Option, Some, None, Result, Ok, Err}
use Rattle.std.proofs.Math.Path.{sym}
use Rattle.std.proofs.Common.{ap, ◌∙◌, SFits}
use Rattle.std.specs.Int.Signed.{lt_z}
use Rattle.std.specs.Int.{w64}
use mir.ValLaws.{to_z-of_z}
use Rattle.print.specs.Size.{reread, cast_size}
use Rattle.scene.specs.Negative.{below, above}
use Rattle.scene.specs.declared.Row.{Row}
use Rattle.scene.specs.declared.Refusal.{Refusal}
use Rattle.judge.specs.Judge.{Judged}
use Rattle.questions.specs.declared.Counts.{Counts}
use Rattle.session.specs.Session.{moved_of, far_moved_of, reversed_of}
use Rattle.session.specs.declared.Session.{Session}
use Rattle.session.specs.declared.Changed.{Changed}
use Rattle.edit.specs.Operations.{named, wrong, row_of, move_by, far_by, reverse_of}
use Rattle.edit.specs.Steps.{step_of, told_by}
use Rattle.edit.specs.declared.operations.Operation.{Operation}
use Rattle.edit.specs.declared.operations.Operation.TheVariants as operation
use Rattle.edit.specs.declared.operations.Wrong.{Wrong}

-- ---- names

module _ {o x : Bool} {r : Result Operation Wrong} (a b : Result Operation Wrong) (p : o ≡ x) where
  pub name_is : o ≡ true → r ≡ a → r ≡ cond x a b
  name_is q e = e ∙ ap (λ (t : Bool). cond t a b) (sym q ∙ p)

  pub name_is_not : o ≡ false → r ≡ b → r ≡ cond x a b
  name_is_not q e = e ∙ ap (λ (t : Bool). cond t a b) (sym q ∙ p)

-- ---- numbers

pub named_below : (z : ℤ) → SFits w64 z → lt_z (reread z) (pos 0) ≡ true → 0 ≡ named z
named_below z f h = sym (ap named (below z f h).is)

pub named_above : (z : ℤ) → SFits w64 z → lt_z (reread z) (pos 0) ≡ false → nat_abs (reread z) ≡ named z
named_above z f h = let e = (above z f h).is in cast_size f ∙ ap nat_abs e ∙ sym (ap named e)

module _ (i : ℕ) (x y z w : Option ℤ) where
  pub row_none : x ≡ None → wrong i ≡ row_of i x y z w
  unfolding row_of
  row_none p = rw p

  pub row_one : {a : ℤ} → x ≡ Some a → y ≡ None → wrong (i + 1) ≡ row_of i x y z w
  unfolding row_of
  row_one p q = rw (p, q)

  pub row_two : {a b : ℤ} → x ≡ Some a → y ≡ Some b → z ≡ None → wrong (i + 2) ≡ row_of i x y z w
  unfolding row_of
  row_two p q r = rw (p, q, r)

  pub row_three : {a b c : ℤ} → x ≡ Some a → y ≡ Some b → z ≡ Some c → w ≡ None → wrong (i + 3) ≡ row_of i x y z w
  unfolding row_of
  row_three p q r t = rw (p, q, r, t)

  pub row_four : {a b c d : ℤ} → x ≡ Some a → y ≡ Some b → z ≡ Some c → w ≡ Some d →
      Ok (record { x = a; y = b; z = c; w = d }) ≡ row_of i x y z w
  unfolding row_of
  row_four p q r t = rw (p, q, r, t)

  -- each number is read from its bits
  pub row_read : {a b c d : ℤ} → SFits w64 a → SFits w64 b → SFits w64 c → SFits w64 d → x ≡ Some a → y ≡ Some b →
      z ≡ Some c → w ≡ Some d → Ok (record { x = reread a; y = reread b; z = reread c; w = reread d }) ≡ row_of i x y z w
  unfolding row_of
  row_read {a} {b} {c} {d} fa fb fc fd p q r t =
      rw (p, q, r, t)
      (λ j. Ok (record { x = to_z-of_z w64 a fa j; y = to_z-of_z w64 b fb j; z = to_z-of_z w64 c fc j; w = to_z-of_z w64 d fd j }))

-- o is the row that the words behind give
module _ (i : ℕ) (p : Option ℤ) (v : Result Row Wrong) where
  pub move_none : p ≡ None → wrong (i + 1) ≡ move_by i p v
  unfolding move_by
  move_none q = rw q

  pub move_wrong : {o : Result Row Wrong} {n : ℤ} {e : Wrong} → o ≡ v → p ≡ Some n → o ≡ Err e → Err e ≡ move_by i p v
  unfolding move_by
  move_wrong e q r = rw (q, sym e ∙ r)

  pub move_row : {o : Result Row Wrong} {n : ℤ} {k : ℕ} {t : Row} → o ≡ v → p ≡ Some n → k ≡ named n → o ≡ Ok t →
      Ok (operation.Move k t) ≡ move_by i p v
  unfolding move_by
  move_row {t = t} e q m r = rw (q, sym e ∙ r) (ap (λ (k : ℕ). Ok (operation.Move k t)) m)

  pub move_read : {o : Result Row Wrong} {n : ℤ} {k : ℕ} {t : Row} → SFits w64 n → o ≡ v → p ≡ Some n → k ≡ named (reread n) →
      o ≡ Ok t → Ok (operation.Move k t) ≡ move_by i p v
  move_read {n = n} f e q m r = move_row e q (m ∙ ap named (to_z-of_z w64 n f)) r

module _ {o v : Result Row Wrong} (e : o ≡ v) where
  pub far_wrong : {f : Wrong} → o ≡ Err f → Err f ≡ far_by v
  unfolding far_by
  far_wrong r = rw (sym e ∙ r)

  pub far_row : {t : Row} → o ≡ Ok t → Ok (operation.Far t) ≡ far_by v
  unfolding far_by
  far_row r = rw (sym e ∙ r)

module _ (i : ℕ) {f : Option ℤ} where
  pub reverse_none : f ≡ None → wrong (i + 1) ≡ reverse_of i f
  unfolding reverse_of
  reverse_none p = rw p

  pub reverse_so : {n : ℤ} {k : ℕ} → f ≡ Some n → k ≡ named n → Ok (operation.Reverse k) ≡ reverse_of i f
  unfolding reverse_of
  reverse_so p m = rw p (ap (λ (k : ℕ). Ok (operation.Reverse k)) m)

  pub reverse_read : {n : ℤ} {k : ℕ} → SFits w64 n → f ≡ Some n → k ≡ named (reread n) →
      Ok (operation.Reverse k) ≡ reverse_of i f
  reverse_read {n} g p m = reverse_so p (m ∙ ap named (to_z-of_z w64 n g))

-- ---- steps

module _ (s : Session) {o : Operation} {r : Changed} where
  pub step_move : {p : ℕ} {v : Row} → o ≡ operation.Move p v → r ≡ moved_of s p v → r ≡ step_of s o
  step_move e h = rw e h

  pub step_far : {v : Row} → o ≡ operation.Far v → r ≡ far_moved_of s v → r ≡ step_of s o
  step_far e h = rw e h

  pub step_reverse : {f : ℕ} → o ≡ operation.Reverse f → r ≡ reversed_of s f → r ≡ step_of s o
  step_reverse e h = rw e h

pub told_counts : {j : Judged} (n : Counts) → j ≡ Ok tt → Ok n ≡ told_by j n
unfolding told_by
told_counts n e = rw e

pub told_refused : {j : Judged} (n : Counts) {r : Refusal} → j ≡ Err r → Err r ≡ told_by j n
unfolding told_by
told_refused n e = rw e

-- The laws of the stages, in the form in which a call's answer and a branch arrive. Assumes nothing.
use Rattle.std.specs.Prelude.{ℕ, ◌+◌, ◌<◌, ◌≤◌, ◌≡◌, List, ◌++◌, Bool, true, false, not, ◌&&◌, take, drop, leb, Result, Ok, Err}
use Rattle.std.proofs.Math.Path.{refl, sym}
use Rattle.std.proofs.Common.{ap, ap₂, ◌∙◌, arith}
use Rattle.std.proofs.Math.Bool.{cond}
use borrow.Author.Tests.{leb-true, le-leb, lt-leb, not-true, not-false}
use Rattle.std.proofs.Math.ListN.{length}
use Rattle.scene.specs.declared.Refusal as scene
use Rattle.scene.specs.declared.Refusal.TheVariants.{Counts, BufferTooShort}
use Rattle.judge.specs.Judge.{judged}
use Rattle.judge.specs.Judge.{Judged}
use Rattle.off_form.specs.Form.{form_of}
use Rattle.off_form.specs.Head.{Headed}
use Rattle.off_form.proofs.Placed.{form_placed}
use Rattle.off_form.specs.declared.Head.{Head}
use Rattle.off_form.specs.declared.Flaw.{Flaw}
use Rattle.off_form.specs.declared.Flaw.TheVariants as flaw
use Rattle.off_solids.specs.Fitted.{scene_of}
use Rattle.off_solids.specs.declared.points.Point.{Point}
use Rattle.off_scene.specs.Made.{fault_in, after_text, after_judge, counts_fit, placed, judged_of, counted_of, made_of, left_by, Makes}
use Rattle.off_scene.specs.Counts.{head_fits, told_fits}
use Rattle.off_scene.specs.declared.Fault.{Fault}
use Rattle.off_scene.specs.declared.Fault.TheVariants.{Outside, Sides, OfScene}

-- the same answer by another name
makes_as : {m n r : Result ℕ Fault} {s out out' : List ℕ} → m ≡ n → Makes m s out out' r → Makes n s out out' r
makes_as e g = record { answer = g.answer ∙ e; left = g.left }

-- a refusal leaves the buffer as it is
refuses : {m r : Result ℕ Fault} {f : _} (s out : List ℕ) → r ≡ Err f → r ≡ m → Makes m s out out r
refuses s out e p = record { answer = p; left = ap (λ (r : Result ℕ Fault). left_by r s out) (sym e) }

-- ---- a text

module _ (base : ℕ) (rest : Result ℕ Fault) {o x : Result ℕ Flaw} (p : o ≡ x) (s out : List ℕ) where
  pub text_goes_on : {k : ℕ} {r : Result ℕ Fault} {out' : List ℕ} → o ≡ Ok k → Makes rest s out out' r →
      Makes (after_text base x rest) s out out' r
  text_goes_on q g = makes_as (ap (λ (r : Result ℕ Flaw). after_text base r rest) (sym q ∙ p)) g

  text_at_fault : {f : Flaw} {g : Fault} → o ≡ Err f → g ≡ fault_in base f → Makes (after_text base x rest) s out out (Err g)
  text_at_fault q e = refuses s out refl (ap Err e ∙ ap (λ (r : Result ℕ Flaw). after_text base r rest) (sym q ∙ p))

  pub text_outside : {k m : ℕ} → o ≡ Err (flaw.Outside k) → m ≡ base + k → Makes (after_text base x rest) s out out (Err (Outside m))
  text_outside q e = text_at_fault q (ap Outside e)

  pub text_sides : {k m : ℕ} → o ≡ Err (flaw.Sides k) → m ≡ base + k → Makes (after_text base x rest) s out out (Err (Sides m))
  text_sides q e = text_at_fault q (ap Sides e)

-- a flaw's offset is within the text
module _ (s : List ℕ) {o : Result ℕ Flaw} (p : o ≡ form_of s) where
  pub outside_within : {k : ℕ} → o ≡ Err (flaw.Outside k) → k ≤ length s
  outside_within q = rw (sym p ∙ q) at (form_placed s)

  pub sides_within : {k : ℕ} → o ≡ Err (flaw.Sides k) → k ≤ length s
  sides_within q = rw (sym p ∙ q) at (form_placed s)

-- ---- the judge, and the room

module _ (t : List ℕ) (room : ℕ) {o : Judged} (p : o ≡ judged t) (s out : List ℕ) where
  pub judge_accepts : {r : Result ℕ Fault} {out' : List ℕ} → o ≡ Ok tt → Makes (placed t room) s out out' r →
      Makes (judged_of t room) s out out' r
  unfolding judged_of
  judge_accepts q g = makes_as (ap (λ (j : Judged). after_judge j (placed t room)) (sym q ∙ p)) g

  pub judge_refuses : {f : scene.Refusal} {r : Result ℕ Fault} → o ≡ Err f → r ≡ Err (OfScene f) → Makes (judged_of t room) s out out r
  unfolding judged_of
  judge_refuses q e = refuses s out e (e ∙ ap (λ (j : Judged). after_judge j (placed t room)) (sym q ∙ p))

module _ (s out : List ℕ) where
  pub room_lacks : length out < length s → Makes (placed s (length out)) s out out (Err (OfScene (BufferTooShort (length s))))
  unfolding placed
  room_lacks h =
      refuses s out refl
      (sym (ap (λ (b : Bool). cond b (Ok (length s)) (Err (OfScene (BufferTooShort (length s)))))
      (lt-leb (length s) (length out) h)))

  pub room_serves : {out' : List ℕ} → length s ≤ length out → out' ≡ s ++ drop (length s) out →
      Makes (placed s (length out)) s out out' (Ok (length s))
  unfolding placed
  room_serves h e =
      record {
        answer =
            sym (ap (λ (b : Bool). cond b (Ok (length s)) (Err (OfScene (BufferTooShort (length s)))))
            (le-leb (length s) (length out) h));
        left = e;
      }

-- ---- the counts

module _ (a b : List ℕ) (far : Point) (room : ℕ) (s out : List ℕ) (h : Head) (d : Headed a h) {o : Bool} (told : o ≡ head_fits h) where
  p : o ≡ counts_fit a
  p = told ∙ told_fits a h d

  pub first_unfit : not o ≡ true → Makes (counted_of a b far room) s out out (Err (OfScene Counts))
  unfolding counted_of
  first_unfit q =
      refuses s out refl
      (ap (λ (t : Bool). cond (t && counts_fit b) (judged_of (scene_of a b far) room) (Err (OfScene Counts))) (sym (not-true o q) ∙ p))

  module _ (q : not o ≡ false) (g : Head) (f : Headed b g) {t : Bool} (told-b : t ≡ head_fits g) where
    e : t ≡ counts_fit b
    e = told-b ∙ told_fits b g f

    pub second_unfit : not t ≡ true → Makes (counted_of a b far room) s out out (Err (OfScene Counts))
    unfolding counted_of
    second_unfit r =
        refuses s out refl
        (ap₂ (λ (x y : Bool). cond (x && y) (judged_of (scene_of a b far) room) (Err (OfScene Counts))) (sym (not-false o q) ∙ p)
        (sym (not-true t r) ∙ e))

    pub both_fit : {l : List ℕ} {r : Result ℕ Fault} {out' : List ℕ} → not t ≡ false → l ≡ scene_of a b far →
        Makes (judged_of l room) l out out' r →
        Makes (counted_of a b far room) (scene_of a b far) out out' r
    unfolding counted_of
    both_fit {l} {r} {out'} n m x =
        makes_as
        (ap₂ (λ (x y : Bool). cond (x && y) (judged_of (scene_of a b far) room) (Err (OfScene Counts))) (sym (not-false o q) ∙ p)
        (sym (not-false t n) ∙ e)) (rw m at x)

-- ---- the scene's own bytes, and an offset in the first text

pub own_count : (own : List ℕ) {n : ℕ} {l : List ℕ} → n ≡ length l → take n own ≡ l → n ≡ length (take n own)
own_count own p q = p ∙ sym (ap length q)

pub from_start : (k : ℕ) → k ≡ 0 + k
from_start k = omega arith

-- ---- a scene that was made has room

module _ (room : ℕ) {n : ℕ} where
  text_room : (base : ℕ) (x : Result ℕ Flaw) (rest : Result ℕ Fault) → (rest ≡ Ok n → n ≤ room) → after_text base x rest ≡ Ok n → n ≤ room
  text_room base (Ok k) rest h e = h e
  text_room base (Err f) rest h e = let z : ◌≡◌ {A = ℕ} 0 1 = cc in absurd (omega arith)

  judge_room : (x : Judged) (rest : Result ℕ Fault) → (rest ≡ Ok n → n ≤ room) → after_judge x rest ≡ Ok n → n ≤ room
  judge_room (Ok _) rest h e = h e
  judge_room (Err r) rest h e = let z : ◌≡◌ {A = ℕ} 0 1 = cc in absurd (omega arith)

  test_room : (b : Bool) (x : Result ℕ Fault) (f : scene.Refusal) → (b ≡ true → x ≡ Ok n → n ≤ room) →
      cond b x (Err (OfScene f)) ≡ Ok n → n ≤ room
  test_room true x f h e = h refl e
  test_room false x f h e = let z : ◌≡◌ {A = ℕ} 0 1 = cc in absurd (omega arith)

  pub made_room : (a b : List ℕ) (far : Point) → made_of a b far room ≡ Ok n → n ≤ room
  unfolding counted_of judged_of placed
  made_room a b far e =
      let s = scene_of a b far in
      text_room _ (form_of a) _ (text_room _ (form_of b) _ (test_room (counts_fit a && counts_fit b) _ Counts (λ _.
      judge_room (judged s) _ (test_room (leb (length s) room) _ (BufferTooShort (length s)) (λ h d.
      let k : length s ≡ n = cc in
      omega (arith, leb-true (length s) room h)))))) e

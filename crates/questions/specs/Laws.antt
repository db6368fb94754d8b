-- A question's answer by its faults: it is refused, or answered; in the form in which a call and a branch arrive. Assumes nothing.
use Rattle.std.specs.Prelude.{◌≡◌, refl, Bool, true, false, not, ◌&&◌, List, ℕ, ◌≤◌, ◌<◌, Result, Ok, Err}
use Rattle.std.proofs.Math.Path.{sym, ap}
use Rattle.std.proofs.Common.{ap₂, ◌∙◌, le-leb}
use Rattle.std.proofs.lemmas.Bool.{lt-leb}
use Rattle.laws.specs.Tests.{and_same_stops, and_same_goes_on}
use Rattle.scene.specs.Records.{verts_a, counts_of}
use Rattle.scene.specs.View.{view_of}
use Rattle.scene.specs.declared.Scene.{Scene}
use Rattle.scene.specs.declared.Refusal.{Refusal}
use Rattle.scene.specs.Limits.{within}
use Rattle.judge.specs.Judge.{and_then}
use Rattle.judge.specs.Judge.{Judged}
use Rattle.questions.specs.Answers.{or_refuse, other_solid}
use Rattle.questions.specs.Types.{Answer}

-- of o, what the question's faults are
module _ {X : Type 0} (refuse : Refusal → X) (x : X) {o j : Judged} (e : o ≡ j) where
  pub refused_so : {r : Refusal} → o ≡ Err r → refuse r ≡ or_refuse refuse j x
  unfolding or_refuse
  refused_so q = ap (λ (k : Judged). or_refuse refuse k x) (sym q ∙ e)

  pub answered_so : {y : X} → o ≡ Ok tt → y ≡ x → y ≡ or_refuse refuse j x
  unfolding or_refuse
  answered_so q p = p ∙ ap (λ (k : Judged). or_refuse refuse k x) (sym q ∙ e)

-- the judge accepts, and the question's own faults decide
module _ {X : Type 0} (refuse : Refusal → X) (x : X) {j k : Judged} where
  pub own_refused : {o p : Judged} {r : Refusal} → o ≡ j → o ≡ Ok tt → p ≡ k → p ≡ Err r →
      refuse r ≡ or_refuse refuse j (or_refuse refuse k x)
  own_refused e q f h = answered_so refuse (or_refuse refuse k x) e q (refused_so refuse x f h)

  pub both_accept : {y : X} → j ≡ Ok tt → k ≡ Ok tt → y ≡ x → y ≡ or_refuse refuse j (or_refuse refuse k x)
  both_accept e f p = answered_so refuse (or_refuse refuse k x) refl e (answered_so refuse x refl f p)

-- of answers that are Results
module _ {T : Type 0} (x : Result T Refusal) {j : Judged} where
  pub err_so : {o : Judged} {r : Refusal} → o ≡ j → o ≡ Err r → Err r ≡ or_refuse Err j x
  err_so e q = refused_so Err x e q

  module _ {k : Judged} where
    pub own_err : {o p : Judged} {r : Refusal} → o ≡ j → o ≡ Ok tt → p ≡ k → p ≡ Err r → Err r ≡ or_refuse Err j (or_refuse Err k x)
    own_err e q f h = own_refused Err x e q f h

    pub both_ok : {y : Result T Refusal} → j ≡ Ok tt → k ≡ Ok tt → y ≡ x → y ≡ or_refuse Err j (or_refuse Err k x)
    both_ok e f p = both_accept Err x e f p

-- yes or no, of t, what the scene says
pub said_so : {t b : Bool} → t ≡ b → ◌≡◌ {A = Answer} (Ok t) (Ok b)
said_so p = ap Ok p

pub accepted_so : {o j : Judged} → o ≡ j → o ≡ Ok tt → j ≡ Ok tt
accepted_so e q = sym e ∙ q

-- one answer after another: the judge's refusal, else the question's own
pub answered_then : {X : Type 0} (refuse : Refusal → X) (j k : Judged) (x : X) →
    or_refuse refuse j (or_refuse refuse k x) ≡ or_refuse refuse (and_then j k) x
unfolding or_refuse and_then
answered_then refuse (Ok _) k x = refl
answered_then refuse (Err r) k x = refl

-- ---- numbers within limits that were worked out

pub within_so : (n : ℕ) {l h low high : ℕ} {b : Bool} → l ≡ low → h ≡ high → b ≡ within l h n → b ≡ within low high n
within_so n e d p = p ∙ ap₂ (λ (x y : ℕ). within x y n) e d

-- ---- the solid that a vertex may be enclosed by

module _ (s : List ℕ) (i : ℕ) {c : Scene} (are-counts : c ≡ counts_of s) where
  pub other_b : i ≤ c.vertices_a → 2 ≡ other_solid (view_of s) i
  unfolding other_solid
  other_b h = sym (rw (le-leb i (verts_a s) (rw are-counts at h)))

  pub other_a : c.vertices_a < i → 1 ≡ other_solid (view_of s) i
  unfolding other_solid
  other_a h = sym (rw (lt-leb i (verts_a s) (rw are-counts at h)))

-- ---- conjunctions of negations, where the code's answer o is x

pub not_stops : {o x : Bool} (y : Bool) → o ≡ x → o ≡ true → false ≡ (not x && y)
not_stops y p q = ap (λ (b : Bool). not b && y) (sym q ∙ p)

pub not_goes_on : {o x y w : Bool} → o ≡ x → o ≡ false → w ≡ y → w ≡ (not x && y)
not_goes_on {y} p q e = e ∙ ap (λ (b : Bool). not b && y) (sym q ∙ p)

pub not_last : {o x : Bool} → o ≡ x → not o ≡ not x
not_last p = ap not p

pub ruleset nots = (not_stops, not_goes_on, not_last, and_same_stops, and_same_goes_on)

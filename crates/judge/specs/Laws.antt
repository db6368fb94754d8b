-- The laws of the judge's searches and of its rules, in the form in which a loop's turn, a call's answer and a branch arrive.
-- Assumes nothing.
use Rattle.std.specs.Prelude.{ℕ, ◌+◌, ◌<◌, ◌≤◌, ◌≡◌, refl, Bool, true, false, not, Ok, Err}
use Rattle.std.proofs.Common.{sym, ◌∙◌, rules as common}
use Rattle.std.proofs.Math.Path.{ap}
use Rattle.std.proofs.lemmas.Bool.{not-true, not-false}
use Rattle.laws.specs.Exits.{exits}
use Rattle.laws.specs.Range as range
use Rattle.laws.specs.Range.{any_end, any_found, any_next, count_end, count_one, count_none}
use Rattle.judge.specs.Judge.{first_fault, and_then, refuse_unless}
use Rattle.scene.specs.declared.Refusal.{Refusal}
use Rattle.judge.specs.Judge.{Judged}

-- a loop at i whose rest is w: it ends, it finds a fault, or it goes on
module _ (f : ℕ → Judged) (i e : ℕ) {w : Judged} (inv : first_fault f i e ≡ w) where
  pub first_end : e ≤ i → (Ok tt) ≡ w
  first_end h = range.first_end (Ok tt) and_then f i e inv h

  pub first_found : {o : Judged} {r : Refusal} → i < e → o ≡ f i → o ≡ Err r → Err r ≡ w
  unfolding and_then
  first_found h p q = ap (λ (j : Judged). and_then j (first_fault f (i + 1) e)) (sym q) ∙ range.first_turn (Ok tt) and_then f i e inv h p

  pub first_next : {o : Judged} → i < e → o ≡ f i → o ≡ Ok tt → first_fault f (i + 1) e ≡ w
  unfolding and_then
  first_next h p q = ap (λ (j : Judged). and_then j (first_fault f (i + 1) e)) (sym q) ∙ range.first_turn (Ok tt) and_then f i e inv h p

pub ruleset loops = (first_end, first_found, first_next, any_end, any_found, any_next, count_end, count_one, count_none, exits, common)

-- one judgement after another, of which o is the first: it refuses, or the others decide
pub then_refused : {o x : Judged} (y : Judged) {r : Refusal} → o ≡ x → o ≡ Err r → Err r ≡ and_then x y
unfolding and_then
then_refused y p q = sym (ap (λ (j : Judged). and_then j y) (sym p ∙ q))

pub then_accepted : {o x y w : Judged} → o ≡ x → o ≡ Ok tt → w ≡ y → w ≡ and_then x y
unfolding and_then
then_accepted {y} p q e = e ∙ sym (ap (λ (j : Judged). and_then j y) (sym p ∙ q))

pub ruleset chain = (then_refused, then_accepted, exits)

-- a rule whose test came out as b: it refuses, or the rules after it decide
pub rule_refused : {o b : Bool} (k : Judged) {r : Refusal} → o ≡ b → not o ≡ true → Err r ≡ refuse_unless b r k
unfolding refuse_unless
rule_refused k {r} p q = ap (λ (t : Bool). refuse_unless t r k) (sym (not-true _ q) ∙ p)

pub rule_passed : {o b : Bool} {k w : Judged} (r : Refusal) → o ≡ b → not o ≡ false → w ≡ k → w ≡ refuse_unless b r k
unfolding refuse_unless
rule_passed {k} r p q e = e ∙ ap (λ (t : Bool). refuse_unless t r k) (sym (not-false _ q) ∙ p)

pub ruleset rules = (rule_refused, rule_passed)

-- with a place that was worked out
pub rule_refused_at : {o b : Bool} (f : ℕ → Refusal) (k : Judged) {p q : ℕ} → p ≡ q → o ≡ b → not o ≡ true → Err (f p) ≡ refuse_unless b
    (f q) k
rule_refused_at f k e p q = ap (λ (n : ℕ). Err (f n)) e ∙ rule_refused k p q

-- ---- what acceptance says: each rule's test, and each stage

pub rule_ok : (b : Bool) (r : Refusal) (k : Judged) → refuse_unless b r k ≡ Ok tt → b ≡ true
unfolding refuse_unless
rule_ok true r k p = refl
rule_ok false r k p = cc

pub rule_rest : (b : Bool) (r : Refusal) (k : Judged) → refuse_unless b r k ≡ Ok tt → k ≡ Ok tt
unfolding refuse_unless
rule_rest true r k p = p
rule_rest false r k p = cc

pub then_first : (x y : Judged) → and_then x y ≡ Ok tt → x ≡ Ok tt
unfolding and_then
then_first (Ok _) y p = refl
then_first (Err r) y p = p

pub then_rest : (x y : Judged) → and_then x y ≡ Ok tt → y ≡ Ok tt
unfolding and_then
then_rest (Ok _) y p = p
then_rest (Err r) y p = cc

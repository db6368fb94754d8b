-- The turns at which a judgement can refuse, and so which of its parts gave a refusal. Assumes nothing.
use Rattle.std.specs.Prelude.{◌≡◌, ◌↔◌, Bool, ℕ, suc, ◌≤◌, ◌<◌, Ok, Err}
use Rattle.std.proofs.Math.Path.{refl, ap, subst}
use Rattle.std.proofs.Common.{sym, ◌∙◌, ⊎_elim, inr, inl, arith, lit≤}
use mathlib.Core.Logic.Iff
use Rattle.std.proofs.Math.Bool.{true, false, false≢true}
use Rattle.scene.specs.Refusal.{place_of}
use Rattle.scene.specs.declared.Refusal.{Refusal}
use Rattle.scene.specs.declared.Refusal.TheVariants.{Opening, Counts, Length, Mark, Coordinate, Weight, Corner}
use Rattle.scene.specs.declared.Refusal.TheVariants.{Unused, Edge, ListTooShort, NoSuchNumber, NotDistinct, BufferTooShort, FarAllZero}
use Rattle.judge.specs.Judge.{refuse_unless, and_then, first_fault}
use Rattle.judge.specs.Judge.{Judged}
use Rattle.rules.specs.Rules.{Between}
use Rattle.judge.specs.Tests.{never, then_refused, first_refused}

-- the order of checking: that of the numbers, but for 14, which comes after 6
abbrev pub check_order : Refusal → ℕ
check_order Opening = 1
check_order Counts = 2
check_order Length = 3
check_order (Mark p) = 4
check_order (Coordinate p) = 5
check_order (Weight p) = 6
check_order (FarAllZero p) = 7
check_order (Corner p) = 8
check_order (Unused p) = 9
check_order (Edge p) = 10
check_order (ListTooShort p) = 11
check_order NoSuchNumber = 12
check_order NotDistinct = 13
check_order (BufferTooShort p) = 14

-- j refuses, if it does, at a turn from low to high
pub record Gives (low high : ℕ) (j : Judged) : Type 0 where
  pub turn : (r : Refusal) → j ≡ Err r → Between low high (check_order r)

same : {q r : Refusal} → ◌≡◌ {A = Judged} (Err q) (Err r) → q ≡ r
same e = cc

module _ (low high : ℕ) where
  pub gives_none : Gives low high (Ok tt)
  gives_none = record { turn = λ r e. absurd (never e) }

  pub gives_rule : (b : Bool) (r : Refusal) (k : Judged) → low ≤ check_order r → check_order r ≤ high → Gives low high k → Gives low high
      (refuse_unless b r k)
  unfolding refuse_unless
  gives_rule true r k a h g = g
  gives_rule false r k a h g = record { turn = λ q e. subst (λ (q : Refusal). Between low high (check_order q)) (same e) (a, h) }

  pub gives_then : (x y : Judged) → Gives low high x → Gives low high y → Gives low high (and_then x y)
  gives_then x y g h = record { turn = λ r e. ⊎_elim (g.turn r) (λ k. h.turn r k.1) ((then_refused x y r).0 e) }

  pub gives_first : (f : ℕ → Judged) (a e : ℕ) → ((i : ℕ) → a ≤ i → i < e → Gives low high (f i)) → Gives low high (first_fault f a e)
  gives_first f a e g = record { turn = λ r p. let q = (first_refused f r a e).0 p in (g q.at q.from q.to).turn r q.here }

pub gives_wider : {low high : ℕ} (least most : ℕ) {j : Judged} → least ≤ low → high ≤ most → Gives low high j → Gives least most j
gives_wider least most a b g = record { turn = λ r e. let h = g.turn r e in omega arith }

-- a chain of rules, by the turns of its refusals
pub ruleset gives = (gives_none, gives_rule, lit≤, tt)

-- ---- a rule and a chain, where what comes after refuses at later turns

module _ {P : Type 0} {b : Bool} (e : (b ≡ true) ↔ P) (r : Refusal) {q : Refusal} (k : Judged) where
  -- this rule's test, which decides P, fails
  pub rule_here : (high : ℕ) → Gives (suc (check_order q)) high k → (refuse_unless b r k ≡ Err q) ↔ ((r ≡ q) × ¬ P)
  unfolding refuse_unless
  rule_here high g = go b e
    where
      go : (b : Bool) → (b ≡ true) ↔ P → (refuse_unless b r k ≡ Err q) ↔ ((r ≡ q) × ¬ P)
      go true e = (λ p. absurd (omega (arith, (g.turn q p).0)), λ h. absurd (h.1 (e.0 refl)))
      go false e = (λ p. (same p, λ x. false≢true (e.1 x)), λ h. ap Err h.0)

  -- it passes, and a later one fails
  pub rule_next : {Q : Type 0} → check_order r < check_order q → (k ≡ Err q) ↔ Q → (refuse_unless b r k ≡ Err q) ↔ (P × Q)
  unfolding refuse_unless
  rule_next {Q} l f = go b e
    where
      go : (b : Bool) → (b ≡ true) ↔ P → (refuse_unless b r k ≡ Err q) ↔ (P × Q)
      go true e = (λ p. (e.0 refl, f.0 p), λ h. f.1 h.1)
      go false e = (λ p. absurd (let n = ap check_order (same p) in omega arith), λ h. absurd (false≢true (e.1 h.0)))

-- the one refusal r of a rule
pub rule_alone : {P : Type 0} {b : Bool} → (b ≡ true) ↔ P → (r : Refusal) (k : Judged) (high : ℕ) → Gives (suc (check_order r)) high k →
    (refuse_unless b r k ≡ Err r) ↔ ¬ P
rule_alone e r k high g = Iff.trans (rule_here e r k high g) (λ h. h.1, λ n. (refl, n))

-- the refusal K of a rule, at the place i
pub rule_at : {P : Type 0} {b : Bool} → (b ≡ true) ↔ P → (K : ℕ → Refusal) → ((i : ℕ) → place_of (K i) ≡ i) →
    (i p : ℕ) (k : Judged) (high : ℕ) → Gives (suc (check_order (K p))) high k → (refuse_unless b (K i) k ≡ Err (K p)) ↔ ((i ≡ p) × ¬ P)
rule_at e K place i p k high g =
    Iff.trans (rule_here e (K i) k high g) (λ h. (sym (place i) ∙ ap place_of h.0 ∙ place p, h.1), λ h. (ap K h.0, h.1))

module _ (x y : Judged) (r : Refusal) where
  pub then_here : (high : ℕ) → Gives (suc (check_order r)) high y → (and_then x y ≡ Err r) ↔ (x ≡ Err r)
  then_here high g = Iff.trans (then_refused x y r) (⊎_elim (λ p. p) (λ h. absurd (omega (arith, (g.turn r h.1).0))), inl)

  pub then_next : {P Q : Type 0} (low high : ℕ) → Gives low high x → high < check_order r → (x ≡ Ok tt) ↔ P → (y ≡ Err r) ↔ Q →
      (and_then x y ≡ Err r) ↔ (P × Q)
  then_next low high g l p q =
      Iff.trans (then_refused x y r) (Iff.trans (⊎_elim (λ p. absurd (omega (arith, (g.turn r p).1))) (λ h. h), inr) (Iff.and p q))

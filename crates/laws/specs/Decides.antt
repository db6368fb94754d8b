-- What a test of numbers or of other tests decides, each as an equivalence, so that `simp` reads a definition made of tests as facts and
-- back. Assumes nothing.
use Rattle.std.specs.Prelude.{◌≡◌, refl, ◌≢◌, ◌⊎◌, ◌↔◌, Bool, true, false, not, ◌&&◌, ◌||◌, ℕ, ◌≤◌, eqb, leb}
use Rattle.std.proofs.Common.{sym, ap, ◌∙◌, inl, inr, ⊎_elim, true≢false, leb-true, eqb-true, le-leb, eq-eqb, ne_eqb}
use Rattle.std.proofs.lemmas.Bool.{false≢true, eqb-false, not-true, not-false}
use Rattle.std.proofs.Math.Bool.{and-eq-true_iff}

pub eqb_iff : (a b : ℕ) → (eqb a b ≡ true) ↔ (a ≡ b)
eqb_iff a b = (eqb-true a b, eq-eqb a b)

pub leb_iff : (a b : ℕ) → (leb a b ≡ true) ↔ (a ≤ b)
leb_iff a b = (leb-true a b, le-leb a b)

pub differ_iff : (a b : ℕ) → (not (eqb a b) ≡ true) ↔ (a ≢ b)
differ_iff a b = (λ e. eqb-false a b (not-true _ e), λ n. rw (ne_eqb a b n))

pub and_iff : (a b : Bool) → ((a && b) ≡ true) ↔ ((a ≡ true) × (b ≡ true))
and_iff = and-eq-true_iff

pub ruleset decides = (and_iff, differ_iff, eqb_iff, leb_iff)

pub or_iff : {P Q : Type 0} (a b : Bool) → (a ≡ true) ↔ P → (b ≡ true) ↔ Q → ((a || b) ≡ true) ↔ (P ⊎ Q)
or_iff true b p q = (λ _. inl (p.0 refl), λ _. refl)
or_iff false b p q = (λ e. inr (q.0 e), ⊎_elim (λ x. absurd (false≢true (p.1 x))) q.1)

-- what always holds, and a test that fails
pub always : {P : Type 0} → P → (true ≡ true) ↔ P
always p = (λ _. p, λ _. refl)

pub fails_iff : {P : Type 0} (b : Bool) → (b ≡ true) ↔ P → (b ≡ false) ↔ (P → ⊥)
fails_iff b e = (λ f p. false≢true (sym f ∙ e.1 p), λ n. go b e n)
  where
    go : {P : Type 0} (b : Bool) → (b ≡ true) ↔ P → (P → ⊥) → b ≡ false
    go true e n = absurd (n (e.0 refl))
    go false e n = refl

-- one that passes, by what it fails at
pub passes_iff : {P : Type 0} (b : Bool) → (b ≡ false) ↔ P → (b ≡ true) ↔ (P → ⊥)
passes_iff true e = (λ t p. true≢false (e.1 p), λ n. refl)
passes_iff false e = (λ t p. false≢true t, λ n. absurd (n (e.0 refl)))

-- two of which one fails, and one that is turned
pub either_fails : {P Q : Type 0} (a b : Bool) → (a ≡ false) ↔ P → (b ≡ false) ↔ Q → ((a && b) ≡ false) ↔ (P ⊎ Q)
either_fails false b p q = (λ _. inl (p.0 refl), λ _. refl)
either_fails true b p q = (λ e. inr (q.0 e), ⊎_elim (λ x. absurd (true≢false (p.1 x))) q.1)

pub not_fails : {P : Type 0} (b : Bool) → (b ≡ true) ↔ P → (not b ≡ false) ↔ P
not_fails b h = (λ e. h.0 (not-false b e), λ x. ap not (h.1 x))

-- two that pass alike are the same
pub same_test : (a b : Bool) → (a ≡ true) ↔ (b ≡ true) → a ≡ b
same_test true b h = sym (h.0 refl)
same_test false true h = h.1 refl
same_test false false h = refl

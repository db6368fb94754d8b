-- What a rule, a chain and a search of the judge say, as facts: accepted exactly when each is, refused exactly when the first that refuses
-- does. Assumes nothing.
use Rattle.std.specs.Prelude.{◌≡◌, refl, ◌⊎◌, ◌↔◌, Bool, true, ℕ, zero, suc, ◌+◌, ◌-◌, ◌≤◌, ◌<◌, Ok, Err}
use Rattle.std.proofs.Common.{sym, ap, ◌∙◌, subst, inl, inr, ⊎_elim, arith}
use mathlib.Core.Logic.Iff
use Rattle.std.proofs.Math.Decide.{ℕ_discrete}
use Rattle.laws.specs.Decides.{decides}
use Rattle.laws.specs.Range.{fold, first_of, over}
use Rattle.scene.specs.declared.Refusal.{Refusal}
use Rattle.judge.specs.Judge.{refuse_unless, and_then, first_fault}
use Rattle.scene.specs.Limits.{within}
use Rattle.judge.specs.Laws.{rule_ok, rule_rest, rule_passed, then_first, then_rest, then_accepted}
use Rattle.judge.specs.Judge.{Judged}

pub within_iff : (l h n : ℕ) → (within l h n ≡ true) ↔ ((l ≤ n) × (n ≤ h))
unfolding within
within_iff l h n = simp decides Iff.rfl

-- accepted is not refused
pub never : {r : Refusal} → ◌≡◌ {A = Judged} (Ok tt) (Err r) → ⊥
never e = let z : ◌≡◌ {A = ℕ} 0 1 = cc in omega arith

-- ---- accepted

pub rule_iff : (b : Bool) (r : Refusal) (k : Judged) → (refuse_unless b r k ≡ Ok tt) ↔ ((b ≡ true) × (k ≡ Ok tt))
rule_iff b r k = (λ p. (rule_ok b r k p, rule_rest b r k p), λ h. sym (rule_passed r (sym h.0) refl (sym h.1)))

pub then_iff : (x y : Judged) → (and_then x y ≡ Ok tt) ↔ ((x ≡ Ok tt) × (y ≡ Ok tt))
then_iff x y = (λ p. (then_first x y p, then_rest x y p), λ h. sym (then_accepted refl h.0 (sym h.1)))

-- ---- refused

pub then_refused : (x y : Judged) (r : Refusal) → (and_then x y ≡ Err r) ↔ ((x ≡ Err r) ⊎ ((x ≡ Ok tt) × (y ≡ Err r)))
unfolding and_then
then_refused (Ok _) y r = (λ p. inr (refl, p), ⊎_elim (λ p. absurd (never p)) (λ h. h.1))
then_refused (Err q) y r = (inl, ⊎_elim (λ p. p) (λ h. absurd (never (sym h.0))))

-- ---- a search of f from a up to e

-- the first that refuses: where it stands, and that all before it accept
pub record First (f : ℕ → Judged) (a e : ℕ) (r : Refusal) : Type 0 where
  pub at : ℕ
  pub from : a ≤ at
  pub to : at < e
  pub here : f at ≡ Err r
  pub before : (i : ℕ) → a ≤ i → i < at → f i ≡ Ok tt

module _ (f : ℕ → Judged) where
  abbrev rest : ℕ → ℕ → Judged
  rest = fold (λ k rest. and_then (f k) rest) (Ok tt)

  -- at the first number, and at those after it
  at_next : (X : ℕ → Type 0) (a e : ℕ) → X a → ((i : ℕ) → suc a ≤ i → i < e → X i) → (i : ℕ) → a ≤ i → i < e → X i
  at_next X a e x h i l m = go (ℕ_discrete a i)
    where
      go : Dec (a ≡ i) → X i
      go (yes d) = subst X d x
      go (no d) = h i (omega arith) m

  all_rest : (n a : ℕ) → (rest a n ≡ Ok tt) ↔ ((i : ℕ) → a ≤ i → i < a + n → f i ≡ Ok tt)
  all_rest zero a = (λ p i l m. absurd (omega arith), λ h. refl)
  all_rest (suc n) a = (
    λ p.
        let h = (then_iff _ _).0 p in
        at_next (λ i. f i ≡ Ok tt) a (a + suc n) h.0 (λ i l m. (all_rest n (suc a)).0 h.1 i l (omega arith)),
    λ h. (then_iff _ _).1 (h a (omega arith) (omega arith), (all_rest n (suc a)).1 (λ i l m. h i (omega arith) (omega arith))),
  )

  module _ (r : Refusal) where
    here_first : (a e : ℕ) → a < e → f a ≡ Err r → First f a e r
    here_first a e l p = record { at = a; from = omega arith; to = l; here = p; before = λ i g m. absurd (omega arith) }

    later_first : (a e : ℕ) → f a ≡ Ok tt → First f (suc a) e r → First f a e r
    later_first a e p q =
        record {
          at = q.at;
          from = omega (arith, q.from);
          to = q.to;
          here = q.here;
          before = at_next (λ i. f i ≡ Ok tt) a q.at p q.before;
        }

    to_first : (n a : ℕ) → rest a n ≡ Err r → First f a (a + n) r
    to_first zero a p = absurd (never p)
    to_first (suc n) a p =
        ⊎_elim (here_first a (a + suc n) (omega arith))
        (λ c. later_first a (a + suc n) c.0 (subst (λ (e : ℕ). First f (suc a) e r) (omega arith) (to_first n (suc a) c.1)))
        ((then_refused _ _ r).0 p)

    from_first : (n a : ℕ) → First f a (a + n) r → rest a n ≡ Err r
    from_first zero a q = absurd (omega (arith, q.from, q.to))
    from_first (suc n) a q = (then_refused _ _ r).1 (go (ℕ_discrete a q.at) (from_first n (suc a)))
      where
        go : Dec (a ≡ q.at) → (First f (suc a) (suc a + n) r → rest (suc a) n ≡ Err r) →
            (f a ≡ Err r) ⊎ ((f a ≡ Ok tt) × (rest (suc a) n ≡ Err r))
        go (yes e) k = inl (ap f e ∙ q.here)
        go (no d) k =
            inr (
              q.before a (omega arith) (omega (arith, q.from)),
              k (record {
                at = q.at;
                from = omega (arith, q.from);
                to = omega (arith, q.to);
                here = q.here;
                before = λ i l m. q.before i (omega arith) m;
              }),
            )

    pub first_refused : (a e : ℕ) → (first_fault f a e ≡ Err r) ↔ First f a e r
    unfolding first_of over
    first_refused a e = (
      λ p. let q = to_first (e - a) a p in
          record { at = q.at; from = q.from; to = omega (arith, q.from, q.to); here = q.here; before = q.before },
      λ q. from_first (e - a) a
          (record { at = q.at; from = q.from; to = omega (arith, q.from, q.to); here = q.here; before = q.before }),
    )

  pub first_iff : (a e : ℕ) → (first_fault f a e ≡ Ok tt) ↔ ((i : ℕ) → a ≤ i → i < e → f i ≡ Ok tt)
  unfolding first_of over
  first_iff a e = (λ p i l m. (all_rest (e - a) a).0 p i l (omega arith), λ h. (all_rest (e - a) a).1 (λ i l m. h i l (omega arith)))

pub ruleset accepts = (rule_iff, then_iff, first_iff, within_iff, decides)

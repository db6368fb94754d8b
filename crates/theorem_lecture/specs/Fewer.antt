-- Two lists and a way from the entries of the one to those of the other that gives no two the same: the one is no longer than the other.
-- And so for the numbers of a range at which a test passes. Assumes nothing.
use Rattle.std.specs.Prelude.{◌≡◌, ◌≢◌, Bool}
use Rattle.std.proofs.Math.Path.{refl, ap}
use Rattle.std.proofs.Common.{sym, ◌∙◌, arith}
use Rattle.std.proofs.Math.Logic.{inl, inr}
use Rattle.std.proofs.Math.Bool.{true, false}
use mathlib.Core.List.{List, [], ◌∷◌}
use Prim.Native.Nat.{ℕ, zero, suc, ◌+◌, ◌≤◌, ◌<◌}
use Rattle.std.proofs.Math.ListN.{length}
use Rattle.laws.specs.Lists.{Each, Some, each_map, run, run_each, count_run}
use Rattle.laws.specs.Even.{count}
use Rattle.laws.specs.Range.{count_of, more}
use Rattle.laws.specs.Members.{some_run}
use Rattle.laws.specs.Rising.{Rising, rising_map}

module _ {A : Type 0} where
  -- x stands in the list
  abbrev pub In : A → List A → Type 0
  In x l = Some (λ y. y ≡ x) l

  -- the list without one entry
  without : (x : A) (l : List A) → In x l → List A
  without x [] p = elim p [ ]
  without x (y ∷ l) (inl e) = l
  without x (y ∷ l) (inr p) = y ∷ without x l p

  one_less : (x : A) (l : List A) (p : In x l) → suc (length (without x l p)) ≡ length l
  unfolding without
  one_less x [] p = elim p [ ]
  one_less x (y ∷ l) (inl e) = refl
  one_less x (y ∷ l) (inr p) = ap suc (one_less x l p)

  still_in : (x z : A) → z ≢ x → (l : List A) (p : In x l) → In z l → In z (without x l p)
  unfolding without
  still_in x z d [] p q = elim p [ ]
  still_in x z d (y ∷ l) (inl e) (inl f) = absurd (d (sym f ∙ e))
  still_in x z d (y ∷ l) (inl e) (inr q) = q
  still_in x z d (y ∷ l) (inr p) (inl f) = inl f
  still_in x z d (y ∷ l) (inr p) (inr q) = inr (still_in x z d l p q)

  pub no_more : (f : A → A) (l m : List A) → Rising (λ x y. f x ≢ f y) l → Each (λ x. In (f x) m) l → length l ≤ length m
  no_more f [] m r h = omega arith
  no_more f (x ∷ l) m r h =
      omega (arith, one_less (f x) m h.0, no_more f l (without (f x) m h.0) r.1 (both l r.0 h.1))
    where
      both : (l : List A) → Each (λ y. f x ≢ f y) l → Each (λ y. In (f y) m) l → Each (λ y. In (f y) (without (f x) m h.0)) l
      both [] a b = tt
      both (y ∷ l) a b = (still_in (f x) (f y) (λ e. a.0 (sym e)) m h.0 b.0, both l a.1 b.1)

-- ---- the entries at which a test passes

abbrev keep : Bool → ℕ → List ℕ → List ℕ
keep true i l = i ∷ l
keep false i l = l

picked : (ℕ → Bool) → List ℕ → List ℕ
picked p [] = []
picked p (i ∷ l) = keep (p i) i (picked p l)

module _ (p : ℕ → Bool) where
  count_picked : (l : List ℕ) → count p l ≡ length (picked p l)
  unfolding picked
  count_picked [] = refl
  count_picked (i ∷ l) = by (p i) (count_picked l)
    where
      by : (b : Bool) → count p l ≡ length (picked p l) → more b (count p l) ≡ length (keep b i (picked p l))
      by true e = ap suc e
      by false e = e

  in_picked : (i : ℕ) → p i ≡ true → (l : List ℕ) → In i l → In i (picked p l)
  unfolding picked
  in_picked i t [] h = elim h [ ]
  in_picked i t (j ∷ l) (inl e) = rw (ap p e ∙ t) (inl e)
  in_picked i t (j ∷ l) (inr h) = by (p j) (in_picked i t l h)
    where
      by : (b : Bool) → In i (picked p l) → In i (keep b j (picked p l))
      by true k = inr k
      by false k = k

  each_picked : (P : ℕ → Type 0) (l : List ℕ) → Each P l → Each (λ i. P i × (p i ≡ true)) (picked p l)
  unfolding picked
  each_picked P [] h = tt
  each_picked P (i ∷ l) h = by (p i) refl (each_picked P l h.1)
    where
      by : (b : Bool) → p i ≡ b → Each (λ i. P i × (p i ≡ true)) (picked p l) → Each (λ i. P i × (p i ≡ true)) (keep b i (picked p l))
      by true e k = ((h.0, e), k)
      by false e k = k

  rising_picked : (R : ℕ → ℕ → Type 0) (l : List ℕ) → Rising R l → Rising R (picked p l)
  unfolding picked
  rising_picked R [] h = tt
  rising_picked R (i ∷ l) h = by (p i) (rising_picked R l h.1)
    where
      by : (b : Bool) → Rising R (picked p l) → Rising R (keep b i (picked p l))
      by true k = (each_map (λ j x. x.0) (picked p l) (each_picked (R i) l h.0), k)
      by false k = k

run_rising : (k n : ℕ) → Rising ◌<◌ (run (λ i. i) k n)
run_rising k zero = tt
run_rising k (suc n) = (run_each (λ i. k < i) (λ i. i) (suc k) n (λ i a b. omega arith), run_rising (suc k) n)

module _ (p q : ℕ → Bool) (a n : ℕ) (to back : ℕ → ℕ) where
  abbrev Here : ℕ → Type 0
  Here i = (a ≤ i) × (i < a + n)

  pub fewer : ((i : ℕ) → Here i → Here (to i)) → ((i : ℕ) → Here i → back (to i) ≡ i) → ((i : ℕ) → Here i → q (to i) ≡ p i) →
      count_of p a (a + n) ≤ count_of q a (a + n)
  fewer into inverse same =
      let l : List ℕ = run (λ i. i) a n in
      let here : Each Here l = run_each Here (λ i. i) a n (λ i b c. (b, c)) in
      let told = each_picked p Here l here in
      let e = count_run (λ (i : ℕ). i) p p a (a + n) n (omega arith) (λ i. refl) in
      let f = count_run (λ (i : ℕ). i) q q a (a + n) n (omega arith) (λ i. refl) in
      omega (
        arith,
        e,
        f,
        count_picked p l,
        count_picked q l,
        no_more to (picked p l) (picked q l)
            (rising_map ◌<◌ (λ i j. to i ≢ to j) Here
            (λ i j x y less z. let w : i ≡ j = sym (inverse i x) ∙ ap back z ∙ inverse j y in omega arith) (picked p l)
            (each_map (λ i x. x.0) (picked p l) told) (rising_picked p ◌<◌ l (run_rising a n)))
            (each_map (λ i x. in_picked q (to i) (same i x.0 ∙ x.1) l
            ((some_run (λ j. j ≡ to i) (λ j. j) a n).1 (to i, into i x.0, refl))) (picked p l) told),
      )

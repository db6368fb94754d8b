-- Folds over the numbers from a up to, and without, e: what a counting loop computes. The first answer that stops (`first_of`), whether a
-- test passes (`any_of`), how often (`count_of`) and the lowest number at which it does (`lowest_of`) are instances; each has a law for the
-- loop's end and for a turn, in the form "the rest equals the whole". Assumes nothing.
use Prim.Native.Nat.{ℕ, zero, suc, ◌+◌, ◌-◌, ◌<◌, ◌≤◌}
use Rattle.std.specs.Prelude.{◌≡◌, refl, ◌≢◌, Bool, true, ◌||◌}
use Rattle.std.proofs.Math.Path.{sym, ap}
use Rattle.std.proofs.Common.{◌∙◌, true≢false, rules}
use Rattle.std.proofs.Math.Bool.{false, cond, or-false}
use native.Mathlib.Omega.{arith}

module _ {A : Type 0} where
  -- n numbers from k on
  abbrev pub fold : (ℕ → A → A) → A → ℕ → ℕ → A
  fold g z k zero = z
  fold g z k (suc n) = g k (fold g z (suc k) n)

  unfoldable pub over : (ℕ → A → A) → A → ℕ → ℕ → A
  over g z a e = fold g z a (e - a)

  -- the two laws of a loop: past the end, and one turn
  pub over_stop : (g : ℕ → A → A) (z : A) (a e : ℕ) → e ≤ a → over g z a e ≡ z
  unfolding over
  over_stop g z a e h = ap (fold g z a) (none e a h)
    where
      none : (e a : ℕ) → e ≤ a → e - a ≡ 0
      none e a h = omega arith

  pub over_step : (g : ℕ → A → A) (z : A) (a e : ℕ) → a < e → over g z a e ≡ g a (over g z (a + 1) e)
  unfolding over
  over_step g z a e h =
      ap (fold g z a) (more e a h) ∙ ap (λ (k : ℕ). g a (fold g z k (e - (a + 1)))) (up a)
    where
      more : (e a : ℕ) → a < e → e - a ≡ suc (e - (a + 1))
      more e a h = omega arith

      up : (a : ℕ) → suc a ≡ a + 1
      up a = omega arith

-- ---- the first answer of f that is not z, where z hands on to what comes after it

module _ {A : Type 0} (z : A) (then : A → A → A) where
  unfoldable pub first_of : (ℕ → A) → ℕ → ℕ → A
  first_of f = over (λ k rest. then (f k) rest) z

  module _ (f : ℕ → A) (i e : ℕ) {w : A} (inv : first_of f i e ≡ w) where
    pub first_end : e ≤ i → z ≡ w
    unfolding first_of
    first_end h = sym (over_stop (λ k rest. then (f k) rest) z i e h) ∙ inv

    pub first_turn : {o : A} → i < e → o ≡ f i → then o (first_of f (i + 1) e) ≡ w
    unfolding first_of
    first_turn {o} h p =
        ap (λ (j : A). then j (first_of f (i + 1) e)) p ∙ sym (over_step (λ k rest. then (f k) rest) z i e h) ∙ inv

-- ---- whether p passes

unfoldable pub any_of : (ℕ → Bool) → ℕ → ℕ → Bool
any_of p = over (λ k rest. p k || rest) false

module _ (f : ℕ → Bool) (i e : ℕ) {w : Bool} (inv : any_of f i e ≡ w) where
  pub any_end : e ≤ i → false ≡ w
  unfolding any_of
  any_end h = sym (over_stop (λ k rest. f k || rest) false i e h) ∙ inv

  any_turn : {o : Bool} → i < e → o ≡ f i → (o || any_of f (i + 1) e) ≡ w
  unfolding any_of
  any_turn {o} h p =
      ap (λ (j : Bool). j || any_of f (i + 1) e) p ∙ sym (over_step (λ k rest. f k || rest) false i e h) ∙ inv

  pub any_found : {o : Bool} → i < e → o ≡ f i → o ≡ true → true ≡ w
  any_found h p q = ap (λ (j : Bool). j || any_of f (i + 1) e) (sym q) ∙ any_turn h p

  pub any_next : {o : Bool} → i < e → o ≡ f i → o ≡ false → any_of f (i + 1) e ≡ w
  any_next h p q = ap (λ (j : Bool). j || any_of f (i + 1) e) (sym q) ∙ any_turn h p

any_last : (p : ℕ → Bool) (a n : ℕ) → fold (λ k rest. p k || rest) false a (suc n) ≡ (fold (λ k rest. p k || rest) false a n || p (a + n))
any_last p a zero = or-false (p a) ∙ ap p (omega arith)
any_last p a (suc n) =
    ap (λ (b : Bool). p a || b) (any_last p (suc a) n ∙ ap (λ (k : ℕ). fold (λ k rest. p k || rest) false (suc a) n || p k) (omega arith))
    ∙ regroup (p a) _ _
  where
    regroup : (a b c : Bool) → (a || (b || c)) ≡ ((a || b) || c)
    regroup true b c = refl
    regroup false b c = refl

-- the numbers from a up to i, and the next one
pub any_more : (p : ℕ → Bool) (a i : ℕ) → a ≤ i → any_of p a (i + 1) ≡ (any_of p a i || p i)
unfolding any_of over
any_more p a i h =
    let e : i + 1 - a ≡ suc (i - a) = omega arith in
    let f : a + (i - a) ≡ i = omega arith in
    rw e (any_last p a (i - a) ∙ ap (λ (k : ℕ). fold (λ k rest. p k || rest) false a (i - a) || p k) f)

-- ---- how often p passes

abbrev pub more : Bool → ℕ → ℕ
more true n = suc n
more false n = n

unfoldable pub count_of : (ℕ → Bool) → ℕ → ℕ → ℕ
count_of p = over (λ k rest. more (p k) rest) 0

more_swap : (a b : Bool) (n : ℕ) → more a (more b n) ≡ more b (more a n)
more_swap true true n = refl
more_swap true false n = refl
more_swap false b n = refl

count_last : (p : ℕ → Bool) (a n : ℕ) →
    fold (λ k rest. more (p k) rest) 0 a (suc n) ≡ more (p (a + n)) (fold (λ k rest. more (p k) rest) 0 a n)
count_last p a zero = ap (λ (k : ℕ). more (p k) 0) (omega arith)
count_last p a (suc n) =
    ap (more (p a)) (count_last p (suc a) n ∙ ap (λ (k : ℕ). more (p k) (fold (λ k rest. more (p k) rest) 0 (suc a) n)) (omega arith))
    ∙ more_swap (p a) (p (a + suc n)) _

pub count_more : (p : ℕ → Bool) (a i : ℕ) → a ≤ i → count_of p a (i + 1) ≡ more (p i) (count_of p a i)
unfolding count_of over
count_more p a i h =
    let e : i + 1 - a ≡ suc (i - a) = omega arith in
    let f : a + (i - a) ≡ i = omega arith in
    rw e (count_last p a (i - a) ∙ ap (λ (k : ℕ). more (p k) (fold (λ k rest. more (p k) rest) 0 a (i - a))) f)

-- n counted so far, and w in the end
module _ (f : ℕ → Bool) (i e n : ℕ) {w : ℕ} (inv : n + count_of f i e ≡ w) where
  pub count_end : e ≤ i → n ≡ w
  unfolding count_of
  count_end h = omega (arith, over_stop (λ k rest. more (f k) rest) 0 i e h)

  count_turn : {o : Bool} → i < e → o ≡ f i → n + more o (count_of f (i + 1) e) ≡ w
  unfolding count_of
  count_turn {o} h p =
      ap (λ (j : Bool). n + more j (count_of f (i + 1) e)) p
      ∙ sym (ap (λ (k : ℕ). n + k) (over_step (λ k rest. more (f k) rest) 0 i e h)) ∙ inv

  pub count_one : {o : Bool} {m : ℕ} → i < e → o ≡ f i → o ≡ true → m ≡ n + 1 → m + count_of f (i + 1) e ≡ w
  count_one h p q k =
      let t : n + more true (count_of f (i + 1) e) ≡ w = ap (λ (j : Bool). n + more j (count_of f (i + 1) e)) (sym q) ∙ count_turn h p in
      omega arith

  pub count_none : {o : Bool} {m : ℕ} → i < e → o ≡ f i → o ≡ false → m ≡ n → m + count_of f (i + 1) e ≡ w
  count_none h p q k =
      let t : n + more false (count_of f (i + 1) e) ≡ w = ap (λ (j : Bool). n + more j (count_of f (i + 1) e)) (sym q) ∙ count_turn h p in
      omega arith

-- ---- the lowest number at which p passes, e where it passes nowhere

unfoldable pub lowest_of : (ℕ → Bool) → ℕ → ℕ → ℕ
lowest_of p a e = over (λ k rest. cond (p k) k rest) e a e

module _ (f : ℕ → Bool) (i e : ℕ) {w : ℕ} (inv : lowest_of f i e ≡ w) where
  pub lowest_end : e ≤ i → e ≡ w
  unfolding lowest_of
  lowest_end h = sym (over_stop (λ k rest. cond (f k) k rest) e i e h) ∙ inv

  lowest_turn : {o : Bool} → i < e → o ≡ f i → cond o i (lowest_of f (i + 1) e) ≡ w
  unfolding lowest_of
  lowest_turn {o} h p =
      ap (λ (j : Bool). cond j i (lowest_of f (i + 1) e)) p ∙ sym (over_step (λ k rest. cond (f k) k rest) e i e h) ∙ inv

  pub lowest_found : {o : Bool} → i < e → o ≡ f i → o ≡ true → i ≡ w
  lowest_found h p q = ap (λ (j : Bool). cond j i (lowest_of f (i + 1) e)) (sym q) ∙ lowest_turn h p

  pub lowest_next : {o : Bool} → i < e → o ≡ f i → o ≡ false → lowest_of f (i + 1) e ≡ w
  lowest_next h p q = ap (λ (j : Bool). cond j i (lowest_of f (i + 1) e)) (sym q) ∙ lowest_turn h p

-- where it passes at h, it passes at the lowest, which is at most h
pub record Lowest (p : ℕ → Bool) (a h l : ℕ) : Type 0 where
  pub passes : p l ≡ true
  pub from : a ≤ l
  pub upto : l ≤ h

lowest_fold : (p : ℕ → Bool) (z a n h : ℕ) → p h ≡ true → a ≤ h → h < a + n → Lowest p a h (fold (λ k rest. cond (p k) k rest) z a n)
lowest_fold p z a zero h t l m = absurd (omega arith)
lowest_fold p z a (suc n) h t l m = go (p a) refl (lowest_fold p z (suc a) n h t)
  where
    go : (b : Bool) → p a ≡ b → (suc a ≤ h → h < suc a + n → Lowest p (suc a) h (fold (λ k rest. cond (p k) k rest) z (suc a) n)) →
        Lowest p a h (cond b a (fold (λ k rest. cond (p k) k rest) z (suc a) n))
    go true e r = record { passes = e; from = omega arith; upto = l }
    go false e r =
        let d : a ≢ h = λ q. true≢false (sym t ∙ ap p (sym q) ∙ e) in
        let x = r (omega arith) (omega arith) in
        record { passes = x.passes; from = omega arith; upto = x.upto }

pub lowest_passes : (p : ℕ → Bool) (a e h : ℕ) → p h ≡ true → a ≤ h → h < e → Lowest p a h (lowest_of p a e)
unfolding lowest_of over
lowest_passes p a e h t l m = lowest_fold p e a (e - a) h t l (omega arith)

-- ---- two folds that agree at each number from a up to e

module _ {A : Type 0} (g h : ℕ → A → A) (z : A) where
  fold_same : (a n : ℕ) → ((k : ℕ) → a ≤ k → k < a + n → (r : A) → g k r ≡ h k r) → fold g z a n ≡ fold h z a n
  fold_same a zero e = refl
  fold_same a (suc n) e =
      ap (g a) (fold_same (suc a) n (λ k l m. e k (omega arith) (omega arith))) ∙ e a (omega arith) (omega arith) (fold h z (suc a) n)

  pub over_same : (a e : ℕ) → ((k : ℕ) → a ≤ k → k < e → (r : A) → g k r ≡ h k r) → over g z a e ≡ over h z a e
  unfolding over
  over_same a e s = fold_same a (e - a) (λ k l m. s k l (omega arith))

module _ (p q : ℕ → Bool) (a e : ℕ) (same : (k : ℕ) → a ≤ k → k < e → p k ≡ q k) where
  pub count_same : count_of p a e ≡ count_of q a e
  unfolding count_of
  count_same = over_same (λ k rest. more (p k) rest) (λ k rest. more (q k) rest) 0 a e (λ k l m r. ap (λ (b : Bool). more b r) (same k l m))

  pub lowest_same : lowest_of p a e ≡ lowest_of q a e
  unfolding lowest_of
  lowest_same =
      over_same (λ k rest. cond (p k) k rest) (λ k rest. cond (q k) k rest) e a e (λ k l m r. ap (λ (b : Bool). cond b k r) (same k l m))

-- what a loop's needs are searched with
pub ruleset loops = (any_end, any_found, any_next, count_end, count_one, count_none, lowest_end, lowest_found, lowest_next, rules)

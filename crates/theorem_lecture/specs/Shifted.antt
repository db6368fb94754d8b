-- Two tests that agree, one at the numbers from a on and the other at as many from b on: both pass as often, and the lowest at which they
-- do is as far on. Assumes nothing.
use Rattle.std.specs.Prelude.{◌≡◌, refl, Bool, true, cond, ◌||◌, ℕ, zero, suc, ◌+◌, ◌-◌, ◌≤◌, ◌<◌}
use Rattle.std.proofs.Math.Path.{ap}
use Rattle.std.proofs.Common.{◌∙◌, arith}
use Rattle.std.proofs.Math.Bool.{false}
use Rattle.laws.specs.Range.{fold, over, more, any_of, count_of, lowest_of}

module _ {A : Type 0} (g h : ℕ → A → A) (z : A) where
  fold_shifted : (n a b : ℕ) → ((i : ℕ) → i < n → (r : A) → g (a + i) r ≡ h (b + i) r) → fold g z a n ≡ fold h z b n
  fold_shifted zero a b e = refl
  fold_shifted (suc n) a b e =
      ap (g a) (fold_shifted n (suc a) (suc b) (λ i l r. at g (omega arith) r ∙ e (suc i) (omega arith) r ∙ at h (omega arith) r))
      ∙ at g (omega arith) (fold h z (suc b) n) ∙ e 0 (omega arith) (fold h z (suc b) n) ∙ at h (omega arith) (fold h z (suc b) n)
    where
      at : (f : ℕ → A → A) {i j : ℕ} → i ≡ j → (r : A) → f i r ≡ f j r
      at f e r = ap (λ (k : ℕ). f k r) e

-- the lowest numbers are x and y apart, as the first numbers are, and as what stands for none
lowest_fold : (p q : ℕ → Bool) (x y v w n a b : ℕ) → v + y ≡ w + x → a + y ≡ b + x → ((i : ℕ) → i < n → p (a + i) ≡ q (b + i)) →
    fold (λ k rest. cond (p k) k rest) v a n + y ≡ fold (λ k rest. cond (q k) k rest) w b n + x
lowest_fold p q x y v w zero a b d e h = d
lowest_fold p q x y v w (suc n) a b d e h =
    by (p a) (q b) (ap p (omega arith) ∙ h 0 (omega arith) ∙ ap q (omega arith)) _ _
    (lowest_fold p q x y v w n (suc a) (suc b) d (omega arith) (λ i l. ap p (omega arith) ∙ h (suc i) (omega arith) ∙ ap q (omega arith)))
  where
    by : (s t : Bool) → s ≡ t → (l m : ℕ) → l + y ≡ m + x → cond s a l + y ≡ cond t b m + x
    by true true o l m r = e
    by false false o l m r = r
    by true false o l m r = cc
    by false true o l m r = cc

-- no number before the first is found
from_fold : (p : ℕ → Bool) (z n a : ℕ) → a + n ≤ z → a ≤ fold (λ k rest. cond (p k) k rest) z a n
from_fold p z zero a h = omega arith
from_fold p z (suc n) a h = by (p a) (from_fold p z n (suc a) (omega arith))
  where
    by : (t : Bool) {l : ℕ} → suc a ≤ l → a ≤ cond t a l
    by true k = omega arith
    by false k = omega arith

pub lowest_from : (p : ℕ → Bool) (a n : ℕ) → a ≤ lowest_of p a (a + n)
unfolding lowest_of over
lowest_from p a n = let e : a + n - a ≡ n = omega arith in rw e (from_fold p (a + n) n a (omega arith))

module _ (p q : ℕ → Bool) (a b m n : ℕ) (long : m ≡ n) (same : (i : ℕ) → i < n → p (a + i) ≡ q (b + i)) where
  long_a : a + m - a ≡ n
  long_a = omega arith

  long_b : b + n - b ≡ n
  long_b = omega arith

  pub any_shifted : any_of p a (a + m) ≡ any_of q b (b + n)
  unfolding any_of over
  any_shifted =
      rw (long_a, long_b)
      (fold_shifted (λ k rest. p k || rest) (λ k rest. q k || rest) false n a b (λ i l r. ap (λ (t : Bool). t || r) (same i l)))

  pub count_shifted : count_of p a (a + m) ≡ count_of q b (b + n)
  unfolding count_of over
  count_shifted =
      rw (long_a, long_b)
      (fold_shifted (λ k rest. more (p k) rest) (λ k rest. more (q k) rest) 0 n a b (λ i l r. ap (λ (t : Bool). more t r) (same i l)))

  pub lowest_shifted : lowest_of p a (a + m) + b ≡ lowest_of q b (b + n) + a
  unfolding lowest_of over
  lowest_shifted = rw (long_a, long_b) (lowest_fold p q a b (a + m) (b + n) n a b (omega arith) (omega arith) same)

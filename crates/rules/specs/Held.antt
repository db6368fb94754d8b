-- A list of bytes that stands in another at a place: joined, split, and read. Assumes nothing.
use Rattle.std.specs.Prelude.{◌≡◌, get_or}
use Rattle.std.proofs.Math.Path.{refl, ap, ap₂}
use Rattle.std.proofs.Common.{sym, ◌∙◌, subst}
use mathlib.Core.List.{List, [], ◌∷◌, ◌++◌, flat_map}
use Prim.Native.Nat.{ℕ, zero, suc, ◌+◌, ◌*◌, ◌≤◌, ◌<◌}
use native.Mathlib.Omega.{arith}
use Rattle.std.proofs.Math.Decide.{ℕ_discrete}
use Rattle.std.proofs.Math.ListN.{length, length-append}
use Rattle.laws.specs.Lists.{Each, run}
use Rattle.scene.specs.Bytes.{byte_at}

abbrev From : List ℕ → ℕ → List ℕ → Type 0
From s k [] = Unit {0}
From s k (x ∷ l) = (byte_at s k ≡ x) × From s (suc k) l

-- the bytes of s from k on are those of l, as long as l is
pub record Held (s : List ℕ) (k : ℕ) (l : List ℕ) : Type 0 where
  pub from : From s k l

from_join : (s : List ℕ) (k m : ℕ) (l r : List ℕ) → From s k l → m ≡ k + length l → From s m r → From s k (l ++ r)
from_join s k m [] r h e g = subst (λ (k : ℕ). From s k r) (omega arith) g
from_join s k m (x ∷ l) r h e g = (h.0, from_join s (suc k) m l r h.1 (omega arith) g)

from_left : (s : List ℕ) (k : ℕ) (l r : List ℕ) → From s k (l ++ r) → From s k l
from_left s k [] r h = tt
from_left s k (x ∷ l) r h = (h.0, from_left s (suc k) l r h.1)

from_right : (s : List ℕ) (k m : ℕ) (l r : List ℕ) → m ≡ k + length l → From s k (l ++ r) → From s m r
from_right s k m [] r e h = subst (λ (k : ℕ). From s k r) (omega arith) h
from_right s k m (x ∷ l) r e h = from_right s (suc k) m l r (omega arith) h.1

from_at : (s : List ℕ) (k : ℕ) (l : List ℕ) → From s k l → (i : ℕ) → i < length l → byte_at s (k + i) ≡ get_or l i 0
from_at s k [] h i b = absurd (omega arith)
from_at s k (x ∷ l) h zero b = ap (byte_at s) (omega arith) ∙ h.0
from_at s k (x ∷ l) h (suc i) b = ap (byte_at s) (omega arith) ∙ from_at s (suc k) l h.1 i (omega arith)

from_next : (x : ℕ) (s : List ℕ) (k : ℕ) (l : List ℕ) → From (x ∷ s) (suc k) l → From s k l
from_next x s k [] h = tt
from_next x s k (y ∷ l) h = (h.0, from_next x s (suc k) l h.1)

from_self : (s : List ℕ) → From s 0 s
from_self s = by_tail s s 0 (λ i. ap (byte_at s) (omega arith))
  where
    by_tail : (s l : List ℕ) (k : ℕ) → ((i : ℕ) → byte_at s (k + i) ≡ get_or l i 0) → From s k l
    by_tail s [] k h = tt
    by_tail s (x ∷ l) k h = (ap (byte_at s) (omega arith) ∙ h 0, by_tail s l (suc k) (λ i. ap (byte_at s) (omega arith) ∙ h (suc i)))

from_whole : (s l : List ℕ) → length s ≡ length l → From s 0 l → s ≡ l
from_whole [] [] e h = refl
from_whole [] (x ∷ l) e h = absurd (omega arith)
from_whole (x ∷ s) [] e h = absurd (omega arith)
from_whole (x ∷ s) (y ∷ l) e h = ap₂ ◌∷◌ h.0 (from_whole s l (omega arith) (from_next x s 0 l h.1))

module _ {s : List ℕ} {k : ℕ} {l r : List ℕ} where
  pub join : {m : ℕ} → Held s k l → m ≡ k + length l → Held s m r → Held s k (l ++ r)
  join h e g = record { from = from_join s k _ l r h.from e g.from }

module _ {s : List ℕ} {k : ℕ} (l r : List ℕ) where
  pub left : Held s k (l ++ r) → Held s k l
  left h = record { from = from_left s k l r h.from }

  pub right : {m : ℕ} → m ≡ k + length l → Held s k (l ++ r) → Held s m r
  right e h = record { from = from_right s k _ l r e h.from }

module _ {s l : List ℕ} where
  pub byte_of : {k : ℕ} → Held s k l → (m i : ℕ) → m ≡ k + i → i < length l → byte_at s m ≡ get_or l i 0
  byte_of {k} h m i e b = ap (byte_at s) e ∙ from_at s k l h.from i b

  pub whole : length s ≡ length l → Held s 0 l → s ≡ l
  whole e h = from_whole s l e h.from

pub itself : (s : List ℕ) → Held s 0 s
itself s = record { from = from_self s }

-- ---- records of one length, one after another, the i-th at `place i`

module _ {A : Type 0} (f : A → List ℕ) (c : ℕ) (long : (x : A) → length (f x) ≡ c) where
  pub length_all : (xs : List A) → length (flat_map f xs) ≡ length xs * c
  unfolding flat_map
  length_all [] = omega arith
  length_all (x ∷ xs) = length-append (f x) (flat_map f xs) ∙ omega (arith, long x, length_all xs)

  module _ (s : List ℕ) (place : ℕ → ℕ) (step : (i : ℕ) → place (suc i) ≡ place i + c) where
    pub all_held : (g : ℕ → A) (k n : ℕ) → ((i : ℕ) → k ≤ i → i < k + n → Held s (place i) (f (g i))) →
        Held s (place k) (flat_map f (run g k n))
    unfolding flat_map
    all_held g k zero h = record { from = tt }
    all_held g k (suc n) h =
        join (h k (omega arith) (omega arith)) (step k ∙ ap (λ (n : ℕ). place k + n) (sym (long (g k))))
        (all_held g (suc k) n (λ i a b. h i (omega arith) (omega arith)))

    -- what each record reads as
    pub all_read : (P : A → Type 0) (g : ℕ → A) → ((i : ℕ) (x : A) → P x → Held s (place i) (f x) → g i ≡ x) →
        (xs : List A) (k : ℕ) → Each P xs → Held s (place k) (flat_map f xs) → run g k (length xs) ≡ xs
    unfolding flat_map
    all_read P g r [] k h l = refl
    all_read P g r (x ∷ xs) k h l =
        ap₂ ◌∷◌ (r k x h.0 (left (f x) (flat_map f xs) l))
        (all_read P g r xs (suc k) h.1 (right (f x) (flat_map f xs) (step k ∙ ap (λ (n : ℕ). place k + n) (sym (long x))) l))

    -- what each record gives at its place
    pub all_give : (Q : ℕ → Type 0) → ((i : ℕ) (x : A) → Held s (place i) (f x) → Q i) →
        (xs : List A) (k : ℕ) → Held s (place k) (flat_map f xs) → (i : ℕ) → k ≤ i → i < k + length xs → Q i
    unfolding flat_map
    all_give Q r [] k l i a b = absurd (omega arith)
    all_give Q r (x ∷ xs) k l i a b =
        go (ℕ_discrete k i) (r k x (left (f x) (flat_map f xs) l))
        (all_give Q r xs (suc k) (right (f x) (flat_map f xs) (step k ∙ ap (λ (n : ℕ). place k + n) (sym (long x))) l) i)
      where
        go : Dec (k ≡ i) → Q k → (suc k ≤ i → i < suc k + length xs → Q i) → Q i
        go (yes e) q r = rw (← e) q
        go (no n) q r = r (omega arith) (omega arith)

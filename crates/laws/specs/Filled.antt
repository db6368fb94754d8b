-- A table after a loop's stores: entry i is what was stored there, and the others are as they were. Assumes nothing.
use Rattle.std.specs.Prelude.{◌≡◌, length}
use Rattle.std.proofs.Math.Path.{refl, ap, ap₂}
use Rattle.std.proofs.Common.{sym, ◌∙◌, add-one, arith}
use mathlib.Core.List.{List}
use Prim.Native.Nat.{ℕ, zero, suc, ◌+◌, ◌<◌, ◌≤◌}
use Rattle.std.proofs.Math.Decide.{dec_lt, ℕ_discrete}

-- a table after a loop that stores g i at i for each i below n
module _ {A B : Type 0} (put : List A → ℕ → B → List A) where
  unfoldable pub filled : (ℕ → B) → ℕ → List A → List A
  filled g zero l = l
  filled g (suc n) l = put (filled g n l) n (g n)

  pub filled_more : (g : ℕ → B) (n : ℕ) (l : List A) {m : List A} {p : B} → m ≡ filled g n l → p ≡ g n → put m n p ≡ filled g (n + 1) l
  unfolding filled
  filled_more g n l hm hp = ap₂ (λ (x : List A) (y : B). put x n y) hm hp ∙ ap (λ (k : ℕ). filled g k l) (sym (add-one n))

  -- where a store keeps the length, and an entry is what was stored last at its own number
  module _ (look : List A → ℕ → B) (room : ℕ → ℕ → Type 0)
      (keeps : (l : List A) (i : ℕ) (p : B) → length (put l i p) ≡ length l)
      (same : (l : List A) (i : ℕ) (p : B) → room i (length l) → look (put l i p) i ≡ p)
      (other : (l : List A) (i j : ℕ) (p : B) → (j ≡ i → ⊥) → look (put l i p) j ≡ look l j) where
    filled_length : (g : ℕ → B) (n : ℕ) (l : List A) → length (filled g n l) ≡ length l
    unfolding filled
    filled_length g zero l = refl
    filled_length g (suc n) l = keeps (filled g n l) n (g n) ∙ filled_length g n l

    pub filled_beyond : (g : ℕ → B) (n : ℕ) (l : List A) (j : ℕ) → n ≤ j → look (filled g n l) j ≡ look l j
    unfolding filled
    filled_beyond g zero l j h = refl
    filled_beyond g (suc n) l j h = other (filled g n l) n j (g n) (omega arith) ∙ filled_beyond g n l j (omega arith)

    pub filled_at : (g : ℕ → B) (n : ℕ) (l : List A) → ((i : ℕ) → i < n → room i (length l)) → (j : ℕ) → j < n → look (filled g n l) j ≡ g j
    unfolding filled
    filled_at g zero l r j h = absurd (omega arith)
    filled_at g (suc n) l r j h = go (ℕ_discrete j n) (filled_at g n l (λ i b. r i (omega arith)) j)
      where
        go : Dec (j ≡ n) → (j < n → look (filled g n l) j ≡ g j) → look (filled g (suc n) l) j ≡ g j
        go (yes e) before =
            ap (look (put (filled g n l) n (g n))) e
            ∙ same (filled g n l) n (g n) (rw (filled_length g n l) (r n (omega arith))) ∙ ap g (sym e)
        go (no d) before = other (filled g n l) n j (g n) d ∙ before (omega arith)

    -- so at every number, where g is beyond n what the table held at first
    pub filled_is : (g : ℕ → B) (n : ℕ) (l : List A) → ((i : ℕ) → i < n → room i (length l)) → ((j : ℕ) → n ≤ j → look l j ≡ g j) →
        look (filled g n l) ≡ g
    filled_is g n l r z = λ i j. every j i
      where
        every : (j : ℕ) → look (filled g n l) j ≡ g j
        every j = go (dec_lt j n)
          where
            go : Dec (j < n) → look (filled g n l) j ≡ g j
            go (yes h) = filled_at g n l r j h
            go (no h) = filled_beyond g n l j (omega arith) ∙ z j (omega arith)

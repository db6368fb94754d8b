-- Four bytes written are read back, and the other counts are as they were. Assumes nothing.
use Rattle.std.specs.Prelude.{◌≡◌, refl, ◌⊎◌, List, ℕ, ◌+◌, ◌*◌, ◌/◌, ◌%◌, ◌≤◌, ◌<◌, length, get_or, set}
use Rattle.std.proofs.Common.{sym, ◌∙◌, inl, inr, arith, length-set, get_or-set_same, get_or-set_other}
use Rattle.std.proofs.Math.Nat.{div-div-eq-div-mul}
use Rattle.light.specs.Light.{word, put}

-- a number below 2 ^ 32 is its four bytes
digits : (n a b c : ℕ) → a ≡ n / 256 → b ≡ a / 256 → c ≡ b / 256 → n < 4294967296 →
    n % 256 + 256 * (a % 256) + 65536 * (b % 256) + 16777216 * (c % 256) ≡ n
digits n a b c p q r h = omega arith

bytes : (n : ℕ) → n < 4294967296 → n % 256 + 256 * (n / 256 % 256) + 65536 * (n / 65536 % 256) + 16777216 * (n / 16777216 % 256) ≡ n
bytes n h =
    digits n (n / 256) (n / 65536) (n / 16777216) refl (sym (div-div-eq-div-mul n 256 256)) (sym (div-div-eq-div-mul n 65536 256)) h

module _ (l : List ℕ) (i n : ℕ) where
  abbrev a : List ℕ
  a = set l i (n % 256)

  abbrev b : List ℕ
  b = set a (i + 1) (n / 256 % 256)

  abbrev c : List ℕ
  c = set b (i + 2) (n / 65536 % 256)

  elsewhere : (j : ℕ) → (j ≡ i → ⊥) → (j ≡ i + 1 → ⊥) → (j ≡ i + 2 → ⊥) → (j ≡ i + 3 → ⊥) → get_or (put l i n) j 0 ≡ get_or l j 0
  elsewhere j p q r s =
      get_or-set_other c (i + 3) j (n / 16777216 % 256) 0 s
      ∙ get_or-set_other b (i + 2) j (n / 65536 % 256) 0 r
      ∙ get_or-set_other a (i + 1) j (n / 256 % 256) 0 q
      ∙ get_or-set_other l i j (n % 256) 0 p

  pub put_length : length (put l i n) ≡ length l
  put_length = simp length-set

  pub word_put : i + 4 ≤ length l → n < 4294967296 → word (put l i n) i ≡ n
  word_put h m =
      let b0 : get_or (put l i n) i 0 ≡ n % 256 =
      get_or-set_other c (i + 3) i (n / 16777216 % 256) 0 (λ e. omega arith)
      ∙ get_or-set_other b (i + 2) i (n / 65536 % 256) 0 (λ e. omega arith)
      ∙ get_or-set_other a (i + 1) i (n / 256 % 256) 0 (λ e. omega arith)
      ∙ get_or-set_same l i (n % 256) 0 (omega arith) in
      let b1 : get_or (put l i n) (i + 1) 0 ≡ n / 256 % 256 =
      get_or-set_other c (i + 3) (i + 1) (n / 16777216 % 256) 0 (λ e. omega arith)
      ∙ get_or-set_other b (i + 2) (i + 1) (n / 65536 % 256) 0 (λ e. omega arith)
      ∙ get_or-set_same a (i + 1) (n / 256 % 256) 0 (simp length-set (omega arith)) in
      let b2 : get_or (put l i n) (i + 2) 0 ≡ n / 65536 % 256 =
      get_or-set_other c (i + 3) (i + 2) (n / 16777216 % 256) 0 (λ e. omega arith)
      ∙ get_or-set_same b (i + 2) (n / 65536 % 256) 0 (simp length-set (omega arith)) in
      let b3 : get_or (put l i n) (i + 3) 0 ≡ n / 16777216 % 256 =
      get_or-set_same c (i + 3) (n / 16777216 % 256) 0 (simp length-set (omega arith)) in
      omega (arith, bytes n m)

  module _ (j : ℕ) (far : (m : ℕ) → m < 4 → (j + m ≡ i → ⊥) × (j + m ≡ i + 1 → ⊥) × (j + m ≡ i + 2 → ⊥) × (j + m ≡ i + 3 → ⊥)) where
    same : (m k : ℕ) → k ≡ j + m → m < 4 → get_or (put l i n) k 0 ≡ get_or l k 0
    same m k e h =
        let f = far m h in elsewhere k (λ p. f.0 (sym e ∙ p)) (λ p. f.1 (sym e ∙ p)) (λ p. f.2 (sym e ∙ p)) (λ p. f.3 (sym e ∙ p))

    untouched : word (put l i n) j ≡ word l j
    untouched =
        let b0 = same 0 j (omega arith) (omega arith) in
        let b1 = same 1 (j + 1) refl (omega arith) in
        let b2 = same 2 (j + 2) refl (omega arith) in
        let b3 = same 3 (j + 3) refl (omega arith) in
        omega arith

  pub word_other : (j : ℕ) → (j + 4 ≤ i) ⊎ (i + 4 ≤ j) → word (put l i n) j ≡ word l j
  word_other j (inl h) = untouched j (λ m g. (λ e. omega arith, λ e. omega arith, λ e. omega arith, λ e. omega arith))
  word_other j (inr h) = untouched j (λ m g. (λ e. omega arith, λ e. omega arith, λ e. omega arith, λ e. omega arith))

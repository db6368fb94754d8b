-- Laws of decimals: how one is made, its length, its bytes, and that it reads back. Assumes nothing.
use Rattle.std.specs.Prelude.{ℕ, zero, suc, ◌+◌, ◌-◌, ◌*◌, ◌/◌, ◌%◌, ◌^◌, ◌≤◌, ◌<◌, ◌≡◌, refl, cond, List, [], ◌∷◌, ◌++◌, eqb, ℤ, pos, negsuc, neg_ℤ, length}
use Rattle.std.proofs.Common.{sym, ap, ◌∙◌, arith, lt-ltb, le-ltb, ne_eqb, length-append}
use Rattle.std.proofs.Math.Decide.{dec_lt}
use Rattle.laws.specs.Lists.{Each, each_append}
use Rattle.print.specs.Text.{digit, decimal_in, decimal, signed_decimal}

-- ---- how a decimal is made

in_small : (k n : ℕ) → n < 10 → decimal_in k n ≡ digit n ∷ []
unfolding decimal_in
in_small zero n h = ap (λ (d : ℕ). digit d ∷ []) (omega arith)
in_small (suc k) n h = rw (lt-ltb n 10 h)

in_more : (k n : ℕ) → 10 ≤ n → decimal_in (suc k) n ≡ decimal_in k (n / 10) ++ (digit (n % 10) ∷ [])
unfolding decimal_in
in_more k n h = rw (le-ltb n 10 h)

-- enough steps are enough
in_enough : (k m n : ℕ) → n ≤ k → n ≤ m → decimal_in k n ≡ decimal_in m n
in_enough zero m n a b = in_small zero n (omega arith) ∙ sym (in_small m n (omega arith))
in_enough (suc k) zero n a b = in_small (suc k) n (omega arith) ∙ sym (in_small zero n (omega arith))
in_enough (suc k) (suc m) n a b = go (dec_lt n 10) (in_enough k m (n / 10))
  where
    go : Dec (n < 10) → (n / 10 ≤ k → n / 10 ≤ m → decimal_in k (n / 10) ≡ decimal_in m (n / 10)) → decimal_in (suc k) n ≡ decimal_in (suc m) n
    go (yes h) rest = in_small (suc k) n h ∙ sym (in_small (suc m) n h)
    go (no h) rest =
        in_more k n (omega arith) ∙ ap (λ (t : List ℕ). t ++ (digit (n % 10) ∷ [])) (rest (omega arith) (omega arith))
        ∙ sym (in_more m n (omega arith))

pub decimal_small : (n : ℕ) → n < 10 → decimal n ≡ digit n ∷ []
unfolding decimal
decimal_small n h = in_small n n h

pub decimal_more : (n : ℕ) → 10 ≤ n → decimal n ≡ decimal (n / 10) ++ (digit (n % 10) ∷ [])
unfolding decimal
decimal_more zero h = absurd (omega arith)
decimal_more (suc n) h =
    in_more n (suc n) h
    ∙ ap (λ (t : List ℕ). t ++ (digit (suc n % 10) ∷ [])) (in_enough n (suc n / 10) (suc n / 10) (omega arith) (omega arith))

-- a decimal, from those of smaller numbers
by_digits : (P : ℕ → List ℕ → Type 0) → ((n : ℕ) → n < 10 → P n (digit n ∷ [])) →
    ((n : ℕ) (t : List ℕ) → 10 ≤ n → P (n / 10) t → P n (t ++ (digit (n % 10) ∷ []))) → (k n : ℕ) → n ≤ k → P n (decimal n)
by_digits P small more zero n h =
    let l : n < 10 = omega arith in
    rw (decimal_small n l) (small n l)
by_digits P small more (suc k) n h = go (dec_lt n 10) (by_digits P small more k (n / 10))
  where
    go : Dec (n < 10) → (n / 10 ≤ k → P (n / 10) (decimal (n / 10))) → P n (decimal n)
    go (yes l) rest = rw (decimal_small n l) (small n l)
    go (no l) rest =
        let e : 10 ≤ n = omega arith in
        rw (decimal_more n e) (more n (decimal (n / 10)) e (rest (omega arith)))

-- ---- its length

pub decimal_length_small : (n : ℕ) → n < 10 → length (decimal n) ≡ 1
decimal_length_small n h = ap length (decimal_small n h)

pub decimal_length_more : (n : ℕ) → 10 ≤ n → length (decimal n) ≡ length (decimal (n / 10)) + 1
decimal_length_more n h = ap length (decimal_more n h) ∙ length-append (decimal (n / 10)) (digit (n % 10) ∷ [])

pub decimal_some : (n : ℕ) → 0 < length (decimal n)
decimal_some n = go (dec_lt n 10)
  where
    go : Dec (n < 10) → 0 < length (decimal n)
    go (yes h) = omega (arith, decimal_length_small n h)
    go (no h) = omega (arith, decimal_length_more n (omega arith))

-- a number below 10 ^ k has at most k digits
pub decimal_length : (k n : ℕ) → 0 < k → n < 10 ^ k → length (decimal n) ≤ k
decimal_length zero n z h = absurd (omega arith)
decimal_length (suc k) n z h = go (dec_lt n 10) (decimal_length k (n / 10))
  where
    go : Dec (n < 10) → (0 < k → n / 10 < 10 ^ k → length (decimal (n / 10)) ≤ k) → length (decimal n) ≤ suc k
    go (yes l) rest = omega (arith, decimal_length_small n l)
    go (no l) rest = more k rest h
      where
        more : (k : ℕ) → (0 < k → n / 10 < 10 ^ k → length (decimal (n / 10)) ≤ k) → n < 10 ^ suc k → length (decimal n) ≤ suc k
        more zero rest h = absurd (omega arith)
        more (suc k) rest h = omega (arith, decimal_length_more n (omega arith), rest (omega arith) (omega arith))

-- so a machine number has at most 20
pub decimal_short : (n : ℕ) → n < 2 ^ 64 → length (decimal n) ≤ 20
decimal_short n h = decimal_length 20 n (omega arith) (omega arith)

-- ---- its bytes

pub record IsDigit (b : ℕ) : Type 0 where
  pub least : 48 ≤ b
  pub most : b ≤ 57

pub decimal_digits : (n : ℕ) → Each IsDigit (decimal n)
decimal_digits n = by_digits (λ n t. Each IsDigit t)
    (λ n h. (record { least = omega arith; most = omega arith }, tt))
    (λ n t h e. each_append IsDigit t (digit (n % 10) ∷ []) e (record { least = omega arith; most = omega arith }, tt)) n n (omega arith)

-- ---- reading back

-- the number that digits behind a number a write
unfoldable pub number_from : ℕ → List ℕ → ℕ
number_from a [] = a
number_from a (b ∷ t) = number_from (a * 10 + (b - 48)) t

abbrev pub number_in : List ℕ → ℕ
number_in t = number_from 0 t

number_append : (a : ℕ) (t u : List ℕ) → number_from a (t ++ u) ≡ number_from (number_from a t) u
unfolding number_from
number_append a [] u = refl
number_append a (b ∷ t) u = number_append (a * 10 + (b - 48)) t u

-- a number is found again in its decimal; so two numbers with one decimal are one
pub number_back : (n : ℕ) → number_in (decimal n) ≡ n
unfolding number_from
number_back n = by_digits (λ n t. number_from 0 t ≡ n) (λ n h. omega arith)
    (λ n t h e. number_append 0 t (digit (n % 10) ∷ []) ∙ ap (λ (a : ℕ). a * 10 + (digit (n % 10) - 48)) e ∙ omega arith) n n (omega arith)

pub decimal_once : (m n : ℕ) → decimal m ≡ decimal n → m ≡ n
decimal_once m n e = sym (number_back m) ∙ ap number_in e ∙ number_back n

-- ---- with a sign

unfoldable pub signed_in : List ℕ → ℤ
signed_in [] = pos 0
signed_in (b ∷ t) = cond (eqb b 45) (neg_ℤ (pos (number_in t))) (pos (number_in (b ∷ t)))

-- of digits, the number that they write
signed_digits : (t : List ℕ) → Each IsDigit t → signed_in t ≡ pos (number_in t)
unfolding signed_in number_from
signed_digits [] h = refl
signed_digits (b ∷ t) h = let l : 48 ≤ b = h.0.least in rw (ne_eqb b 45 (λ e. omega arith))

pub signed_back : (z : ℤ) → signed_in (signed_decimal z) ≡ z
unfolding signed_decimal signed_in
signed_back (pos n) = signed_digits (decimal n) (decimal_digits n) ∙ ap pos (number_back n)
signed_back (negsuc k) = ap (λ (n : ℕ). neg_ℤ (pos n)) (number_back (suc k))

pub signed_once : (y z : ℤ) → signed_decimal y ≡ signed_decimal z → y ≡ z
signed_once y z e = sym (signed_back y) ∙ ap signed_in e ∙ signed_back z

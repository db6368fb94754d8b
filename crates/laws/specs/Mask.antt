-- Words by their bits: bit k of `mask_of g n`, below n, is set exactly when g k. A loop builds one bit by bit, and its ones are the numbers
-- that pass. Assumes nothing.
use Rattle.std.specs.Prelude.{◌≡◌, Bool, true, false, not, ◌||◌, eqb}
use Rattle.std.proofs.Math.Path.{refl, ap, ap₂}
use Rattle.std.proofs.Common.{sym, ◌∙◌, pow-suc, add_comm, mul_comm, mul_assoc, mul-le-mul_right, add-one, eq-eqb, ne_eqb, lit<, pow-add, pow_pos, shl_exact, shr-shr}
use Prim.Native.Nat.{ℕ, zero, suc, ◌+◌, ◌-◌, ◌*◌, ◌^◌, ◌/◌, ◌%◌, ◌≤◌, ◌<◌}
use Rattle.std.proofs.Math.Nat.{add-mul-div_left}
use Rattle.std.proofs.Math.Decide.{ℕ_discrete}
use native.Mathlib.Omega.{arith}
use Rattle.std.specs.Int.Count.{ones, ones_step}
use Rattle.std.proofs.lemmas.Nat.{ones_cat, or_block, xor_block}
use Rattle.std.specs.Int.Bits.{bit_or, bit_xor, or_shifted_r}
use Rattle.std.proofs.Math.Pow.{high}
use Rattle.laws.specs.Bools.{◌⊕◌}
use Rattle.laws.specs.Range.{more}
use Rattle.laws.specs.Even.{odd, count, odd_n, odd_count}
use Rattle.laws.specs.Lists.{run}

abbrev pub digit : Bool → ℕ
digit true = 1
digit false = 0

unfoldable pub mask_of : (ℕ → Bool) → ℕ → ℕ
mask_of g zero = 0
mask_of g (suc n) = mask_of g n + digit (g n) * 2 ^ n

pub digit_lt : (c : Bool) → digit c < 2 ^ 1
digit_lt true = lit< tt
digit_lt false = lit< tt

pub digit_one : (c : Bool) → eqb (digit c) 1 ≡ c
digit_one true = refl
digit_one false = refl

pub mask_lt : (g : ℕ → Bool) (n : ℕ) → mask_of g n < 2 ^ n
unfolding mask_of
mask_lt g zero = lit< tt
mask_lt g (suc n) =
    let b : digit (g n) ≤ 1 = omega (arith, digit_lt (g n)) in
    let e : digit (g n) * 2 ^ n ≤ 1 * 2 ^ n = mul-le-mul_right (2 ^ n) b in
    omega (arith, e, pow-suc 2 n, mask_lt g n)

-- one step of a loop that builds a word: m | b << n
pub mask_more : (g : ℕ → Bool) (n : ℕ) {m b : ℕ} → n < 64 → m ≡ mask_of g n → b ≡ digit (g n)
    → bit_or m (b * 2 ^ n % 2 ^ 64) ≡ mask_of g (n + 1)
unfolding mask_of
mask_more g n l hm hb =
    ap₂ (λ (x y : ℕ). bit_or x (y * 2 ^ n % 2 ^ 64)) hm hb
    ∙ ap (bit_or (mask_of g n)) (shl_exact 1 n 64 (digit_lt (g n)) (omega arith))
    ∙ or_shifted_r (digit (g n)) n (mask_of g n) (mask_lt g n)
    ∙ add_comm (digit (g n) * 2 ^ n) (mask_of g n)
    ∙ ap (mask_of g) (sym (add-one n))

-- ---- by the lowest digit

pub mask_low : (n : ℕ) (g : ℕ → Bool) → mask_of g (suc n) ≡ digit (g 0) + 2 * mask_of (λ (k : ℕ). g (suc k)) n
unfolding mask_of
mask_low zero g = omega arith
mask_low (suc n) g =
    let e = mask_low n g in
    let p : digit (g (suc n)) * 2 ^ suc n ≡ digit (g (suc n)) * 2 ^ n * 2 =
    ap (λ (x : ℕ). digit (g (suc n)) * x) (pow-suc 2 n) ∙ sym (mul_assoc (digit (g (suc n))) (2 ^ n) 2) in
    omega (arith, e, p)

ones_more : (b : Bool) (m : ℕ) → ones (digit b + 2 * m) ≡ more b (ones m)
ones_more true m =
    let d : (1 + 2 * m) / 2 ≡ m = omega arith in
    let e : (1 + 2 * m) % 2 ≡ 1 = omega arith in
    ones_step (1 + 2 * m) ∙ rw (d, e) (omega arith)
ones_more false m =
    let d : (0 + 2 * m) / 2 ≡ m = omega arith in
    let e : (0 + 2 * m) % 2 ≡ 0 = omega arith in
    ones_step (0 + 2 * m) ∙ rw (d, e) (omega arith)

-- ---- its ones

module _ {K : Type 0} where
  -- as many as pass the test, of the entries of a list numbered from k on
  pub mask_ones : (t : K → Bool) (f : ℕ → K) (k n : ℕ) → ones (mask_of (λ i. t (f (k + i))) n) ≡ count t (run f k n)
  unfolding ones mask_of
  mask_ones t f k zero = refl
  mask_ones t f k (suc n) =
      ap ones (mask_low n (λ i. t (f (k + i))))
      ∙ ones_more (t (f (k + 0))) (mask_of (λ (i : ℕ). t (f (k + suc i))) n)
      ∙ ap₂ more (ap (λ (i : ℕ). t (f i)) (start k)) (ap (λ (g : ℕ → Bool). ones (mask_of g n)) shifted ∙ mask_ones t f (suc k) n)
    where
      start : (k : ℕ) → k + 0 ≡ k
      start k = omega arith

      next : (k i : ℕ) → k + suc i ≡ suc k + i
      next k i = omega arith

      shifted : ◌≡◌ {A = ℕ → Bool} (λ i. t (f (k + suc i))) (λ i. t (f (suc k + i)))
      shifted j i = t (f (next k i j))

digit_not : (b : Bool) → digit b + digit (not b) ≡ 1
digit_not true = refl
digit_not false = refl

pub odd_n_mod : (n : ℕ) → digit (odd_n n) ≡ n % 2
odd_n_mod zero = refl
odd_n_mod (suc n) = omega (arith, odd_n_mod n, digit_not (odd_n n))

pub not_odd : (n : ℕ) → n % 2 ≡ 0 → odd_n n ≡ false
not_odd n h = go (odd_n n) (odd_n_mod n)
  where
    go : (b : Bool) → digit b ≡ n % 2 → b ≡ false
    go true e = absurd (omega arith)
    go false e = refl

-- they are odd in number exactly where the test passes at an odd number of places
pub mask_odd : {K : Type 0} (t : K → Bool) (f : ℕ → K) (k n : ℕ) → ones (mask_of (λ i. t (f (k + i))) n) % 2 ≡ digit (odd t (run f k n))
mask_odd t f k n = ap (λ (m : ℕ). m % 2) (mask_ones t f k n) ∙ sym (odd_n_mod (count t (run f k n))) ∙ ap digit (odd_count t (run f k n))

-- ---- read off bit by bit, lowest first: what is left of the word at k has the rest of the bits

module _ (g : ℕ → Bool) (n k : ℕ) {w : ℕ} (here : k < n) (left : w ≡ mask_of (λ j. g (k + j)) (n - k)) where
  lowest_first : w ≡ digit (g k) + 2 * mask_of (λ j. g (k + 1 + j)) (n - (k + 1))
  lowest_first =
      left ∙ ap (mask_of (λ j. g (k + j))) (more_left n k here) ∙ mask_low (n - (k + 1)) (λ j. g (k + j))
      ∙ ap₂ (λ (b : Bool) (h : ℕ → Bool). digit b + 2 * mask_of h (n - (k + 1))) (ap g (start k)) (λ i j. g (next k j i))
    where
      more_left : (n k : ℕ) → k < n → n - k ≡ suc (n - (k + 1))
      more_left n k h = omega arith

      start : (k : ℕ) → k + 0 ≡ k
      start k = omega arith

      next : (k j : ℕ) → k + suc j ≡ k + 1 + j
      next k j = omega arith

  pub bit_test : eqb (w % 2) 1 ≡ g k
  bit_test =
      let e : w % 2 ≡ digit (g k) = omega (arith, lowest_first, digit_lt (g k)) in
      ap (λ (r : ℕ). eqb r 1) e ∙ digit_one (g k)

-- ---- joined, and one bit alone

digit_or : (a b : Bool) → bit_or (digit a) (digit b) ≡ digit (a || b)
digit_or true true = refl
digit_or true false = refl
digit_or false true = refl
digit_or false false = refl

pub or_masks : (g h : ℕ → Bool) (n : ℕ) → bit_or (mask_of g n) (mask_of h n) ≡ mask_of (λ k. g k || h k) n
unfolding mask_of
or_masks g h zero = refl
or_masks g h (suc n) =
    ap₂ bit_or (add_comm (mask_of g n) (digit (g n) * 2 ^ n)) (add_comm (mask_of h n) (digit (h n) * 2 ^ n))
    ∙ or_block n (digit (g n)) (digit (h n)) (mask_of g n) (mask_of h n) (mask_lt g n) (mask_lt h n)
    ∙ ap₂ (λ (x y : ℕ). x * 2 ^ n + y) (digit_or (g n) (h n)) (or_masks g h n)
    ∙ add_comm (digit (g n || h n) * 2 ^ n) (mask_of (λ k. g k || h k) n)

digit_xor : (a b : Bool) → bit_xor (digit a) (digit b) ≡ digit (a ⊕ b)
digit_xor true true = refl
digit_xor true false = refl
digit_xor false true = refl
digit_xor false false = refl

pub xor_masks : (g h : ℕ → Bool) (n : ℕ) → bit_xor (mask_of g n) (mask_of h n) ≡ mask_of (λ k. g k ⊕ h k) n
unfolding mask_of
xor_masks g h zero = refl
xor_masks g h (suc n) =
    ap₂ bit_xor (add_comm (mask_of g n) (digit (g n) * 2 ^ n)) (add_comm (mask_of h n) (digit (h n) * 2 ^ n))
    ∙ xor_block n (digit (g n)) (digit (h n)) (mask_of g n) (mask_of h n) (mask_lt g n) (mask_lt h n)
    ∙ ap₂ (λ (x y : ℕ). x * 2 ^ n + y) (digit_xor (g n) (h n)) (xor_masks g h n)
    ∙ add_comm (digit (g n ⊕ h n) * 2 ^ n) (mask_of (λ k. g k ⊕ h k) n)

pub mask_none : (g : ℕ → Bool) (n : ℕ) → ((k : ℕ) → k < n → g k ≡ false) → mask_of g n ≡ 0
unfolding mask_of
mask_none g zero h = refl
mask_none g (suc n) h = rw (h n (omega arith), mask_none g n (λ k b. h k (omega arith))) (omega arith)

pub mask_same : (g h : ℕ → Bool) (n : ℕ) → ((k : ℕ) → k < n → g k ≡ h k) → mask_of g n ≡ mask_of h n
unfolding mask_of
mask_same g h zero e = refl
mask_same g h (suc n) e = ap₂ (λ (m : ℕ) (b : Bool). m + digit b * 2 ^ n) (mask_same g h n (λ k b. e k (omega arith))) (e n (omega arith))

pub mask_one : (i n : ℕ) → i < n → mask_of (λ k. eqb k i) n ≡ 2 ^ i
unfolding mask_of
mask_one i zero h = absurd (omega arith)
mask_one i (suc n) h = go (ℕ_discrete n i) (mask_one i n)
  where
    go : Dec (n ≡ i) → (i < n → mask_of (λ k. eqb k i) n ≡ 2 ^ i) → mask_of (λ k. eqb k i) n + digit (eqb n i) * 2 ^ n ≡ 2 ^ i
    go (yes e) before =
        rw (mask_none (λ k. eqb k i) n (λ k b. ne_eqb k i (omega arith)), eq-eqb n i e) (omega (arith, ap (λ (m : ℕ). 2 ^ m) e))
    go (no d) before = rw (ne_eqb n i d) (omega (arith, before (omega arith)))

-- the same, by the number that is looked for
pub place_mask : (i n : ℕ) → i < n → 2 ^ i ≡ mask_of (λ k. eqb i k) n
place_mask i n h = sym (mask_one i n h) ∙ mask_same (λ k. eqb k i) (λ k. eqb i k) n (λ k b. turned k)
  where
    turned : (k : ℕ) → eqb k i ≡ eqb i k
    turned k = go (ℕ_discrete k i)
      where
        go : Dec (k ≡ i) → eqb k i ≡ eqb i k
        go (yes e) = eq-eqb k i e ∙ sym (eq-eqb i k (sym e))
        go (no d) = ne_eqb k i d ∙ sym (ne_eqb i k (λ e. d (sym e)))

-- ---- one bit asked for

abbrev pub test_bit : (w k : ℕ) → Bool
test_bit w k = eqb (w / 2 ^ k % 2) 1

pub mask_test : (g : ℕ → Bool) (n k : ℕ) → k < n → test_bit (mask_of g n) k ≡ g k
mask_test g zero k h = absurd (omega arith)
mask_test g (suc n) zero h =
    let e : mask_of g (suc n) / 2 ^ 0 ≡ mask_of g (suc n) = omega arith in
    rw e
    (bit_test g (suc n) 0 (omega arith) (ap (λ (f : ℕ → Bool). mask_of f (suc n)) (λ i j. g (plain j i))
    ∙ ap (mask_of (λ j. g (0 + j))) (omega arith)))
  where
    plain : (j : ℕ) → j ≡ 0 + j
    plain j = omega arith
mask_test g (suc n) (suc k) h =
    let half : mask_of g (suc n) / 2 ^ 1 ≡ mask_of (λ j. g (suc j)) n = omega (arith, mask_low n g, digit_lt (g 0)) in
    let e : mask_of g (suc n) / 2 ^ suc k ≡ mask_of (λ j. g (suc j)) n / 2 ^ k =
    ap (λ (i : ℕ). mask_of g (suc n) / 2 ^ i) (next k) ∙ sym (shr-shr (mask_of g (suc n)) 1 k) ∙ ap (λ (m : ℕ). m / 2 ^ k) half in
    rw e (mask_test (λ j. g (suc j)) n k (omega arith))
  where
    next : (k : ℕ) → suc k ≡ 1 + k
    next k = omega arith

-- ---- of two parts: a below 2 ^ n, and b above it

pub mask_join : (g : ℕ → Bool) (m n : ℕ) → mask_of g (m + n) ≡ mask_of g m + 2 ^ m * mask_of (λ k. g (m + k)) n
unfolding mask_of
mask_join g m zero = let e : m + 0 ≡ m = omega arith in rw e (omega arith)
mask_join g m (suc n) =
    let e : m + suc n ≡ suc (m + n) = omega arith in
    let p : digit (g (m + n)) * 2 ^ (m + n) ≡ digit (g (m + n)) * (2 ^ m * 2 ^ n) = ap (λ (x : ℕ). digit (g (m + n)) * x) (pow-add 2 m n) in
    rw e (omega (arith, p, mask_join g m n))

pub ones_join : (n a b : ℕ) → a < 2 ^ n → ones (a + 2 ^ n * b) ≡ ones a + ones b
ones_join n a b h =
    ap ones (add_comm a (2 ^ n * b) ∙ ap (λ (x : ℕ). x + a) (mul_comm (2 ^ n) b)) ∙ ones_cat n b a h ∙ add_comm (ones b) (ones a)

pub test_low : (n a b k : ℕ) → k < n → test_bit (a + 2 ^ n * b) k ≡ test_bit a k
test_low n a b k h = ap (λ (r : ℕ). eqb r 1) low
  where
    j : ℕ
    j = n - (k + 1)

    apart : 2 ^ n * b ≡ 2 ^ k * (2 * (2 ^ j * b))
    apart =
        let e : n ≡ k + 1 + j = omega arith in
        ap (λ (i : ℕ). 2 ^ i * b) e ∙ ap (λ (x : ℕ). x * b) (pow-add 2 (k + 1) j ∙ ap (λ (x : ℕ). x * 2 ^ j) (pow-add 2 k 1)) ∙ omega arith

    low : (a + 2 ^ n * b) / 2 ^ k % 2 ≡ a / 2 ^ k % 2
    low =
        let e : (a + 2 ^ n * b) / 2 ^ k ≡ a / 2 ^ k + 2 * (2 ^ j * b) =
        ap (λ (x : ℕ). (a + x) / 2 ^ k) apart ∙ add-mul-div_left a (2 * (2 ^ j * b)) (pow_pos k) in
        omega (arith, e)

pub test_high : (n a b k : ℕ) → a < 2 ^ n → n ≤ k → test_bit (a + 2 ^ n * b) k ≡ test_bit b (k - n)
test_high n a b k h l =
    ap (λ (q : ℕ). eqb (q % 2) 1)
    (ap (λ (i : ℕ). (a + 2 ^ n * b) / 2 ^ i) e ∙ sym (shr-shr (a + 2 ^ n * b) n (k - n))
    ∙ ap (λ (q : ℕ). q / 2 ^ (k - n))
    (ap (λ (x : ℕ). x / 2 ^ n) (add_comm a (2 ^ n * b) ∙ ap (λ (x : ℕ). x + a) (mul_comm (2 ^ n) b)) ∙ high b n h))
  where
    e : k ≡ n + (k - n)
    e = omega arith

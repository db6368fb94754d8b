-- The set digits of a word, lowest first, as a loop meets them: k = trailing_zeros(w), then w & (w - 1). Of a mask they are the numbers
-- that pass its test. Assumes nothing.
use Rattle.std.specs.Prelude.{◌≡◌, refl, Bool, true, false, ◌⊎◌, List, [], ◌∷◌, ℕ, zero, suc, ◌+◌, ◌-◌, ◌*◌, ◌^◌, ◌/◌, ◌%◌, ◌≤◌, ◌<◌}
use Rattle.std.proofs.Common.{sym, ap, ap₂, ◌∙◌, inl, inr, pow-suc, mod-lt, zero-lt-suc, lt_of_lt_of_le, arith, pow_mono}
use Rattle.std.proofs.Math.Decide.{ℕ_discrete}
use Rattle.std.specs.Int.Bits.{bit_and, and_step, and_self}
use Rattle.std.proofs.lemmas.Nat.{and_le_r}
use Rattle.std.specs.Int.Count.{count_trailing_zeros, under}
use Rattle.laws.specs.Mask.{digit, digit_lt, mask_of, mask_lt, mask_low}

-- k, where the digit is set, before the rest
abbrev pub placed : (digit k : ℕ) → List ℕ → List ℕ
placed zero k rest = rest
placed (suc d) k rest = k ∷ rest

-- the places of the set digits among the d lowest of w, rising; the lowest digit of all has the place k
unfoldable pub places : (d k w : ℕ) → List ℕ
places zero k w = []
places (suc d) k w = placed (w % 2) k (places d (suc k) (w / 2))

-- of the n numbers from k on, those that pass
unfoldable pub passing : (ℕ → Bool) → (k n : ℕ) → List ℕ
passing g k zero = []
passing g k (suc n) = placed (digit (g k)) k (passing g (suc k) n)

pub places_none : (d k : ℕ) → places d k 0 ≡ []
unfolding places
places_none zero k = refl
places_none (suc d) k = places_none d (suc k)

-- ---- w & (w - 1), by the lowest digit of w

and_odd : (w : ℕ) → w % 2 ≡ 1 → bit_and w (w - 1) ≡ w / 2 * 2
and_odd w e =
    let half : (w - 1) / 2 ≡ w / 2 = omega arith in
    let low : (w - 1) % 2 ≡ 0 = omega arith in
    and_step w (w - 1) ∙ rw (e, half, low, and_self) (omega arith)

and_even : (w : ℕ) → 0 < w → w % 2 ≡ 0 → bit_and w (w - 1) ≡ bit_and (w / 2) (w / 2 - 1) * 2
and_even w h e =
    let half : (w - 1) / 2 ≡ w / 2 - 1 = omega arith in
    let low : (w - 1) % 2 ≡ 1 = omega arith in
    and_step w (w - 1) ∙ rw (e, half, low) (omega arith)

pub two_cases : (w : ℕ) → (w % 2 ≡ 1) ⊎ (w % 2 ≡ 0)
two_cases w = bit_cases (w % 2) (mod-lt w (zero-lt-suc 1))
  where
    bit_cases : (r : ℕ) → r < 2 → (r ≡ 1) ⊎ (r ≡ 0)
    bit_cases zero h = inr refl
    bit_cases (suc zero) h = inl refl
    bit_cases (suc (suc r)) h = absurd (omega arith)

-- one turn: the lowest place, and those of w & (w - 1)
abbrev Turn : (d k w : ℕ) → Type 0
Turn d k w = places d k w ≡ (k + count_trailing_zeros d w) ∷ places d k (bit_and w (w - 1))

places_turn : (d k w : ℕ) → 0 < w → w < 2 ^ d → Turn d k w
unfolding places count_trailing_zeros
places_turn zero k w h l = absurd (omega arith)
places_turn (suc d) k w h l = by (two_cases w) (λ p. places_turn d (suc k) (w / 2) p (omega (arith, pow-suc 2 d)))
  where
    by : (w % 2 ≡ 1) ⊎ (w % 2 ≡ 0) → (0 < w / 2 → Turn d (suc k) (w / 2)) → Turn (suc d) k w
    by (inl e) ih =
        let low : w / 2 * 2 % 2 ≡ 0 = omega arith in
        let half : w / 2 * 2 / 2 ≡ w / 2 = omega arith in
        let start : k + 0 ≡ k = omega arith in
        rw (and_odd w e, e, low, half, start)
    by (inr e) ih =
        let rest = bit_and (w / 2) (w / 2 - 1) in
        let low : rest * 2 % 2 ≡ 0 = omega arith in
        let half : rest * 2 / 2 ≡ rest = omega arith in
        let next : k + suc (count_trailing_zeros d (w / 2)) ≡ suc k + count_trailing_zeros d (w / 2) = omega arith in
        rw (and_even w h e, e, low, half, next) (ih (omega arith))

-- from the place 0 on; and w & (w - 1) is less than w
pub walk_turn : (d w : ℕ) → 0 < w → w < 2 ^ d → places d 0 w ≡ count_trailing_zeros d w ∷ places d 0 (bit_and w (w - 1))
walk_turn d w h l = places_turn d 0 w h l ∙ ap (λ (t : ℕ). t ∷ places d 0 (bit_and w (w - 1))) (omega arith)

pub walk_less : (w : ℕ) → 0 < w → bit_and w (w - 1) < w
walk_less w h = omega (arith, and_le_r w (w - 1))

-- ---- the trailing zeros of a number of two parts, a below 2 ^ n, and b above it

pub trailing_low : (n d a b : ℕ) → 0 < a → a < 2 ^ n → count_trailing_zeros (n + d) (a + 2 ^ n * b) ≡ count_trailing_zeros n a
unfolding count_trailing_zeros
trailing_low zero d a b p h = absurd (omega arith)
trailing_low (suc n) d a b p h = rw (e, odd, half) (by (two_cases a) (λ q. trailing_low n d (a / 2) b q (omega (arith, pow-suc 2 n))))
  where
    e : suc n + d ≡ suc (n + d)
    e = omega arith

    twice : 2 ^ suc n * b ≡ 2 * (2 ^ n * b)
    twice = ap (λ (x : ℕ). x * b) (pow-suc 2 n) ∙ omega arith

    odd : (a + 2 ^ suc n * b) % 2 ≡ a % 2
    odd = omega (arith, twice)

    half : (a + 2 ^ suc n * b) / 2 ≡ a / 2 + 2 ^ n * b
    half = omega (arith, twice)

    by : (a % 2 ≡ 1) ⊎ (a % 2 ≡ 0) → (0 < a / 2 → count_trailing_zeros (n + d) (a / 2 + 2 ^ n * b) ≡ count_trailing_zeros n (a / 2))
        → under (a % 2) (count_trailing_zeros (n + d) (a / 2 + 2 ^ n * b)) ≡ under (a % 2) (count_trailing_zeros n (a / 2))
    by (inl o) ih = rw o
    by (inr z) ih = rw (z, ih (omega arith))

pub trailing_high : (n d b : ℕ) → count_trailing_zeros (n + d) (2 ^ n * b) ≡ n + count_trailing_zeros d b
unfolding count_trailing_zeros
trailing_high zero d b =
    let e : 0 + d ≡ d = omega arith in
    let f : 2 ^ 0 * b ≡ b = omega arith in
    let g : 0 + count_trailing_zeros d b ≡ count_trailing_zeros d b = omega arith in
    rw (e, f, g)
trailing_high (suc n) d b = rw (e, even, half, trailing_high n d b, f)
  where
    e : suc n + d ≡ suc (n + d)
    e = omega arith

    f : suc n + count_trailing_zeros d b ≡ suc (n + count_trailing_zeros d b)
    f = omega arith

    twice : 2 ^ suc n * b ≡ 2 * (2 ^ n * b)
    twice = ap (λ (x : ℕ). x * b) (pow-suc 2 n) ∙ omega arith

    even : 2 ^ suc n * b % 2 ≡ 0
    even = omega (arith, twice)

    half : 2 ^ suc n * b / 2 ≡ 2 ^ n * b
    half = omega (arith, twice)

-- ---- of a mask

places_mask : (g : ℕ → Bool) (d k n : ℕ) → n ≤ d → places d k (mask_of (λ i. g (k + i)) n) ≡ passing g k n
unfolding places passing mask_of
places_mask g d k zero h = places_none d k
places_mask g zero k (suc n) h = absurd (omega arith)
places_mask g (suc d) k (suc n) h =
    let m = mask_of (λ i. g (k + suc i)) n in
    let e : mask_of (λ i. g (k + i)) (suc n) ≡ digit (g (k + 0)) + 2 * m = mask_low n (λ i. g (k + i)) in
    let b = digit_lt (g (k + 0)) in
    let low : mask_of (λ i. g (k + i)) (suc n) % 2 ≡ digit (g (k + 0)) = omega (arith, e, b) in
    let half : mask_of (λ i. g (k + i)) (suc n) / 2 ≡ m = omega (arith, e, b) in
    ap₂ (λ (x y : ℕ). placed x k (places d (suc k) y)) (low ∙ ap (λ (i : ℕ). digit (g i)) (start k))
    (half ∙ ap (λ (f : ℕ → Bool). mask_of f n) shifted)
    ∙ ap (placed (digit (g k)) k) (places_mask g d (suc k) n (omega arith))
  where
    start : (k : ℕ) → k + 0 ≡ k
    start k = omega arith

    next : (k i : ℕ) → k + suc i ≡ suc k + i
    next k i = omega arith

    shifted : ◌≡◌ {A = ℕ → Bool} (λ i. g (k + suc i)) (λ i. g (suc k + i))
    shifted j i = g (next k i j)

-- the first of those that pass: it passes, and none below it does
pub record First (g : ℕ → Bool) (k n t : ℕ) : Type 0 where
  pub passes : g t ≡ true
  pub from : k ≤ t
  pub below : t < k + n
  pub none : (j : ℕ) → k ≤ j → j < t → g j ≡ false

pub passing_first : (g : ℕ → Bool) (k n t : ℕ) (l : List ℕ) → passing g k n ≡ t ∷ l → First g k n t
unfolding passing
passing_first g k zero t l e = let z : ◌≡◌ {A = ℕ} 0 1 = cc in absurd (omega arith)
passing_first g k (suc n) t l e = by (g k) refl e (passing_first g (suc k) n t l)
  where
    by : (b : Bool) → g k ≡ b → placed (digit b) k (passing g (suc k) n) ≡ t ∷ l → (passing g (suc k) n ≡ t ∷ l → First g (suc k) n t) →
        First g k (suc n) t
    by true p q next =
        let same : k ≡ t = cc in
        record { passes = rw (← same) p; from = omega arith; below = omega arith; none = λ j a b. absurd (omega arith) }
    by false p q next =
        let f = next q in
        record {
          passes = f.passes;
          from = omega (arith, f.from);
          below = omega (arith, f.below);
          none = λ j a b. lower f j a b (ℕ_discrete k j);
        }
      where
        lower : First g (suc k) n t → (j : ℕ) → k ≤ j → j < t → Dec (k ≡ j) → g j ≡ false
        lower f j a b (yes s) = rw (← s) p
        lower f j a b (no d) = f.none j (omega arith) b

-- from 0 on
pub mask_places : (g : ℕ → Bool) (d n : ℕ) → n ≤ d → places d 0 (mask_of g n) ≡ passing g 0 n
mask_places g d n h = ap (λ (f : ℕ → Bool). places d 0 (mask_of f n)) (sym plain) ∙ places_mask g d 0 n h
  where
    same : (i : ℕ) → 0 + i ≡ i
    same i = omega arith

    plain : ◌≡◌ {A = ℕ → Bool} (λ i. g (0 + i)) g
    plain j i = g (same i j)

-- so the trailing zeros of a mask that is not 0 are the first number that passes
pub mask_first : (g : ℕ → Bool) (d n : ℕ) {m : ℕ} → n ≤ d → m ≡ mask_of g n → 0 < m → First g 0 n (count_trailing_zeros d m)
mask_first g d n {m} h e some =
    let fits : m < 2 ^ d = rw (e) (lt_of_lt_of_le (mask_lt g n) (pow_mono h)) in
    passing_first g 0 n (count_trailing_zeros d m) (places d 0 (bit_and m (m - 1)))
    (sym (mask_places g d n h) ∙ ap (places d 0) (sym e) ∙ walk_turn d m some fits)

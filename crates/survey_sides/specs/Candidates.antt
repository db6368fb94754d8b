-- A loop over the set digits of a word, lowest first, that keeps those that pass a test. Assumes nothing.
use Rattle.std.specs.Prelude.{◌≡◌, refl, Bool, true, false, ◌&&◌, List, [], ◌∷◌, ℕ, zero, suc, ◌+◌, ◌-◌, ◌*◌, ◌^◌, ◌/◌, ◌%◌, ◌≤◌, ◌<◌}
use Rattle.std.proofs.Common.{sym, ◌∙◌, zero-le, pow-suc, mod-lt, zero-lt-suc, mul-le-mul_right, arith, shl_exact}
use Rattle.std.proofs.Math.Path.{ap, subst}
use Rattle.std.specs.Int.Bits.{bit_and}
use Rattle.std.specs.Int.Count.{count_trailing_zeros}
use Rattle.laws.specs.Lists.{Each}
use Rattle.laws.specs.Mask.{digit, digit_lt, mask_of}
use Rattle.laws.specs.Walk.{placed, places, places_none, passing, walk_turn, mask_places}

-- the digits at these places that pass
abbrev pub marked : (ℕ → Bool) → List ℕ → ℕ
marked g [] = 0
marked g (k ∷ ks) = digit (g k) * 2 ^ k + marked g ks

-- the set digits of a word that pass
unfoldable pub kept : (ℕ → Bool) → ℕ → ℕ
kept g w = marked g (places 64 0 w)

-- P at each set digit
unfoldable pub AtEach : (ℕ → Type 0) → ℕ → Type 0
AtEach P w = Each P (places 64 0 w)

-- ---- of a mask

placed_digit : (b : Bool) (g : ℕ → Bool) (k : ℕ) (ks : List ℕ) → marked g (placed (digit b) k ks) ≡ digit (b && g k) * 2 ^ k + marked g ks
placed_digit true g k ks = refl
placed_digit false g k ks = omega arith

same_count : (h : ℕ → Bool) (m n : ℕ) → m ≡ n → mask_of h m ≡ mask_of h n
same_count h m n e = ap (mask_of h) e

marked_passing : (g c : ℕ → Bool) (n k : ℕ) → mask_of (λ j. c j && g j) k + marked g (passing c k n) ≡ mask_of (λ j. c j && g j) (k + n)
unfolding passing mask_of
marked_passing g c zero k = omega (arith, same_count (λ j. c j && g j) (k + 0) k (omega arith))
marked_passing g c (suc n) k =
    let e = same_count (λ j. c j && g j) (suc k + n) (k + suc n) (omega arith) in
    omega (arith, e, placed_digit (c k) g k (passing c (suc k) n), marked_passing g c n (suc k))

pub kept_mask : (g c : ℕ → Bool) (n : ℕ) {w : ℕ} → n ≤ 64 → w ≡ mask_of c n → kept g w ≡ mask_of (λ k. c k && g k) n
unfolding kept mask_of
kept_mask g c n h e =
    let d = same_count (λ k. c k && g k) (0 + n) n (omega arith) in
    ap (λ (v : ℕ). marked g (places 64 0 v)) e ∙ ap (marked g) (mask_places c 64 n h) ∙ omega (arith, d, marked_passing g c n 0)

each_passing : (P : ℕ → Type 0) (c : ℕ → Bool) (n k : ℕ) → ((j : ℕ) → k ≤ j → j < k + n → c j ≡ true → P j) → Each P (passing c k n)
unfolding passing
each_passing P c zero k h = tt
each_passing P c (suc n) k h = by (c k) refl (each_passing P c n (suc k) (λ j a b. h j (omega arith) (omega arith)))
  where
    by : (b : Bool) → c k ≡ b → Each P (passing c (suc k) n) → Each P (placed (digit b) k (passing c (suc k) n))
    by true e r = (h k (omega arith) (omega arith) e, r)
    by false e r = r

pub each_mask : (P : ℕ → Type 0) (c : ℕ → Bool) (n : ℕ) {w : ℕ} → n ≤ 64 → w ≡ mask_of c n → ((j : ℕ) → j < n → c j ≡ true → P j) →
    AtEach P w
unfolding AtEach
each_mask P c n h e f =
    subst (Each P) (sym (ap (places 64 0) e ∙ mask_places c 64 n h)) (each_passing P c n 0 (λ j a b. f j (omega arith)))

-- ---- no more than the word

placed_le : (g : ℕ → Bool) (r k : ℕ) (ks : List ℕ) → r < 2 → marked g (placed r k ks) ≤ r * 2 ^ k + marked g ks
placed_le g zero k ks h = omega arith
placed_le g (suc zero) k ks h =
    let b : digit (g k) ≤ 1 = omega (arith, digit_lt (g k)) in
    omega (arith, mul-le-mul_right (2 ^ k) b)
placed_le g (suc (suc r)) k ks h = absurd (omega arith)

marked_le : (g : ℕ → Bool) (d k w : ℕ) → marked g (places d k w) ≤ w * 2 ^ k
unfolding places
marked_le g zero k w = zero-le
marked_le g (suc d) k w =
    let e : (w % 2 + w / 2 * 2) * 2 ^ k ≡ w * 2 ^ k = ap (λ (x : ℕ). x * 2 ^ k) (omega arith) in
    let t : w / 2 * 2 ^ suc k ≡ w / 2 * (2 ^ k * 2) = ap (λ (x : ℕ). w / 2 * x) (pow-suc 2 k) in
    omega (arith, e, t, placed_le g (w % 2) k (places d (suc k) (w / 2)) (mod-lt w (zero-lt-suc 1)), marked_le g d (suc k) (w / 2))

pub kept_le : (g : ℕ → Bool) (w : ℕ) → kept g w ≤ w
unfolding kept
kept_le g w = omega (arith, marked_le g 64 0 w)

-- ---- the loop: at its end nothing is left, and a turn takes the lowest digit

pub kept_none : (g : ℕ → Bool) → kept g 0 ≡ 0
unfolding kept
kept_none g = ap (marked g) (places_none 64 0)

module _ (w : ℕ) (some : 0 < w) (fits : w < 2 ^ 64) where
  abbrev low : ℕ
  low = count_trailing_zeros 64 w

  pub each_turn : (P : ℕ → Type 0) → AtEach P w → P low × AtEach P (bit_and w (w - 1))
  unfolding AtEach
  each_turn P h = subst (Each P) (walk_turn 64 w some fits) h

  kept_turn : (g : ℕ → Bool) → kept g w ≡ digit (g low) * 2 ^ low + kept g (bit_and w (w - 1))
  unfolding kept
  kept_turn g = ap (marked g) (walk_turn 64 w some fits)

  pub turn_rest : (g : ℕ → Bool) (m : ℕ) {b whole : ℕ} → low < 64 → m + kept g w ≡ whole → b ≡ digit (g low) →
      (m + b * 2 ^ low % 2 ^ 64) + kept g (bit_and w (w - 1)) ≡ whole
  turn_rest g m l so_far e =
      let exact : _ * 2 ^ low % 2 ^ 64 ≡ digit (g low) * 2 ^ low = ap (λ (x : ℕ). x * 2 ^ low % 2 ^ 64) e
      ∙ shl_exact 1 low 64 (digit_lt (g low)) (omega arith) in
      omega (arith, exact, kept_turn g)

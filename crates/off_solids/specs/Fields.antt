-- The numbers of fields, in the machine. Assumes nothing.
use Rattle.std.specs.Prelude.{ℕ, zero, suc, ◌+◌, ◌-◌, ◌<◌, ◌≤◌, ◌≡◌, refl, Bool, true, false, pos}
use Rattle.std.proofs.Common.{sym, ap, ap₂, ◌∙◌, arith}
use Rattle.std.proofs.Math.Decide.{dec_lt}
use Rattle.off_items.specs.Numbers.{made, largest, at_most}
use Rattle.off_items.specs.Laws.{at_most_low, at_most_high}
use Rattle.scene.specs.Write.{unsigned}
use Rattle.off_solids.specs.Fitted.{nearest}

unsigned_below : (half m : ℕ) → 0 < m → half + half - m ≡ unsigned half (made true m)
unsigned_below half zero h = absurd (omega arith)
unsigned_below half (suc n) h = omega arith

pub unsigned_zero : (half : ℕ) (b : Bool) (m : ℕ) → m ≡ 0 → m ≡ unsigned half (made b m)
unsigned_zero half true zero e = refl
unsigned_zero half true (suc m) e = absurd (omega arith)
unsigned_zero half false m e = refl

pub unsigned_above : (half : ℕ) {b : Bool} (m : ℕ) → b ≡ false → m ≡ unsigned half (made b m)
unsigned_above half m e = ap (λ (b : Bool). unsigned half (made b m)) (sym e)

pub unsigned_under : (half : ℕ) {b : Bool} (m : ℕ) → b ≡ true → (m ≡ 0 → ⊥) → half + half - m ≡ unsigned half (made b m)
unsigned_under half m e h = unsigned_below half m (omega arith) ∙ ap (λ (b : Bool). unsigned half (made b m)) (sym e)

pub nearest_made : (most : ℕ) (b : Bool) (n : ℕ) → nearest most (made b n) ≡ made b (at_most most n)
nearest_made most false n = refl
nearest_made most true zero = let e = at_most_low most 0 (omega arith) in ap pos e ∙ sym (ap (made true) e)
nearest_made most true (suc n) = refl

at_most_twice : (a b n : ℕ) → a ≤ b → at_most a (at_most b n) ≡ at_most a n
at_most_twice a b n h = by (dec_lt b n)
  where
    by : Dec (b < n) → at_most a (at_most b n) ≡ at_most a n
    by (yes k) = ap (at_most a) (at_most_high b n (omega arith)) ∙ at_most_high a b h ∙ sym (at_most_high a n (omega arith))
    by (no k) = ap (at_most a) (at_most_low b n (omega arith))

-- what was told of a number fits as the number itself does
pub told_fits : (most : ℕ) → most ≤ largest → (b : Bool) (n : ℕ) {c : Bool} {m : ℕ} → c ≡ b → m ≡ at_most largest n →
    nearest most (made c m) ≡ nearest most (made b n)
told_fits most h b n p q =
    ap₂ (λ (x : Bool) (y : ℕ). nearest most (made x y)) p q ∙ nearest_made most b (at_most largest n)
    ∙ ap (made b) (at_most_twice most largest n h) ∙ sym (nearest_made most b n)

-- a corner: one more than the number told, in its field
pub corner_low : (n : ℕ) {m : ℕ} → m ≡ at_most largest n → m < 255 → m + 1 ≡ at_most 255 (n + 1)
corner_low n {m} e h = by (dec_lt largest n)
  where
    by : Dec (largest < n) → m + 1 ≡ at_most 255 (n + 1)
    by (yes k) = absurd (omega (arith, at_most_high largest n (omega arith)))
    by (no k) = let f = at_most_low largest n (omega arith) in omega (arith, at_most_low 255 (n + 1) (omega arith))

pub corner_high : (n : ℕ) {m : ℕ} → m ≡ at_most largest n → 255 ≤ m → 255 ≡ at_most 255 (n + 1)
corner_high n {m} e h = sym (at_most_high 255 (n + 1) (by (dec_lt largest n)))
  where
    by : Dec (largest < n) → 255 ≤ n + 1
    by (yes k) = omega arith
    by (no k) = omega (arith, at_most_low largest n (omega arith))

-- the field of a number
pub field_of : (half : ℕ) (b : Bool) (n : ℕ) {m r : ℕ} → m ≡ at_most (half - 1) n → r ≡ unsigned half (made b m) →
    r ≡ unsigned half (nearest (half - 1) (made b n))
field_of half b n p q = q ∙ ap (λ (k : ℕ). unsigned half (made b k)) p ∙ ap (unsigned half) (sym (nearest_made (half - 1) b n))

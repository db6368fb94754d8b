-- Signed numbers read from bytes, in the machine: the two cases, and the negation of a small number. Assumes nothing.
use Rattle.std.specs.Prelude.{ℕ, zero, suc, ◌+◌, ◌-◌, ◌<◌, ◌≤◌, ◌^◌, ◌≡◌, List, ℤ, pos, negsuc, ◌-ℤ◌, length}
use Rattle.std.proofs.Common.{sym, ap, ◌∙◌, arith, lt-ltb, le-ltb, to_z, of_z, SFits}
use Rattle.std.proofs.Math.IntN.{+ℤ_idl}
use Rattle.std.proofs.Math.ListN.{get_or-eq_default}
use Rattle.std.specs.Int.{w64}
use Rattle.std.proofs.lemmas.Int.{to_z_pos, to_z-of_z}
use Rattle.scene.specs.Bytes.{two_at, signed}

-- past the end two bytes are 0 too
pub past : (s : List ℕ) (i : ℕ) → length s ≤ i → 0 ≡ two_at s i
unfolding two_at
past s i h = sym (omega (arith, get_or-eq_default s 0 {n = i} h, get_or-eq_default s 0 {n = i + 1} (omega arith)))

pub signed_low : (h n : ℕ) → n < h → signed h n ≡ pos n
signed_low h n k = simp (lt-ltb n h k)

pub signed_high : (h n : ℕ) → h ≤ n → signed h n ≡ negsuc (h + h - 1 - n)
signed_high h n k = simp (le-ltb n h k)

minus : (m : ℕ) → 0 < m → pos 0 -ℤ pos m ≡ negsuc (m - 1)
minus zero h = absurd (omega arith)
minus (suc m) h = +ℤ_idl (negsuc m) ∙ ap negsuc (down m)
  where
    down : (m : ℕ) → m ≡ suc m - 1
    down m = omega arith

-- minus the number m, as the machine computes it
negated : (m : ℕ) → 0 < m → m < 2 ^ 63 → pos 0 -ℤ to_z w64 m ≡ negsuc (m - 1)
negated m h k = ap (λ (z : ℤ). pos 0 -ℤ z) (to_z_pos w64 m k) ∙ minus m h

pub negated_fits : (m : ℕ) → 0 < m → m < 2 ^ 63 → SFits w64 (pos 0 -ℤ to_z w64 m)
negated_fits m h k = rw (negated m h k) (record { sfits = omega arith })

-- n, as it was read, stands for itself below half, and from there for less
pub read_low : (half : ℕ) {n m : ℕ} → n ≡ m → n < 2 ^ 63 → n < half → to_z w64 n ≡ signed half m
read_low half {n} e f h = to_z_pos w64 n f ∙ sym (signed_low half n h) ∙ ap (signed half) e

pub read_high : (half : ℕ) {n m : ℕ} → n ≡ m → n < half + half → half < 2 ^ 62 → half ≤ n →
    to_z w64 (of_z w64 (pos 0 -ℤ to_z w64 (half + half - n))) ≡ signed half m
read_high half {n} e f b h =
    let k : ℕ = half + half - n in
    to_z-of_z w64 _ (negated_fits k (omega arith) (omega arith)) ∙ negated k (omega arith) (omega arith) ∙ ap negsuc (omega arith)
    ∙ sym (signed_high half n h) ∙ ap (signed half) e

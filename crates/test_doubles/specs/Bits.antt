-- Bits that are not a NaN's, and a double that is none. Assumes nothing.
use Rattle.std.specs.Prelude.{◌≡◌, Bool, true, not, ℕ, ◌*◌, ◌%◌, ◌≤◌, T, Float}
use Rattle.std.proofs.Common.{sym, ◌∙◌, subst, arith, le-ltb}
use Rattle.std.specs.Float.{nan, inf, fin, binary64}
use Rattle.std.specs.Float.Ieee.{eq, is_nan, hid, ones, top, nan_bits}
use Rattle.std.specs.Float.Ieee.Bits.{nan_bits_above}

pub no_nan_bits : (n : ℕ) → n % 9223372036854775808 ≤ 9218868437227405312 → T (not (nan_bits binary64 n))
no_nan_bits n h =
    subst (λ (b : Bool). T (not b)) (sym (nan_bits_above binary64 n ∙ le-ltb (ones binary64 * hid binary64) (n % top binary64) h)) tt

pub no_nan : (x : Float) → eq x x ≡ true → T (not (is_nan x))
unfolding eq is_nan
no_nan nan h = let k : ◌≡◌ {A = ℕ} 0 1 = cc in absurd (omega arith)
no_nan (inf s) h = tt
no_nan (fin s m e) h = tt

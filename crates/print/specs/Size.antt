-- The size of an i64 as the machine forms it, of a number that was stored and read back. Assumes nothing.
use Rattle.std.specs.Prelude.{◌≡◌, Bool, false, T, ℤ, pos, negsuc, nat_abs}
use Rattle.std.proofs.Common.{sym, ap, ◌∙◌, subst, arith, to_z, of_z, SFits, Fits}
use Rattle.std.specs.Int.Signed.{lt_z, non_neg}
use Rattle.std.specs.Int.{w64}
use Rattle.std.proofs.lemmas.Int.{to_z-of_z}

abbrev pub reread : ℤ → ℤ
reread z = to_z w64 (of_z w64 z)

-- the test of z's sign, of z as it was before it was stored
pub plain : {z : ℤ} {b : Bool} → SFits w64 z → lt_z (reread z) (pos 0) ≡ b → lt_z z (pos 0) ≡ b
plain {z} f h = sym (ap (λ (x : ℤ). lt_z x (pos 0)) (to_z-of_z w64 z f)) ∙ h

-- of a number that is not negative, its cast
pub casts : {z : ℤ} → SFits w64 z → lt_z (reread z) (pos 0) ≡ false → T (non_neg (reread z)) × Fits w64 (nat_abs (reread z))
casts {z = negsuc k} f h = absurd (subst T (plain f h) tt)
casts {z = pos n} f h =
    subst (λ (x : ℤ). T (non_neg x) × Fits w64 (nat_abs x)) (sym (to_z-of_z w64 (pos n) f)) (tt, omega (arith, f.sfits))

pub cast_size : {z : ℤ} → SFits w64 z → nat_abs (reread z) ≡ nat_abs z
cast_size {z} f = ap nat_abs (to_z-of_z w64 z f)

-- A signed number and the number that stands for it, in the machine: the two cases of `unsigned`. Assumes nothing.
use Rattle.std.specs.Prelude.{◌≡◌, refl, Bool, true, false, ℕ, suc, ◌-◌, ◌<◌, ◌^◌, ℤ, pos, negsuc, ◌-ℤ◌, ltb}
use Rattle.std.proofs.Common.{ap, ◌∙◌, arith, le-ltb, ltb-true, to_z, of_z, SFits, to_z-of_z}
use Rattle.std.specs.Int.Signed.{lt_z}
use Rattle.std.specs.Int.{w64}

-- -1 - v, as the machine has it, where v is below 0
pub record Below (v : ℤ) : Type 0 where
  pub size : ℕ
  pub is : v ≡ negsuc size
  pub flip : negsuc 0 -ℤ to_z w64 (of_z w64 v) ≡ pos size
  pub small : size < 2 ^ 63

minus : (n : ℕ) → negsuc 0 -ℤ negsuc n ≡ pos n
minus n = rw (le-ltb (suc n) 1 (omega arith)) (ap pos e)
  where
    e : suc n - 1 ≡ n
    e = omega arith

pub below : (v : ℤ) → SFits w64 v → lt_z (to_z w64 (of_z w64 v)) (pos 0) ≡ true → Below v
below (pos n) f h = absurd (bad (rw (to_z-of_z f) at h))
  where
    bad : ltb n 0 ≡ true → ⊥
    bad t = omega (arith, ltb-true n 0 t)
below (negsuc n) f h =
    record { size = n; is = refl; flip = ap (λ (z : ℤ). negsuc 0 -ℤ z) (to_z-of_z f) ∙ minus n; small = f.sfits }

pub record Above (v : ℤ) : Type 0 where
  pub size : ℕ
  pub is : v ≡ pos size
  pub small : size < 2 ^ 63

pub above : (v : ℤ) → SFits w64 v → lt_z (to_z w64 (of_z w64 v)) (pos 0) ≡ false → Above v
above (pos n) f h = record { size = n; is = refl; small = f.sfits }
above (negsuc n) f h = absurd (bad (rw (to_z-of_z f) at h))
  where
    bad : ◌≡◌ {A = Bool} true false → ⊥
    bad t = let z : ◌≡◌ {A = ℕ} 0 1 = cc in omega arith

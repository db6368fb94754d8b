-- The number that stands for a signed one, as the machine forms it, and the nine stores of a record. Assumes nothing.
use Rattle.std.specs.Prelude.{◌≡◌, ℕ, suc, ◌+◌, ◌-◌, ◌/◌, ◌%◌, ◌^◌, ◌<◌, ◌≤◌, Bool, true, false, T, List, [], ◌∷◌, ◌++◌, length, drop, ℤ, pos, negsuc, ◌-ℤ◌, FitsSigned, int_lt, nat_lt, slice_set, unsigned_abs}
use Rattle.std.proofs.Common.{sym, ap, ◌∙◌, subst, arith, ltb→lt, Fits}
use Rattle.std.proofs.Math.IntN.{+ℤ_idl}
use Rattle.std.proofs.lemmas.List.Edits.{sets-eq}
use Rattle.std.specs.Int.Signed.{non_neg}
use Rattle.std.specs.Int.{w64}
use Rattle.std.proofs.lemmas.Int.{to_z-of_z}
use Rattle.laws.specs.Size.{reread, again, reads}
use Rattle.scene.specs.Limits.{limits}
use Rattle.scene.specs.Arrays.{RowWithin}
use Rattle.scene.specs.Records.{markvx}
use Rattle.scene.specs.declared.Row.{Row}
use Rattle.doubles.specs.Record.{unsigned, vertex_bytes}

abbrev flip : ℤ → ℤ
flip z = pos 0 -ℤ reread z

module _ (k : ℕ) (h : FitsSigned w64 (negsuc k)) where
  flip_is : flip (negsuc k) ≡ pos (suc k)
  flip_is = ap (λ (z : ℤ). pos 0 -ℤ z) (to_z-of_z w64 (negsuc k) h) ∙ +ℤ_idl (pos (suc k))

  flip_back : suc k < 2 ^ 63 → reread (flip (negsuc k)) ≡ pos (suc k)
  flip_back l = ap reread flip_is ∙ to_z-of_z w64 (pos (suc k)) (record { sfits = l })

-- the test of z's sign, of z as it was before it was stored
plain : {z : ℤ} {b : Bool} → FitsSigned w64 z → int_lt (reread z) (pos 0) ≡ b → int_lt z (pos 0) ≡ b
plain {z} f h = sym (ap (λ (x : ℤ). int_lt x (pos 0)) (to_z-of_z w64 z f)) ∙ h

-- what the steps for a negative number ask and give
pub record Turns (half : ℕ) (z : ℤ) : Type 0 where
  pub negated : FitsSigned w64 (flip z)
  pub cast : T (non_neg (reread (flip z))) × Fits w64 (unsigned_abs (reread (flip z)))
  pub less : unsigned_abs (reread (flip z)) ≤ half + half
  pub answer : half + half - unsigned_abs (reread (flip z)) ≡ unsigned half z
  pub below : half + half - unsigned_abs (reread (flip z)) < half + half

pub turns : (half : ℕ) {z : ℤ} → FitsSigned w64 z → unsigned_abs z < half → half ≤ 32768 → int_lt (reread z) (pos 0) ≡ true → Turns half z
turns half {z = pos n} f a b h = absurd (omega (arith, ltb→lt n 0 (subst T (sym (plain f h)) tt)))
turns half {z = negsuc k} f a b h =
    let e = flip_back k f (omega arith) in
    let s = ap unsigned_abs e in
    record {
      negated = subst (FitsSigned w64) (sym (flip_is k f)) (record { sfits = omega arith });
      cast = subst (λ (x : ℤ). T (non_neg x) × Fits w64 (unsigned_abs x)) (sym e) (tt, omega arith);
      less = omega arith;
      answer = omega arith;
      below = omega arith;
    }

-- and of a number that is not negative
pub casts : {z : ℤ} → FitsSigned w64 z → int_lt (reread z) (pos 0) ≡ false → T (non_neg (reread z)) × Fits w64 (unsigned_abs (reread z))
casts {z = negsuc k} f h = absurd (subst T (plain f h) tt)
casts {z = pos n} f h =
    subst (λ (x : ℤ). T (non_neg x) × Fits w64 (unsigned_abs x)) (sym (to_z-of_z w64 (pos n) f)) (tt, omega (arith, f.sfits))

pub stays : (half : ℕ) {z : ℤ} → FitsSigned w64 z → unsigned_abs z < half → int_lt (reread z) (pos 0) ≡ false →
    (unsigned_abs (reread z) ≡ unsigned half z) × (unsigned_abs (reread z) < half + half)
stays half {z = negsuc k} f a h = absurd (subst T (plain f h) tt)
stays half {z = pos n} f a h = let e = ap unsigned_abs (to_z-of_z w64 (pos n) f) in (e, omega arith)

-- ---- a row's number, handed on

pub narrow : (z : ℤ) (n half : ℕ) → unsigned_abs z ≤ n → T (nat_lt n half) → T (nat_lt n (2 ^ 63)) → unsigned_abs (reread z) < half
narrow z n half h t l =
    let a = (again {N = n} {z = z} (record { size = h }) (ltb→lt n (2 ^ 63) l)).size in omega (arith, ltb→lt n half t)

as_it_is : (half : ℕ) (z : ℤ) {n k : ℕ} → unsigned_abs z ≤ n → k ≡ unsigned half (reread z) → T (nat_lt n (2 ^ 63)) → k ≡ unsigned half z
as_it_is half z {n} h e t =
    let p : reread z ≡ z = reads {N = n} {z = z} (record { size = h }) (ltb→lt n (2 ^ 63) t) in e ∙ ap (λ (k : ℤ). unsigned half k) p

-- ---- the nine stores

pub nine : (r : Row) (d : List ℕ) {x y z w : ℕ} (a b c e f g h i j : ℕ) → 9 ≤ length d → RowWithin limits r →
    (x ≡ unsigned 32768 (reread r.x)) → (y ≡ unsigned 32768 (reread r.y)) → (z ≡ unsigned 32768 (reread r.z)) →
    (w ≡ unsigned 128 (reread r.w)) → w < 256 →
    a ≡ markvx % 256 → b ≡ markvx / 256 → c ≡ x % 256 → e ≡ x / 256 → f ≡ y % 256 → g ≡ y / 256 → h ≡ z % 256 → i ≡ z / 256 → j ≡ w % 256 →
    slice_set (slice_set (slice_set (slice_set (slice_set (slice_set (slice_set (slice_set (slice_set d 0 a) 1 b) 2 c) 3 e) 4 f) 5 g) 6 h) 7 i) 8 j ≡ vertex_bytes r ++ drop 9 d
nine r d {x} {y} {z} {w} a b c e f g h i j room within ex ey ez ew small pa pb pc pe pf pg ph pi pj =
    let X : x ≡ unsigned 32768 r.x = as_it_is 32768 r.x within.x ex tt in
    let Y : y ≡ unsigned 32768 r.y = as_it_is 32768 r.y within.y ey tt in
    let Z : z ≡ unsigned 32768 r.z = as_it_is 32768 r.z within.z ez tt in
    let W : w ≡ unsigned 128 r.w = as_it_is 128 r.w within.w ew tt in
    let J : j ≡ w = omega arith in
    sets-eq (a ∷ b ∷ c ∷ e ∷ f ∷ g ∷ h ∷ i ∷ j ∷ []) d 0 room
    ∙ (λ k. pa k ∷ pb k ∷ (pc ∙ ap (λ (n : ℕ). n % 256) X) k ∷ (pe ∙ ap (λ (n : ℕ). n / 256) X) k
    ∷ (pf ∙ ap (λ (n : ℕ). n % 256) Y) k ∷ (pg ∙ ap (λ (n : ℕ). n / 256) Y) k
    ∷ (ph ∙ ap (λ (n : ℕ). n % 256) Z) k ∷ (pi ∙ ap (λ (n : ℕ). n / 256) Z) k ∷ (J ∙ W) k ∷ drop 9 d)

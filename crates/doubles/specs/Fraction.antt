-- Which doubles are whole numbers, by tests that the machine makes: below 2 ^ 53 in size a double is whole exactly when the number that it
-- is cut to is the same double; from there on every finite double is whole. Assumes nothing.
use Rattle.std.specs.Prelude.{◌≡◌, ℕ, zero, suc, ◌+◌, ◌-◌, ◌*◌, ◌/◌, ◌%◌, ◌^◌, ◌<◌, ◌≤◌, Bool, true, false, cond, not, ◌&&◌, ◌||◌, T, ltb, ℤ, pos, negsuc, neg_ℤ, ◌==◌, nat_eq, nat_le, nat_lt, unsigned_abs, Float}
use Rattle.std.proofs.Math.Path.{refl}
use Rattle.std.proofs.Common.{sym, ◌∙◌, ap, ap₂, subst, add-zero, mul-one, zero-mul, mul-pos, mul_right_comm, zero-lt-suc, le_refl, le_of_lt, lt_of_lt_of_le, lt_irrefl, mul-le-mul_right, div-lt_iff_lt-mul, div-add-mod', arith, ltb→lt, lt→ltb, eqb→eq, lit≤, pow_pos, to_z, of_z, to_z-of_z, ltb-true, ltb-false, le-ltb, eq-eqb}
use Rattle.std.specs.Bool.{beq}
use Rattle.std.proofs.Math.Nat.{mod-one, zero-mod, sub_self, min-eq_left, mul-mod_left, eq_of_mul-eq-mul_right}
use Rattle.std.specs.Float.{nan, inf, fin, binary64}
use Rattle.std.specs.Float.Ieee.{up, down, round, sum, add, sub, neg, lt, le, eq, fits, of_int, to_signed}
use Rattle.std.specs.Float.Ieee.Fits.{down_pos, and_l, and_r}
use Rattle.std.specs.Float.Ieee.Exact.{HasValue}
use Rattle.std.specs.Float.Ieee.Back.{round_whole}
use Rattle.std.specs.Float.Ieee.Scale.{round_same}
use Rattle.std.specs.Float.Ieee.Casts.{to_signed_in}
use Rattle.std.specs.Int.{w64}
use Rattle.doubles.specs.Whole.{Is, signed, signed_abs, is_whole, of_int_is}

abbrev ZERO : Float
ZERO = fin false 0 (pos 0)

-- 2 ^ 53, and where a number no longer fits an i64
abbrev pub LARGE : Float
LARGE = fin false 1 (pos 53)

never : {X : Type 0} → ◌≡◌ {A = Bool} false true → X
never h = let k : ◌≡◌ {A = ℕ} 0 1 = cc in absurd (omega arith)

-- ---- finite

abbrev pub is_finite : Float → Bool
is_finite nan = false
is_finite (inf s) = false
is_finite (fin s m e) = true

either : (b : Bool) → (b || true) ≡ true
either true = refl
either false = refl

eq_zero : (v : Float) (s : Bool) → HasValue v s 0 1 → eq v ZERO ≡ true
unfolding eq
eq_zero nan s v = elim v [ ]
eq_zero (inf _) s v = elim v [ ]
eq_zero (fin t m e) s v =
    let a : m * up e * 1 ≡ 0 = v.1 ∙ zero-mul (down e) in
    ap₂ (λ (i j : ℕ). (i == j) && (beq t false || i == 0)) a (zero-mul (down e)) ∙ either (beq t false)

none : (s : Bool) (R D : ℕ) → 0 < D → R ≡ 0 → eq (round binary64 s R D) ZERO ≡ true
none s R D h e =
    ap (λ (x : Float). eq x ZERO) (round_same binary64 s R D 0 1 h (zero-lt-suc 0) (mul-one R ∙ e ∙ sym (zero-mul D)))
    ∙ eq_zero (round binary64 s 0 1) s (round_whole binary64 s 0 (lit≤ tt))

less_itself : (s : Bool) (A c : ℕ) → 0 < c → eq (sum binary64 s A (not s) A c) ZERO ≡ true
unfolding sum
less_itself false A c h =
    ap (λ (b : Bool). eq (cond b (round binary64 true (A - A) c) (round binary64 (false && nat_lt A A) (A - A) c)) ZERO)
    (le-ltb A A (le_refl A))
    ∙ none (false && nat_lt A A) (A - A) c h (sub_self A)
less_itself true A c h =
    ap (λ (b : Bool). eq (cond b (round binary64 false (A - A) c) (round binary64 (true && nat_lt A A) (A - A) c)) ZERO)
    (le-ltb A A (le_refl A))
    ∙ none (true && nat_lt A A) (A - A) c h (sub_self A)

pub finite_test : (x : Float) → eq (sub binary64 x x) ZERO ≡ is_finite x
unfolding sub add neg
finite_test nan = unfold eq in refl
finite_test (inf true) = unfold eq in refl
finite_test (inf false) = unfold eq in refl
finite_test (fin s m e) = less_itself s (m * up e * down e) (down e * down e) (mul-pos (down_pos e) (down_pos e))

-- ---- below 2 ^ 53

-- what the two tests say of a finite double
small : (s : Bool) (m : ℕ) (e : ℤ) → lt (fin s m e) LARGE ≡ true → lt (neg LARGE) (fin s m e) ≡ true → m * up e < 2 ^ 53 * down e
unfolding lt neg
small false m e h g = plainly (m * up e) (down e) (ltb-true _ _ h)
  where
    plainly : (a d : ℕ) → a * 1 < 1 * 2 ^ 53 * d → a < 2 ^ 53 * d
    plainly a d h = subst (λ (k : ℕ). k < 2 ^ 53 * d) (mul-one a) h
small true m e h g = plainly (m * up e) (down e) (ltb-true _ _ g)
  where
    plainly : (a d : ℕ) → a * 1 < 1 * 2 ^ 53 * d → a < 2 ^ 53 * d
    plainly a d h = subst (λ (k : ℕ). k < 2 ^ 53 * d) (mul-one a) h

wider : (a d : ℕ) → a < 2 ^ 53 * d → a * 1 < 1 * 2 ^ 63 * d
wider a d h =
    let l : 2 ^ 53 ≤ 2 ^ 63 = lit≤ tt in subst (λ (k : ℕ). k < 2 ^ 63 * d) (sym (mul-one a)) (lt_of_lt_of_le h (mul-le-mul_right d l))

some : (d b : ℕ) → 0 < d → 0 < 1 * 2 ^ 63 * d + b
some d b h = omega arith

some' : (d b : ℕ) → 0 < d → 0 < b + 1 * 2 ^ 63 * d
some' d b h = omega arith

or_true : (a b : Bool) → T a → T (a || b)
or_true true b t = tt
or_true false b t = absurd t

-- the range that cutting asks for
pub from : (x : Float) → lt x LARGE ≡ true → lt (neg LARGE) x ≡ true → T (le (fin true 1 (pos 63)) x)
unfolding le lt neg
from nan h g = never h
from (inf true) h g = never g
from (inf false) h g = never h
from (fin false m e) h g =
    or_true (nat_lt 0 (1 * 2 ^ 63 * down e + m * up e * 1)) (eq (fin true 1 (pos 63)) (fin false m e))
    (lt→ltb 0 (1 * 2 ^ 63 * down e + m * up e * 1) (some (down e) (m * up e * 1) (down_pos e)))
from (fin true m e) h g =
    or_true (nat_lt (m * up e * 1) (1 * 2 ^ 63 * down e)) (eq (fin true 1 (pos 63)) (fin true m e))
    (lt→ltb (m * up e * 1) (1 * 2 ^ 63 * down e) (wider (m * up e) (down e) (small true m e h g)))

pub upto : (x : Float) → lt x LARGE ≡ true → lt (neg LARGE) x ≡ true → T (lt x (fin false 1 (pos 63)))
unfolding lt neg
upto nan h g = never h
upto (inf true) h g = never g
upto (inf false) h g = never h
upto (fin false m e) h g = lt→ltb (m * up e * 1) (1 * 2 ^ 63 * down e) (wider (m * up e) (down e) (small false m e h g))
upto (fin true m e) h g = lt→ltb 0 (m * up e * 1 + 1 * 2 ^ 63 * down e) (some' (down e) (m * up e * 1) (down_pos e))

-- ---- the number that it is cut to

-- two signed sizes are one number: the sizes are equal, and the signs too where that is not 0
same_size : (t s : Bool) (k q : ℕ) → signed t k ≡ signed s q → k ≡ q
same_size t s k q h = sym (signed_abs t k) ∙ ap unsigned_abs h ∙ signed_abs s q

same_sign : (t s : Bool) (k q A : ℕ) → signed t k ≡ signed s q → (k ≡ 0 → A ≡ 0) → (beq t s || A == 0) ≡ true
same_sign false false k q A h z = refl
same_sign true true k q A h z = refl
same_sign false true k zero A h z = eq-eqb A 0 (z (same_size false true k 0 h))
same_sign false true k (suc q) A h z = let k : ◌≡◌ {A = ℕ} 0 1 = cc in absurd (omega arith)
same_sign true false zero q A h z = eq-eqb A 0 (z refl)
same_sign true false (suc k) q A h z = let k : ◌≡◌ {A = ℕ} 0 1 = cc in absurd (omega arith)

module _ (t s : Bool) (n m : ℕ) (d e : ℤ) (v : Is (fin t n d) (signed s (m * up e / down e))) where
  abbrev a : ℕ
  a = m * up e

  abbrev D : ℕ
  D = down e

  abbrev A : ℕ
  A = n * up d * D

  A_is : A ≡ a / D * D * down d
  A_is =
      ap (λ (i : ℕ). i * D) (v.1 ∙ ap (λ (i : ℕ). i * down d) (same_size t s v.0 (a / D) v.2))
      ∙ mul_right_comm (a / D) (down d) D

  sign : (beq t s || A == 0) ≡ true
  sign =
      same_sign t s v.0 (a / D) A v.2
      (λ z. ap (λ (i : ℕ). i * D) (v.1 ∙ ap (λ (i : ℕ). i * down d) z ∙ zero-mul (down d)) ∙ zero-mul D)

  exactly : a % D ≡ 0 → a / D * D ≡ a
  exactly h = sym (add-zero (a / D * D)) ∙ ap (λ (i : ℕ). a / D * D + i) (sym h) ∙ div-add-mod' a D

  rest : A ≡ a * down d → a % D ≡ 0
  rest h =
      let p : a / D * D ≡ a = eq_of_mul-eq-mul_right (down d) (down_pos d) (a / D * D) a (sym A_is ∙ h) in
      ap (λ (i : ℕ). i % D) (sym p) ∙ mul-mod_left (a / D) D

  other : (b : Bool) → (a % D == 0) ≡ false → (T b → A ≡ a * down d) → b ≡ false
  other true p g = never (sym p ∙ eq-eqb (a % D) 0 (rest (g tt)))
  other false p g = refl

  level_is : (b : Bool) → (T b → a % D ≡ 0) → (a % D == 0) ≡ b → (A == a * down d && (beq t s || A == 0)) ≡ b
  level_is true f p = ap₂ ◌&&◌ (eq-eqb A (a * down d) (A_is ∙ ap (λ (i : ℕ). i * down d) (exactly (f tt)))) sign
  level_is false f p =
      ap (λ (b : Bool). b && (beq t s || A == 0)) (other (A == a * down d) p (eqb→eq A (a * down d)))

eq_cut : (y : Float) (s : Bool) (m : ℕ) (e : ℤ) → Is y (signed s (m * up e / down e)) → eq y (fin s m e) ≡ (m * up e % down e == 0)
unfolding eq
eq_cut nan s m e v = elim v [ ]
eq_cut (inf _) s m e v = elim v [ ]
eq_cut (fin t n d) s m e v = level_is t s n m d e v (m * up e % down e == 0) (eqb→eq (m * up e % down e) 0) refl

cut_is : (s : Bool) (m : ℕ) (e : ℤ) → m * up e / down e < 2 ^ 53 → to_signed 63 (fin s m e) ≡ signed s (m * up e / down e)
unfolding to_signed
cut_is false m e h = ap pos (min-eq_left (le_of_lt (lt_of_lt_of_le h (lit≤ tt))))
cut_is true m e h = ap (λ (k : ℕ). neg_ℤ (pos k)) (min-eq_left (le_of_lt (lt_of_lt_of_le h (lit≤ tt))))

pub cut_test : (x : Float) → lt x LARGE ≡ true → lt (neg LARGE) x ≡ true → eq (of_int binary64 (to_signed 63 x)) x ≡ is_whole x
cut_test nan h g = unfold lt in never h
cut_test (inf true) h g = unfold lt neg in never g
cut_test (inf false) h g = unfold lt in never h
cut_test (fin s m e) h g =
    let q = m * up e / down e in
    let l : q < 2 ^ 53 = (div-lt_iff_lt-mul (down_pos e)).1 (small s m e h g) in
    let y = of_int_is (signed s q) (lt→ltb (unsigned_abs (signed s q)) (2 ^ 53) (subst (λ (k : ℕ). k < 2 ^ 53) (sym (signed_abs s q)) l)) in
    ap (λ (z : ℤ). eq (of_int binary64 z) (fin s m e)) (cut_is s m e l) ∙ eq_cut (of_int binary64 (signed s q)) s m e y

-- the same, as it comes back from two calls
pub by_cut : (x : Float) {n : ℤ} {r : Float} → lt x LARGE ≡ true → lt (neg LARGE) x ≡ true → n ≡ to_signed 63 x →
    r ≡ of_int binary64 (to_z w64 (of_z w64 n)) → eq r x ≡ is_whole x
by_cut x {n} h g p q =
    ap (λ (y : Float). eq y x)
    (q ∙ ap (λ (z : ℤ). of_int binary64 (to_z w64 (of_z w64 z))) p ∙ ap (of_int binary64) (to_z-of_z {w = w64} (record { sfits = to_signed_in 63 x })))
    ∙ cut_test x h g

-- ---- from 2 ^ 53 on

-- what `fits` says of a fraction's significand
deep : (s : Bool) (m k : ℕ) → T (fits binary64 (fin s (suc m) (negsuc k))) → suc m < 2 ^ 53
unfolding fits
deep s m k t =
    let a : Bool = nat_eq (suc m % 2) 1 in
    let b : Bool = ltb (suc m) (2 ^ 53) in
    let c : Bool = nat_le (2 ^ suc k) (2 ^ 1074) in
    let d : Bool = ltb (suc m * 1) (2 ^ 1024 * 2 ^ suc k) in
    ltb→lt (suc m) (2 ^ 53) (and_r a b (and_l (a && b) c (and_l (a && b && c) d t)))

too_small : (m k : ℕ) → suc m < 2 ^ 53 → 1 * 2 ^ 53 * 2 ^ suc k ≤ suc m * 1 * 1 → ⊥
too_small m k h l =
    lt_irrefl (suc m)
    (lt_of_lt_of_le h (subst (λ (n : ℕ). 2 ^ 53 ≤ n) (mul-one (suc m * 1) ∙ mul-one (suc m)) (lt_or (2 ^ suc k) (pow_pos (suc k)) l)))
  where
    lt_or : (p : ℕ) → 0 < p → {n : ℕ} → 1 * 2 ^ 53 * p ≤ n → 2 ^ 53 ≤ n
    lt_or p h l = omega arith

above : (d b : ℕ) → 0 < d → b + 1 * 2 ^ 53 * d ≤ 0 → ⊥
above d b h l = omega arith

above' : (d b : ℕ) → 0 < d → 1 * 2 ^ 53 * d + b ≤ 0 → ⊥
above' d b h l = omega arith

pub large : (x : Float) → T (fits binary64 x) → lt x LARGE ≡ false → is_finite x ≡ is_whole x
unfolding lt
large nan t h = refl
large (inf s) t h = refl
large (fin s m (pos k)) t h = sym (ap (λ (i : ℕ). nat_eq i 0) (mod-one (m * 2 ^ k)))
large (fin s zero (negsuc k)) t h = sym (ap (λ (i : ℕ). nat_eq i 0) (zero-mod (2 ^ suc k)))
large (fin false (suc m) (negsuc k)) t h = absurd (too_small m k (deep false m k t) (ltb-false _ _ h))
large (fin true (suc m) (negsuc k)) t h = absurd (above (2 ^ suc k) (suc m * 1 * 1) (pow_pos (suc k)) (ltb-false 0 _ h))

pub low : (x : Float) → T (fits binary64 x) → lt (neg LARGE) x ≡ false → is_finite x ≡ is_whole x
unfolding lt neg
low nan t h = refl
low (inf s) t h = refl
low (fin s m (pos k)) t h = sym (ap (λ (i : ℕ). nat_eq i 0) (mod-one (m * 2 ^ k)))
low (fin s zero (negsuc k)) t h = sym (ap (λ (i : ℕ). nat_eq i 0) (zero-mod (2 ^ suc k)))
low (fin true (suc m) (negsuc k)) t h = absurd (too_small m k (deep true m k t) (ltb-false _ _ h))
low (fin false (suc m) (negsuc k)) t h = absurd (above' (2 ^ suc k) (suc m * 1 * 1) (pow_pos (suc k)) (ltb-false 0 _ h))

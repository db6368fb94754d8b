-- What it means that a double is a whole number, and that sums, differences and products of such doubles are whole numbers too, exactly,
-- as long as they are at most 2 ^ 53 in size. Minus zero is the number 0, as zero is: `Is` is an equality of numbers, not of bits.
-- Assumes nothing.
use Rattle.std.specs.Prelude.{◌≡◌, ℕ, zero, suc, ◌+◌, ◌-◌, ◌*◌, ◌/◌, ◌%◌, ◌^◌, ◌<◌, ◌≤◌, Bool, true, false, cond, not, ◌&&◌, T, ltb, ℤ, pos, negsuc, ◌+ℤ◌, ◌-ℤ◌, ◌*ℤ◌, neg_ℤ, ◌==◌, int_lt, nat_eq, nat_lt, unsigned_abs, refl, Float}
use Rattle.std.proofs.Common.{sym, ◌∙◌, ap, ap₂, subst, zero-le, mul-one, mul-pos, add-mul, mul_comm, mul_assoc, mul_right_comm, zero-lt-suc, lt_of_mul-lt-mul_right, le_of_mul-le-mul_right, mul-lt-mul_of_pos_right, mul-le-mul_right, le_of_lt, zero-mul, zero-add, add-zero, div-add-mod', mul-div_cancel, arith, ltb→lt, nltb→le, eqb→eq, lt-ltb, le-ltb}
use Rattle.std.proofs.Math.Nat.{mul-sub, mul-mul-mul_comm, mul-mod_left}
use Rattle.std.proofs.Math.Dec.{leb-suc-suc}
use Rattle.std.proofs.Math.IntN.{neg_ℤ-neg_ℤ, neg_ℤ-+ℤ, +ℤ_comm, +ℤ_assoc, +ℤ_idl, +ℤ_invl, *ℤ_comm}
use Rattle.std.specs.Float.{nan, inf, fin, binary64}
use Rattle.std.specs.Float.Ieee.{unlike, up, down, round, neg, sum, add, sub, mul, below, lt, of_int}
use Rattle.std.specs.Float.Ieee.Fits.{down_pos}
use Rattle.std.specs.Float.Ieee.Exact.{HasValue}
use Rattle.std.specs.Float.Ieee.Back.{round_whole}
use Rattle.std.specs.Float.Ieee.Scale.{round_same}
use Rattle.laws.specs.Size.{size_neg}
use Rattle.laws.specs.Integers.{negℤ-*ℤ}

-- the number of the size n, negative where s is true
abbrev pub signed : Bool → ℕ → ℤ
signed false n = pos n
signed true n = neg_ℤ (pos n)

-- the double x is the whole number z
abbrev pub Is : Float → ℤ → Type 0
Is nan z = ⊥
Is (inf s) z = ⊥
Is (fin s m e) z = (n : ℕ) × (m * up e ≡ n * down e) × (signed s n ≡ z)

pub signed_abs : (s : Bool) (n : ℕ) → unsigned_abs (signed s n) ≡ n
signed_abs false n = refl
signed_abs true n = size_neg (pos n)

signed_not : (s : Bool) (n : ℕ) → signed (not s) n ≡ neg_ℤ (signed s n)
signed_not false n = refl
signed_not true n = sym (neg_ℤ-neg_ℤ (pos n))

-- ---- rounding a fraction that is a whole number

of_value : (x : Float) (s : Bool) (n : ℕ) → HasValue x s n 1 → Is x (signed s n)
of_value nan s n v = elim v [ ]
of_value (inf _) s n v = elim v [ ]
of_value (fin t m e) s n v = (n, sym (mul-one (m * up e)) ∙ v.1, ap (λ (b : Bool). signed b n) v.0)

pub rounded : (s : Bool) (num den n : ℕ) → 0 < den → num ≡ n * den → n ≤ 2 ^ 53 → Is (round binary64 s num den) (signed s n)
rounded s num den n d h l =
    subst (λ (x : Float). Is x (signed s n)) (sym (round_same binary64 s num den n 1 d (zero-lt-suc 0) (mul-one num ∙ h)))
    (of_value (round binary64 s n 1) s n (round_whole binary64 s n l))

-- ---- products

mul_neg : (p q : ℕ) → pos p *ℤ neg_ℤ (pos q) ≡ neg_ℤ (pos (p * q))
mul_neg p q = *ℤ_comm (pos p) (neg_ℤ (pos q)) ∙ negℤ-*ℤ (pos q) (pos p) ∙ ap (λ (k : ℕ). neg_ℤ (pos k)) (mul_comm q p)

signed_mul : (s t : Bool) (p q : ℕ) → signed (unlike s t) (p * q) ≡ signed s p *ℤ signed t q
signed_mul false false p q = refl
signed_mul false true p q = sym (mul_neg p q)
signed_mul true false p q = sym (negℤ-*ℤ (pos p) (pos q))
signed_mul true true p q =
    sym (negℤ-*ℤ (pos p) (neg_ℤ (pos q)) ∙ ap neg_ℤ (mul_neg p q) ∙ neg_ℤ-neg_ℤ (pos (p * q)))

pub mul_is : (x y : Float) (a b : ℤ) → Is x a → Is y b → unsigned_abs (a *ℤ b) ≤ 2 ^ 53 → Is (mul binary64 x y) (a *ℤ b)
unfolding mul
mul_is nan y a b v w l = elim v [ ]
mul_is (inf _) y a b v w l = elim v [ ]
mul_is (fin s m e) nan a b v w l = elim w [ ]
mul_is (fin s m e) (inf _) a b v w l = elim w [ ]
mul_is (fin s m e) (fin t n d) a b v w l =
    let p = v.0 in
    let q = w.0 in
    let z : signed (unlike s t) (p * q) ≡ a *ℤ b = signed_mul s t p q ∙ ap₂ ◌*ℤ◌ v.2 w.2 in
    let k : unsigned_abs (a *ℤ b) ≡ p * q = ap unsigned_abs (sym z) ∙ signed_abs (unlike s t) (p * q) in
    subst (λ (i : ℤ). Is (round binary64 (unlike s t) (m * up e * (n * up d)) (down e * down d)) i) z
    (rounded (unlike s t) (m * up e * (n * up d)) (down e * down d) (p * q) (mul-pos (down_pos e) (down_pos d))
    (ap₂ ◌*◌ v.1 w.1 ∙ mul-mul-mul_comm p (down e) q (down d))
    (subst (λ (i : ℕ). i ≤ 2 ^ 53) k l))

-- ---- sums

signed_add : (s : Bool) (p q : ℕ) → signed s (p + q) ≡ signed s p +ℤ signed s q
signed_add false p q = refl
signed_add true p q = neg_ℤ-+ℤ (pos p) (pos q)

rest : (p q : ℕ) → p ≤ q → q ≡ p + (q - p)
rest p q h = omega arith

cancel : (t : Bool) (p q : ℕ) → p ≤ q → signed (not t) p +ℤ signed t q ≡ signed t (q - p)
cancel t p q h =
    ap (λ (k : ℕ). signed (not t) p +ℤ signed t k) (rest p q h)
    ∙ ap (λ (z : ℤ). signed (not t) p +ℤ z) (signed_add t p (q - p))
    ∙ sym (+ℤ_assoc (signed (not t) p) (signed t p) (signed t (q - p)))
    ∙ ap (λ (z : ℤ). z +ℤ signed t (q - p)) (ap (λ (z : ℤ). z +ℤ signed t p) (signed_not t p) ∙ +ℤ_invl (signed t p))
    ∙ +ℤ_idl (signed t (q - p))

cancel' : (t : Bool) (p q : ℕ) → q ≤ p → signed (not t) p +ℤ signed t q ≡ signed (not t) (p - q)
cancel' false p q h = +ℤ_comm (signed true p) (signed false q) ∙ cancel true q p h
cancel' true p q h = +ℤ_comm (signed false p) (signed true q) ∙ cancel false q p h

-- a zero has either sign
drop_sign : (s b : Bool) (n : ℕ) → (T (not b) → n ≡ 0) → signed (s && b) n ≡ signed s n
drop_sign false b n h = refl
drop_sign true true n h = refl
drop_sign true false n h = ap (λ (k : ℕ). pos k) (h tt) ∙ ap (λ (k : ℕ). neg_ℤ (pos k)) (sym (h tt))

sub_mul : (p q c : ℕ) → p * c - q * c ≡ (p - q) * c
sub_mul p q c = ap₂ ◌-◌ (mul_comm p c) (mul_comm q c) ∙ sym (mul-sub c p q) ∙ mul_comm c (p - q)

none : (p q : ℕ) → p ≤ q → p - q ≡ 0
none p q h = omega arith

apart : (t : Bool) (p q c : ℕ) → 0 < c → unsigned_abs (signed (not t) p +ℤ signed t q) ≤ 2 ^ 53
    → Is (cond (nat_lt (p * c) (q * c)) (round binary64 t (q * c - p * c) c) (round binary64 (not t && nat_lt (q * c) (p * c)) (p * c - q * c) c))
    (signed (not t) p +ℤ signed t q)
apart t p q c h l = go (nat_lt (p * c) (q * c)) (ltb→lt (p * c) (q * c)) (nltb→le (p * c) (q * c))
  where
    go : (b : Bool) → (T b → p * c < q * c) → (T (not b) → q * c ≤ p * c)
        → Is (cond b (round binary64 t (q * c - p * c) c) (round binary64 (not t && nat_lt (q * c) (p * c)) (p * c - q * c) c))
        (signed (not t) p +ℤ signed t q)
    go true y n =
        let e : signed (not t) p +ℤ signed t q ≡ signed t (q - p) = cancel t p q (le_of_lt (lt_of_mul-lt-mul_right c (y tt))) in
        subst (λ (z : ℤ). Is (round binary64 t (q * c - p * c) c) z) (sym e)
        (rounded t (q * c - p * c) c (q - p) h (sub_mul q p c) (subst (λ (i : ℕ). i ≤ 2 ^ 53) (ap unsigned_abs e ∙ signed_abs t (q - p)) l))
    go false y n =
        let e : signed (not t) p +ℤ signed t q ≡ signed (not t) (p - q) = cancel' t p q (le_of_mul-le-mul_right (n tt) h) in
        let d : signed (not t && nat_lt (q * c) (p * c)) (p - q) ≡ signed (not t) (p - q) =
        drop_sign (not t) (nat_lt (q * c) (p * c)) (p - q) (λ k. none p q (le_of_mul-le-mul_right (nltb→le (q * c) (p * c) k) h)) in
        subst (λ (z : ℤ). Is (round binary64 (not t && nat_lt (q * c) (p * c)) (p * c - q * c) c) z) (d ∙ sym e)
        (rounded (not t && nat_lt (q * c) (p * c)) (p * c - q * c) c (p - q) h (sub_mul p q c)
        (subst (λ (i : ℕ). i ≤ 2 ^ 53) (ap unsigned_abs e ∙ signed_abs (not t) (p - q)) l))

alike : (s : Bool) (p q c : ℕ) → 0 < c → unsigned_abs (signed s p +ℤ signed s q) ≤ 2 ^ 53 →
    Is (round binary64 s (p * c + q * c) c) (signed s p +ℤ signed s q)
alike s p q c h l =
    subst (λ (z : ℤ). Is (round binary64 s (p * c + q * c) c) z) (signed_add s p q)
    (rounded s (p * c + q * c) c (p + q) h (sym (add-mul p q c))
    (subst (λ (i : ℕ). i ≤ 2 ^ 53) (ap unsigned_abs (sym (signed_add s p q)) ∙ signed_abs s (p + q)) l))

sum_is : (s t : Bool) (p q c : ℕ) → 0 < c → unsigned_abs (signed s p +ℤ signed t q) ≤ 2 ^ 53 →
    Is (sum binary64 s (p * c) t (q * c) c) (signed s p +ℤ signed t q)
unfolding sum
sum_is false false p q c h l = alike false p q c h l
sum_is true true p q c h l = alike true p q c h l
sum_is false true p q c h l = apart true p q c h l
sum_is true false p q c h l = apart false p q c h l

pub add_is : (x y : Float) (a b : ℤ) → Is x a → Is y b → unsigned_abs (a +ℤ b) ≤ 2 ^ 53 → Is (add binary64 x y) (a +ℤ b)
unfolding add
add_is nan y a b v w l = elim v [ ]
add_is (inf _) y a b v w l = elim v [ ]
add_is (fin s m e) nan a b v w l = elim w [ ]
add_is (fin s m e) (inf _) a b v w l = elim w [ ]
add_is (fin s m e) (fin t n d) a b v w l =
    let p = v.0 in
    let q = w.0 in
    let c = down e * down d in
    let z : signed s p +ℤ signed t q ≡ a +ℤ b = ap₂ ◌+ℤ◌ v.2 w.2 in
    let A : m * up e * down d ≡ p * c = ap (λ (k : ℕ). k * down d) v.1 ∙ mul_assoc p (down e) (down d) in
    let B : n * up d * down e ≡ q * c = ap (λ (k : ℕ). k * down e) w.1 ∙ mul_right_comm q (down d) (down e)
    ∙ mul_assoc q (down e) (down d) in
    subst (λ (k : ℕ). Is (sum binary64 s k t (n * up d * down e) c) (a +ℤ b)) (sym A)
    (subst (λ (k : ℕ). Is (sum binary64 s (p * c) t k c) (a +ℤ b)) (sym B)
    (subst (λ (k : ℤ). Is (sum binary64 s (p * c) t (q * c) c) k) z
    (sum_is s t p q c (mul-pos (down_pos e) (down_pos d)) (subst (λ (k : ℤ). unsigned_abs k ≤ 2 ^ 53) (sym z) l))))

pub neg_is : (x : Float) (a : ℤ) → Is x a → Is (neg x) (neg_ℤ a)
unfolding neg
neg_is nan a v = elim v [ ]
neg_is (inf _) a v = elim v [ ]
neg_is (fin s m e) a v = (v.0, v.1, signed_not s v.0 ∙ ap neg_ℤ v.2)

pub sub_is : (x y : Float) (a b : ℤ) → Is x a → Is y b → unsigned_abs (a -ℤ b) ≤ 2 ^ 53 → Is (sub binary64 x y) (a -ℤ b)
unfolding sub
sub_is x y a b v w l = add_is x (neg y) a (neg_ℤ b) v (neg_is y b w) l

-- ---- a whole number as a double

pub of_int_is : (z : ℤ) → T (nat_lt (unsigned_abs z) (2 ^ 53)) → Is (of_int binary64 z) z
unfolding of_int
of_int_is (pos n) t = of_value (round binary64 false n 1) false n (round_whole binary64 false n (le_of_lt (ltb→lt n (2 ^ 53) t)))
of_int_is (negsuc n) t =
    of_value (round binary64 true (suc n) 1) true (suc n) (round_whole binary64 true (suc n) (le_of_lt (ltb→lt (suc n) (2 ^ 53) t)))

-- Two doubles that are one whole number differ at most in the sign of a zero. With zero added they are one double: that of the number.
settle : (s : Bool) (p c : ℕ) → 0 < c → sum binary64 s (p * c) false 0 c ≡ of_int binary64 (signed s p)
unfolding sum of_int
settle false p c h = round_same binary64 false (p * c + 0) c p 1 h (zero-lt-suc 0) (mul-one (p * c + 0) ∙ add-zero (p * c))
settle true zero c h =
    ap (λ (k : ℕ). cond (nat_lt k 0) (round binary64 false (0 - k) c) (round binary64 (nat_lt 0 k) (k - 0) c)) (zero-mul c)
    ∙ round_same binary64 false 0 c 0 1 h (zero-lt-suc 0) (sym (zero-mul c))
settle true (suc p) c h =
    let k = suc p * c in
    let above : 0 < k = mul-pos (zero-lt-suc p) h in
    ap (λ (b : Bool). cond b (round binary64 false (0 - k) c) (round binary64 (nat_lt 0 k) (k - 0) c)) (le-ltb k 0 zero-le)
    ∙ ap (λ (b : Bool). round binary64 b (k - 0) c) (lt-ltb 0 k above)
    ∙ round_same binary64 true (k - 0) c (suc p) 1 h (zero-lt-suc 0) (omega arith)

pub plus_zero : (x : Float) (z : ℤ) → Is x z → add binary64 x (fin false 0 (pos 0)) ≡ of_int binary64 z
unfolding add
plus_zero nan z v = elim v [ ]
plus_zero (inf _) z v = elim v [ ]
plus_zero (fin s m e) z v =
    let p = v.0 in
    let c = down e * 1 in
    let A : m * up e * 1 ≡ p * c = mul-one (m * up e) ∙ v.1 ∙ ap (λ (k : ℕ). p * k) (sym (mul-one (down e))) in
    ap₂ (λ (i j : ℕ). sum binary64 s i false j c) A (zero-mul (down e)) ∙ settle s p c (mul-pos (down_pos e) (zero-lt-suc 0))
    ∙ ap (λ (k : ℤ). of_int binary64 k) v.2

-- ---- comparisons

scaled_lt : (p q c : ℕ) → 0 < c → nat_lt (p * c) (q * c) ≡ nat_lt p q
scaled_lt p q c h = go (nat_lt p q) (ltb→lt p q) (nltb→le p q)
  where
    go : (b : Bool) → (T b → p < q) → (T (not b) → q ≤ p) → nat_lt (p * c) (q * c) ≡ b
    go true y n = lt-ltb (p * c) (q * c) (mul-lt-mul_of_pos_right (y tt) h)
    go false y n = le-ltb (p * c) (q * c) (mul-le-mul_right c (n tt))

some : (k : ℕ) (i j : ℕ) → 0 < i → 0 < i + j
some k i j h = omega arith

lt_suc : (p q : ℕ) → nat_lt (suc p) (suc q) ≡ nat_lt p q
lt_suc p q = leb-suc-suc (suc p) q

below_is : (s t : Bool) (p q c : ℕ) → 0 < c → below s (p * c) t (q * c) ≡ int_lt (signed s p) (signed t q)
below_is false false p q c h = scaled_lt p q c h
below_is false true p zero c h = sym (le-ltb p 0 zero-le)
below_is false true p (suc q) c h = refl
below_is true false zero q c h =
    ap (λ (k : ℕ). ltb 0 (k + q * c)) (zero-mul c) ∙ ap (λ (k : ℕ). ltb 0 k) (zero-add (q * c))
    ∙ ap (λ (k : ℕ). ltb k (q * c)) (sym (zero-mul c)) ∙ scaled_lt 0 q c h
below_is true false (suc p) q c h = lt-ltb 0 (suc p * c + q * c) (some p (suc p * c) (q * c) (mul-pos (zero-lt-suc p) h))
below_is true true zero zero c h = scaled_lt 0 0 c h
below_is true true zero (suc q) c h = scaled_lt (suc q) 0 c h ∙ le-ltb (suc q) 0 zero-le
below_is true true (suc p) zero c h = scaled_lt 0 (suc p) c h ∙ lt-ltb 0 (suc p) (zero-lt-suc p)
below_is true true (suc p) (suc q) c h = scaled_lt (suc q) (suc p) c h ∙ lt_suc q p

pub lt_is : (x y : Float) (a b : ℤ) → Is x a → Is y b → lt x y ≡ int_lt a b
unfolding lt
lt_is nan y a b v w = elim v [ ]
lt_is (inf _) y a b v w = elim v [ ]
lt_is (fin s m e) nan a b v w = elim w [ ]
lt_is (fin s m e) (inf _) a b v w = elim w [ ]
lt_is (fin s m e) (fin t n d) a b v w =
    let p = v.0 in
    let q = w.0 in
    let c = down e * down d in
    let A : m * up e * down d ≡ p * c = ap (λ (k : ℕ). k * down d) v.1 ∙ mul_assoc p (down e) (down d) in
    let B : n * up d * down e ≡ q * c = ap (λ (k : ℕ). k * down e) w.1 ∙ mul_right_comm q (down d) (down e)
    ∙ mul_assoc q (down e) (down d) in
    ap₂ (λ (i j : ℕ). below s i t j) A B ∙ below_is s t p q c (mul-pos (down_pos e) (down_pos d)) ∙ ap₂ int_lt v.2 w.2

-- ---- which doubles are whole numbers, by a test, and which numbers those are

abbrev pub is_whole : Float → Bool
is_whole nan = false
is_whole (inf s) = false
is_whole (fin s m e) = m * up e % down e == 0

abbrev pub value_of : Float → ℤ
value_of nan = pos 0
value_of (inf s) = pos 0
value_of (fin s m e) = signed s (m * up e / down e)

-- the test passes exactly at the whole numbers
pub whole_is : (x : Float) → T (is_whole x) → Is x (value_of x)
whole_is nan t = elim t [ ]
whole_is (inf _) t = elim t [ ]
whole_is (fin s m e) t =
    let k = m * up e in (
      k / down e,
      sym (div-add-mod' k (down e)) ∙ ap (λ (i : ℕ). k / down e * down e + i) (eqb→eq
          (k % down e) 0 t) ∙ add-zero (k / down e * down e),
      refl,
    )

pub is_whole_law : (x : Float) (z : ℤ) → Is x z → (is_whole x ≡ true) × (value_of x ≡ z)
is_whole_law nan z v = elim v [ ]
is_whole_law (inf _) z v = elim v [ ]
is_whole_law (fin s m e) z v = (
  ap (λ (k : ℕ). nat_eq (k % down e) 0) v.1 ∙ ap (λ (k : ℕ). nat_eq k 0) (mul-mod_left v.0 (down e)),
  ap (λ (k : ℕ). signed s (k / down e)) v.1 ∙ ap (λ (k : ℕ). signed s k) (mul-div_cancel v.0 (down_pos e)) ∙ v.2,
)

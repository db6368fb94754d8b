-- Sizes of whole numbers: `Small N z` says that z is from -N to N. A product's size is the product of the sizes, a sum's and a
-- difference's at most their sum, and a number of size below 2 ^ 63 fits an i64. Assumes nothing.
use Rattle.std.specs.Prelude.{◌≡◌, refl, Bool, true, false, cond, ℕ, zero, suc, ◌+◌, ◌-◌, ◌*◌, ◌^◌, ◌≤◌, ◌<◌, T, ltb, ℤ, pos, negsuc, neg_ℤ, nat_abs, ◌+ℤ◌, ◌-ℤ◌, ◌*ℤ◌}
use Rattle.std.proofs.Common.{sym, ◌∙◌, subst, le_refl, le_trans, lt_of_le_of_lt, add-le-add, mul-le-mul, arith, ltb→lt, SFits, to_z, of_z, to_z-of_z}
use Rattle.std.proofs.Math.IntN.{sub_ℕ}
use Rattle.std.specs.Int.Signed.{mag}
use Rattle.std.specs.Int.{w64}

pub record Small (N : ℕ) (z : ℤ) : Type 0 where
  pub size : nat_abs z ≤ N

pub size_neg : (z : ℤ) → nat_abs (neg_ℤ z) ≡ nat_abs z
size_neg (pos zero) = refl
size_neg (pos (suc n)) = refl
size_neg (negsuc n) = refl

pub size_mul : (a b : ℤ) → nat_abs (a *ℤ b) ≡ nat_abs a * nat_abs b
size_mul (pos a) (pos b) = refl
size_mul (pos a) (negsuc b) = size_neg (pos (a * suc b))
size_mul (negsuc a) (pos b) = size_neg (pos (suc a * b))
size_mul (negsuc a) (negsuc b) = refl

size_pick : (t : Bool) (a b : ℕ) → (T t → a < b) → nat_abs (cond t (negsuc (b - suc a)) (pos (a - b))) ≤ a + b
size_pick true a b h = let l : a < b = h tt in omega arith
size_pick false a b h = omega arith

size_sub : (a b : ℕ) → nat_abs (sub_ℕ a b) ≤ a + b
size_sub a b = size_pick (ltb a b) a b (ltb→lt a b)

pub size_add : (a b : ℤ) → nat_abs (a +ℤ b) ≤ nat_abs a + nat_abs b
size_add (pos a) (pos b) = le_refl (a + b)
size_add (pos a) (negsuc b) = size_sub a (suc b)
size_add (negsuc a) (pos b) = let h : nat_abs (sub_ℕ b (suc a)) ≤ b + suc a = size_sub b (suc a) in omega arith
size_add (negsuc a) (negsuc b) = omega arith

pub mag_size : (z : ℤ) → mag z ≤ nat_abs z
mag_size (pos n) = le_refl n
mag_size (negsuc n) = omega arith

infixl 7 ◌⊗◌
infixl 6 ◌⊕◌ ◌⊖◌
pub ◌⊗◌ : {A B : ℕ} {a b : ℤ} → Small A a → Small B b → Small (A * B) (a *ℤ b)
◌⊗◌ {A} {B} {a} {b} p q = record { size = subst (λ (n : ℕ). n ≤ A * B) (sym (size_mul a b)) (mul-le-mul p.size q.size) }

pub ◌⊕◌ : {A B : ℕ} {a b : ℤ} → Small A a → Small B b → Small (A + B) (a +ℤ b)
◌⊕◌ {A} {B} {a} {b} p q = record { size = le_trans (size_add a b) (add-le-add p.size q.size) }

pub minus : {B : ℕ} {b : ℤ} → Small B b → Small B (neg_ℤ b)
minus {B} {b} q = record { size = subst (λ (n : ℕ). n ≤ B) (sym (size_neg b)) q.size }

pub ◌⊖◌ : {A B : ℕ} {a b : ℤ} → Small A a → Small B b → Small (A + B) (a -ℤ b)
p ⊖ q = p ⊕ minus q

pub exactly : (z : ℤ) → Small (nat_abs z) z
exactly z = record { size = le_refl (nat_abs z) }

pub below : {A B : ℕ} {z : ℤ} → Small A z → A ≤ B → Small B z
below p h = record { size = le_trans p.size h }

pub fits64 : {N : ℕ} {z : ℤ} → Small N z → N < 2 ^ 63 → SFits w64 z
fits64 {z = z} p h = record { sfits = lt_of_le_of_lt (le_trans (mag_size z) p.size) h }

-- What the machine forms: v is z, of size at most N, and z fits an i64. A local holds the bits of v, and the next operation
-- reads them back.
pub record Held (N : ℕ) (v z : ℤ) : Type 0 where
  pub same : v ≡ z
  pub size : nat_abs z ≤ N
  pub fits : SFits w64 z

-- what a need asks of the number that is formed, and what is read back from its bits
pub fit : {N : ℕ} {v z : ℤ} → Held N v z → SFits w64 v
fit h = subst (SFits w64) (sym h.same) h.fits

pub kept : {N : ℕ} {v z : ℤ} → Held N v z → to_z w64 (of_z w64 v) ≡ z
kept {v = v} h = to_z-of_z {w = w64} {z = v} (fit h) ∙ h.same

-- a parameter, a field or a literal; at its own size, or at a bound
pub var : {z : ℤ} → SFits w64 z → Held (nat_abs z) z z
var {z} f = record { same = refl; size = le_refl (nat_abs z); fits = f }

pub held : {N : ℕ} {z : ℤ} → Small N z → N < 2 ^ 63 → Held N z z
held p h = record { same = refl; size = p.size; fits = fits64 p h }

pub formed : {N : ℕ} {v z : ℤ} → v ≡ z → Small N z → N < 2 ^ 63 → Held N v z
formed e p h = record { same = e; size = p.size; fits = fits64 p h }

small : {N : ℕ} {v z : ℤ} → Held N v z → Small N z
small p = record { size = p.size }

pub times : {A B : ℕ} {u v a b : ℤ} → Held A u a → Held B v b → A * B < 2 ^ 63 →
    Held (A * B) (to_z w64 (of_z w64 u) *ℤ to_z w64 (of_z w64 v)) (a *ℤ b)
times p q h = formed (λ i. kept p i *ℤ kept q i) (small p ⊗ small q) h

pub plus : {A B : ℕ} {u v a b : ℤ} → Held A u a → Held B v b → A + B < 2 ^ 63 →
    Held (A + B) (to_z w64 (of_z w64 u) +ℤ to_z w64 (of_z w64 v)) (a +ℤ b)
plus p q h = formed (λ i. kept p i +ℤ kept q i) (small p ⊕ small q) h

pub less : {A B : ℕ} {u v a b : ℤ} → Held A u a → Held B v b → A + B < 2 ^ 63 →
    Held (A + B) (to_z w64 (of_z w64 u) -ℤ to_z w64 (of_z w64 v)) (a -ℤ b)
less p q h = formed (λ i. kept p i -ℤ kept q i) (small p ⊖ small q) h

-- a number that a local holds, read back from its bits
abbrev pub reread : ℤ → ℤ
reread z = to_z w64 (of_z w64 z)

pub reads : {N : ℕ} {z : ℤ} → Small N z → N < 2 ^ 63 → reread z ≡ z
reads p h = to_z-of_z {w = w64} (fits64 p h)

pub again : {N : ℕ} {z : ℤ} → Small N z → N < 2 ^ 63 → Small N (reread z)
again {N} p h = subst (Small N) (sym (reads p h)) p

-- a call's result, handed on: its range is the call's `.ok`
pub called : {r z : ℤ} → mag r < 2 ^ 63 → r ≡ z → reread r ≡ z
called h e = to_z-of_z {w = w64} (record { sfits = h }) ∙ e

-- Polynomial identities over ℤ, by computation. An identity is stated in plain `◌+ℤ◌`, `◌-ℤ◌`, `◌*ℤ◌`, `neg_ℤ`; its two sides are also
-- written as `Expr`, whose value (`eval`) computes to the plain side; `ring` brings both to a normal form, and `tt` shows that the
-- difference is zero. Normal form: a tree `node v p q` for x_v · p + q, the numbers of the variables not falling along p and rising along
-- q. Only the native comparison of those numbers is computed, with sums and products of literals: nothing goes by the size of a number.
-- Assumes nothing.
use Rattle.std.specs.Prelude.{◌≡◌, refl, Bool, true, false, List, T, get_or, ℤ, pos, negsuc, neg_ℤ, ◌+ℤ◌, ◌-ℤ◌, ◌*ℤ◌}
use Rattle.std.proofs.Common.{sym, ◌∙◌, ap, ap₂, eqb→eq}
use Prim.Native.Nat.{ℕ, zero, suc, compare, Ordering}
use Rattle.std.proofs.Math.Dec.{compare_is_eq}
use Rattle.std.proofs.Math.IntN.{+ℤ_idl, +ℤ_idr, +ℤ_assoc, +ℤ_comm, +ℤ_invr, zero-*ℤ, *ℤ-zero, *ℤ_comm}
use Rattle.laws.specs.Integers.{swap_mid, *ℤ_distl, *ℤ_distr, *ℤ_assoc, zero-sub→eq, *ℤ_1, 1_*ℤ, minus-1-*ℤ}

infixl 6 ◌⊕◌ ◌⊖◌
infixl 7 ◌⊗◌
infixl 8 ⊝◌
pub data Expr : Type 0 where
  var : ℕ → Expr
  lit : ℤ → Expr
  ⊝◌ : Expr → Expr
  ◌⊕◌ : Expr → Expr → Expr
  ◌⊖◌ : Expr → Expr → Expr
  ◌⊗◌ : Expr → Expr → Expr

abbrev pub eval : (ℕ → ℤ) → Expr → ℤ
eval x (var i) = x i
eval x (lit c) = c
eval x (⊝ e) = neg_ℤ (eval x e)
eval x (e ⊕ f) = eval x e +ℤ eval x f
eval x (e ⊖ f) = eval x e -ℤ eval x f
eval x (e ⊗ f) = eval x e *ℤ eval x f

-- the variables' values, as a list
abbrev pub env : List ℤ → ℕ → ℤ
env l i = get_or l i (pos zero)

-- ---- the normal form

pub data Poly : Type 0 where
  con : ℤ → Poly
  node : ℕ → Poly → Poly → Poly

abbrev pub pick : Ordering → Poly → Poly → Poly → Poly
pick Ordering.lt a b c = a
pick Ordering.eq a b c = b
pick Ordering.gt a b c = c

abbrev pub add_c : ℤ → Poly → Poly
add_c c (con d) = con (c +ℤ d)
add_c c (node v p q) = node v p (add_c c q)

-- what `add (node v p q)` is, given `add p` and `add q`
abbrev pub add_n : ℕ → Poly → Poly → (Poly → Poly) → (Poly → Poly) → Poly → Poly
add_n v p q fp fq (con d) = node v p (fq (con d))
add_n v p q fp fq (node w r s) =
    let lt = node v p (fq (node w r s)) in
    let eq = node v (fp r) (fq s) in
    let gt = node w r (add_n v p q fp fq s) in
    pick (compare v w) lt eq gt

abbrev pub add : Poly → Poly → Poly
add (con (pos zero)) r = r
add (con (pos (suc n))) r = add_c (pos (suc n)) r
add (con (negsuc n)) r = add_c (negsuc n) r
add (node v p q) r = add_n v p q (add p) (add q) r

abbrev pub scale : ℤ → Poly → Poly
scale c (con d) = con (c *ℤ d)
scale c (node v p q) = node v (scale c p) (scale c q)

-- times the variable v
abbrev pub mul_v : ℕ → Poly → Poly
mul_v v (con (pos zero)) = con (pos zero)
mul_v v (con (pos (suc n))) = node v (con (pos (suc n))) (con (pos zero))
mul_v v (con (negsuc n)) = node v (con (negsuc n)) (con (pos zero))
mul_v v (node w p q) =
    let lo = node v (node w p q) (con (pos zero)) in
    let hi = node w (mul_v v p) (mul_v v q) in
    pick (compare v w) lo lo hi

abbrev pub mul : Poly → Poly → Poly
mul (con (pos zero)) r = con (pos zero)
mul (con (pos (suc zero))) r = r
mul (con (pos (suc (suc n)))) r = scale (pos (suc (suc n))) r
mul (con (negsuc n)) r = scale (negsuc n) r
mul (node v p q) r = add (mul_v v (mul p r)) (mul q r)

abbrev pub norm : Expr → Poly
norm (var i) = node i (con (pos 1)) (con (pos zero))
norm (lit c) = con c
norm (⊝ e) = scale (negsuc zero) (norm e)
norm (e ⊕ f) = add (norm e) (norm f)
norm (e ⊖ f) = add (norm e) (scale (negsuc zero) (norm f))
norm (e ⊗ f) = mul (norm e) (norm f)

abbrev pub andb : Bool → Bool → Bool
andb true b = b
andb false b = false

pub and_left : (a b : Bool) → T (andb a b) → T a
and_left true b t = tt
and_left false b t = t

pub and_right : (a b : Bool) → T (andb a b) → T b
and_right true b t = t
and_right false b t = absurd t

abbrev pub is_null : Poly → Bool
is_null (con (pos zero)) = true
is_null (con (pos (suc n))) = false
is_null (con (negsuc n)) = false
is_null (node v p q) = andb (is_null p) (is_null q)

-- ---- it keeps the value

module _ (x : ℕ → ℤ) where
  abbrev val : Poly → ℤ
  val (con c) = c
  val (node v p q) = x v *ℤ val p +ℤ val q

  pick_is : (v w : ℕ) (o : Ordering) → (T (compare_is_eq o) → v ≡ w) → (a b c : Poly) (z : ℤ) → val a ≡ z → (v ≡ w → val b ≡ z) → val c ≡ z →
      val (pick o a b c) ≡ z
  pick_is v w Ordering.lt h a b c z ha hb hc = ha
  pick_is v w Ordering.eq h a b c z ha hb hc = hb (h tt)
  pick_is v w Ordering.gt h a b c z ha hb hc = hc

  add_c_is : (c : ℤ) (p : Poly) → val (add_c c p) ≡ c +ℤ val p
  add_c_is c (con d) = refl
  add_c_is c (node v p q) =
      ap (λ z. x v *ℤ val p +ℤ z) (add_c_is c q) ∙ sym (+ℤ_assoc (x v *ℤ val p) c (val q))
      ∙ ap (λ z. z +ℤ val q) (+ℤ_comm (x v *ℤ val p) c) ∙ +ℤ_assoc c (x v *ℤ val p) (val q)

  add_n_is : (v : ℕ) (p q : Poly) (fp fq : Poly → Poly) → ((r : Poly) → val (fp r) ≡ val p +ℤ val r) →
      ((r : Poly) → val (fq r) ≡ val q +ℤ val r) → (r : Poly) → val (add_n v p q fp fq r) ≡ (x v *ℤ val p +ℤ val q) +ℤ val r
  add_n_is v p q fp fq hp hq (con d) = ap (λ z. x v *ℤ val p +ℤ z) (hq (con d)) ∙ sym (+ℤ_assoc (x v *ℤ val p) (val q) d)
  add_n_is v p q fp fq hp hq (node w r s) =
      pick_is v w (compare v w) (eqb→eq v w)
      (node v p (fq (node w r s))) (node v (fp r) (fq s)) (node w r (add_n v p q fp fq s))
      ((x v *ℤ val p +ℤ val q) +ℤ (x w *ℤ val r +ℤ val s))
      (ap (λ z. x v *ℤ val p +ℤ z) (hq (node w r s)) ∙ sym (+ℤ_assoc (x v *ℤ val p) (val q) (x w *ℤ val r +ℤ val s)))
      (λ e.
      ap₂ (λ y z. x v *ℤ y +ℤ z) (hp r) (hq s)
      ∙ ap (λ z. z +ℤ (val q +ℤ val s)) (*ℤ_distl (x v) (val p) (val r))
      ∙ swap_mid (x v *ℤ val p) (x v *ℤ val r) (val q) (val s)
      ∙ ap (λ i. (x v *ℤ val p +ℤ val q) +ℤ (x i *ℤ val r +ℤ val s)) e)
      (ap (λ z. x w *ℤ val r +ℤ z) (add_n_is v p q fp fq hp hq s)
      ∙ sym (+ℤ_assoc (x w *ℤ val r) (x v *ℤ val p +ℤ val q) (val s))
      ∙ ap (λ z. z +ℤ val s) (+ℤ_comm (x w *ℤ val r) (x v *ℤ val p +ℤ val q))
      ∙ +ℤ_assoc (x v *ℤ val p +ℤ val q) (x w *ℤ val r) (val s))

  add_is : (p r : Poly) → val (add p r) ≡ val p +ℤ val r
  add_is (con (pos zero)) r = sym (+ℤ_idl (val r))
  add_is (con (pos (suc n))) r = add_c_is (pos (suc n)) r
  add_is (con (negsuc n)) r = add_c_is (negsuc n) r
  add_is (node v p q) r = add_n_is v p q (add p) (add q) (add_is p) (add_is q) r

  -- a factor moves past a variable
  past : (a b c : ℤ) → a *ℤ (b *ℤ c) ≡ b *ℤ (a *ℤ c)
  past a b c = sym (*ℤ_assoc a b c) ∙ ap (λ z. z *ℤ c) (*ℤ_comm a b) ∙ *ℤ_assoc b a c

  scale_is : (c : ℤ) (p : Poly) → val (scale c p) ≡ c *ℤ val p
  scale_is c (con d) = refl
  scale_is c (node v p q) =
      ap₂ (λ y z. x v *ℤ y +ℤ z) (scale_is c p) (scale_is c q) ∙ ap (λ z. z +ℤ c *ℤ val q) (past (x v) c (val p))
      ∙ sym (*ℤ_distl c (x v *ℤ val p) (val q))

  mul_v_is : (v : ℕ) (p : Poly) → val (mul_v v p) ≡ x v *ℤ val p
  mul_v_is v (con (pos zero)) = sym (*ℤ-zero (x v))
  mul_v_is v (con (pos (suc n))) = +ℤ_idr (x v *ℤ pos (suc n))
  mul_v_is v (con (negsuc n)) = +ℤ_idr (x v *ℤ negsuc n)
  mul_v_is v (node w p q) =
      pick_is v w (compare v w) (eqb→eq v w)
      (node v (node w p q) (con (pos zero))) (node v (node w p q) (con (pos zero))) (node w (mul_v v p) (mul_v v q))
      (x v *ℤ (x w *ℤ val p +ℤ val q))
      (+ℤ_idr (x v *ℤ (x w *ℤ val p +ℤ val q))) (λ e. +ℤ_idr (x v *ℤ (x w *ℤ val p +ℤ val q)))
      (ap₂ (λ y z. x w *ℤ y +ℤ z) (mul_v_is v p) (mul_v_is v q) ∙ ap (λ z. z +ℤ x v *ℤ val q) (past (x w) (x v) (val p))
      ∙ sym (*ℤ_distl (x v) (x w *ℤ val p) (val q)))

  mul_is : (p r : Poly) → val (mul p r) ≡ val p *ℤ val r
  mul_is (con (pos zero)) r = sym (zero-*ℤ (val r))
  mul_is (con (pos (suc zero))) r = sym (1_*ℤ (val r))
  mul_is (con (pos (suc (suc n)))) r = scale_is (pos (suc (suc n))) r
  mul_is (con (negsuc n)) r = scale_is (negsuc n) r
  mul_is (node v p q) r =
      add_is (mul_v v (mul p r)) (mul q r)
      ∙ ap₂ ◌+ℤ◌ (mul_v_is v (mul p r) ∙ ap (λ z. x v *ℤ z) (mul_is p r) ∙ sym (*ℤ_assoc (x v) (val p) (val r))) (mul_is q r)
      ∙ sym (*ℤ_distr (x v *ℤ val p) (val q) (val r))

  minus_is : (p : Poly) → val (scale (negsuc zero) p) ≡ neg_ℤ (val p)
  minus_is p = scale_is (negsuc zero) p ∙ minus-1-*ℤ (val p)

  norm_is : (e : Expr) → val (norm e) ≡ eval x e
  norm_is (var i) = +ℤ_idr (x i *ℤ pos 1) ∙ *ℤ_1 (x i)
  norm_is (lit c) = refl
  norm_is (⊝ e) = minus_is (norm e) ∙ ap neg_ℤ (norm_is e)
  norm_is (e ⊕ f) = add_is (norm e) (norm f) ∙ ap₂ ◌+ℤ◌ (norm_is e) (norm_is f)
  norm_is (e ⊖ f) = add_is (norm e) (scale (negsuc zero) (norm f)) ∙ ap₂ ◌+ℤ◌ (norm_is e) (minus_is (norm f) ∙ ap neg_ℤ (norm_is f))
  norm_is (e ⊗ f) = mul_is (norm e) (norm f) ∙ ap₂ ◌*ℤ◌ (norm_is e) (norm_is f)

  null_is : (p : Poly) → T (is_null p) → val p ≡ pos zero
  null_is (con (pos zero)) t = refl
  null_is (con (pos (suc n))) t = absurd t
  null_is (con (negsuc n)) t = absurd t
  null_is (node v p q) t =
      ap₂ (λ y z. x v *ℤ y +ℤ z) (null_is p (and_left (is_null p) (is_null q) t)) (null_is q (and_right (is_null p) (is_null q) t))
      ∙ +ℤ_idr (x v *ℤ pos zero) ∙ *ℤ-zero (x v)

  pub ring : (e f : Expr) → T (is_null (norm (e ⊖ f))) → eval x e ≡ eval x f
  ring e f t = zero-sub→eq (eval x e) (eval x f) (sym (norm_is (e ⊖ f)) ∙ null_is (norm (e ⊖ f)) t)

  -- from a hypothesis p ≡ q, where e - f is a multiple of p - q
  pub ring_by : (e f k p q : Expr) → T (is_null (norm ((e ⊖ f) ⊖ k ⊗ (p ⊖ q)))) → eval x p ≡ eval x q → eval x e ≡ eval x f
  ring_by e f k p q t h =
      zero-sub→eq (eval x e) (eval x f)
      (ring (e ⊖ f) (k ⊗ (p ⊖ q)) t
      ∙ ap (λ z. eval x k *ℤ (z -ℤ eval x q)) h ∙ ap (λ z. eval x k *ℤ z) (+ℤ_invr (eval x q)) ∙ *ℤ-zero (eval x k))

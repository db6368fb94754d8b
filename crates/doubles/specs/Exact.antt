-- A whole expression worked out in doubles (`run`). Where each of its variables is a whole number, and the size of each product, sum and
-- difference on the way is below 2 ^ 53 by the limits of the variables (`tame`, one test that computes), the double is the whole number
-- that the expression is over ℤ (`exact`). Assumes nothing.
use Rattle.std.specs.Prelude.{◌≡◌, ℕ, ◌+◌, ◌*◌, ◌^◌, ◌≤◌, Bool, true, false, T, ltb, List, ℤ, pos, nat_lt, slice_index_or, unsigned_abs, Float}
use Rattle.std.proofs.Common.{sym, subst, le_refl, le_of_lt, lt_of_le_of_lt, ltb→lt, lt→ltb}
use Rattle.std.specs.Float.{fin, binary64}
use Rattle.std.specs.Float.Ieee.{neg, add, sub, mul, of_int}
use Rattle.laws.specs.Ring.{Expr, eval, andb, and_left, and_right}
use Rattle.laws.specs.Ring.Expr.{var, lit, ◌⊕◌, ◌⊖◌, ◌⊗◌, ⊝◌}
use Rattle.doubles.specs.Bound.{bound, below}
use Rattle.doubles.specs.Whole.{Is, mul_is, add_is, sub_is, neg_is, of_int_is, plus_zero}

-- a variable: its double, the number that it is, and how large that is at most
pub record Entry : Type 0 where
  pub double : Float
  pub value : ℤ
  pub most : ℕ
  pub same : Is double value
  pub within : unsigned_abs value ≤ most

abbrev pub nought : Entry
nought = record { double = of_int binary64 (pos 0); value = pos 0; most = 0; same = of_int_is (pos 0) tt; within = le_refl 0 }

abbrev pub entry : List Entry → ℕ → Entry
entry l i = slice_index_or l i nought

abbrev pub doubles : List Entry → ℕ → Float
doubles l i = (entry l i).double

abbrev pub values : List Entry → ℕ → ℤ
values l i = (entry l i).value

abbrev pub limits : List Entry → ℕ → ℕ
limits l i = (entry l i).most

abbrev pub run : (ℕ → Float) → Expr → Float
run s (var i) = s i
run s (lit c) = of_int binary64 c
run s (⊝ e) = neg (run s e)
run s (e ⊕ f) = add binary64 (run s e) (run s f)
run s (e ⊖ f) = sub binary64 (run s e) (run s f)
run s (e ⊗ f) = mul binary64 (run s e) (run s f)

-- each result on the way is below 2 ^ 53
abbrev pub tame : (ℕ → ℕ) → Expr → Bool
tame m (var i) = true
tame m (lit c) = nat_lt (unsigned_abs c) (2 ^ 53)
tame m (⊝ e) = tame m e
tame m (e ⊕ f) = andb (nat_lt (bound m e + bound m f) (2 ^ 53)) (andb (tame m e) (tame m f))
tame m (e ⊖ f) = andb (nat_lt (bound m e + bound m f) (2 ^ 53)) (andb (tame m e) (tame m f))
tame m (e ⊗ f) = andb (nat_lt (bound m e * bound m f) (2 ^ 53)) (andb (tame m e) (tame m f))

module _ (l : List Entry) where
  abbrev Tame : Expr → Type 0
  Tame e = T (tame (limits l) e)

  small : (e : Expr) → T (nat_lt (bound (limits l) e) (2 ^ 53)) → unsigned_abs (eval (values l) e) ≤ 2 ^ 53
  small e t =
      le_of_lt (lt_of_le_of_lt (below (values l) (limits l) (λ i. (entry l i).within) e) (ltb→lt (bound (limits l) e) (2 ^ 53) t))

  parts : (n : ℕ) (e f : Expr) → T (andb (nat_lt n (2 ^ 53)) (andb (tame (limits l) e) (tame (limits l) f))) →
      T (nat_lt n (2 ^ 53)) × Tame e × Tame f
  parts n e f t =
      let a = ltb n (2 ^ 53) in
      let b = tame (limits l) e in
      let c = tame (limits l) f in
      (and_left a (andb b c) t, and_left b c (and_right a (andb b c) t), and_right b c (and_right a (andb b c) t))

  pub exact : (e : Expr) → T (tame (limits l) e) → Is (run (doubles l) e) (eval (values l) e)
  exact (var i) t = (entry l i).same
  exact (lit c) t = of_int_is c t
  exact (⊝ e) t = neg_is (run (doubles l) e) (eval (values l) e) (exact e t)
  exact (e ⊕ f) t =
      let h = parts (bound (limits l) (e ⊕ f)) e f t in
      add_is (run (doubles l) e) (run (doubles l) f) (eval (values l) e) (eval (values l) f) (exact e h.1) (exact f h.2)
      (small (e ⊕ f) h.0)
  exact (e ⊖ f) t =
      let h = parts (bound (limits l) (e ⊖ f)) e f t in
      sub_is (run (doubles l) e) (run (doubles l) f) (eval (values l) e) (eval (values l) f) (exact e h.1) (exact f h.2)
      (small (e ⊖ f) h.0)
  exact (e ⊗ f) t =
      let h = parts (bound (limits l) (e ⊗ f)) e f t in
      mul_is (run (doubles l) e) (run (doubles l) f) (eval (values l) e) (eval (values l) f) (exact e h.1) (exact f h.2)
      (small (e ⊗ f) h.0)

  -- with zero added it is the number's own double, never minus zero
  pub settled : (e : Expr) → T (tame (limits l) e) →
      add binary64 (run (doubles l) e) (fin false 0 (pos 0)) ≡ of_int binary64 (eval (values l) e)
  settled e t = plus_zero (run (doubles l) e) (eval (values l) e) (exact e t)

  pub settled_is : (e : Expr) → T (tame (limits l) e) → T (nat_lt (bound (limits l) e) (2 ^ 53)) →
      Is (add binary64 (run (doubles l) e) (fin false 0 (pos 0))) (eval (values l) e)
  settled_is e t b =
      let z = eval (values l) e in
      let h = lt_of_le_of_lt (below (values l) (limits l) (λ i. (entry l i).within) e) (ltb→lt (bound (limits l) e) (2 ^ 53) b) in
      subst (λ (x : Float). Is x z) (sym (settled e t)) (of_int_is z (lt→ltb (unsigned_abs z) (2 ^ 53) h))

-- What determinants and terms obey: neighbours exchanged negate them, three products of determinants of six rows sum to zero, and c3 is the
-- product of the weights times Psi, or nearly so where the last weight is 0. Assumes nothing.
use Rattle.std.specs.Prelude.{◌≡◌, refl, ◌≢◌, zero, suc, ℤ, pos, negsuc, neg_ℤ, ◌+ℤ◌, ◌-ℤ◌, ◌*ℤ◌}
use Rattle.std.proofs.Common.{◌∙◌}
use mathlib.Core.List.{[], ◌∷◌}
use Rattle.laws.specs.Ring.{Expr, ring, ring_by}
use Rattle.laws.specs.Ring.Expr.{lit, ⊝◌, ◌⊕◌, ◌⊖◌, ◌⊗◌}
use Rattle.scene.specs.declared.Row.{Row}
use Rattle.orient.specs.Determinant.{Entries, det4}
use Rattle.orient.specs.Terms.{Powers, Numbered, powers, factor, numbered, terms, c3}
use Rattle.orient.specs.Variables.{row, rows, det, P, Q, S, U, points, t_of}
use Rattle.orient.specs.declared.Point.{Point}

abbrev A : Entries Expr
A = row 0

abbrev B : Entries Expr
B = row 1

abbrev C : Entries Expr
C = row 2

abbrev D : Entries Expr
D = row 3

abbrev E : Entries Expr
E = row 4

abbrev F : Entries Expr
F = row 5

-- ---- of four rows

module _ (a b c d : Row) where
  pub swap12 : det4 b a c d ≡ neg_ℤ (det4 a b c d)
  unfolding det4
  swap12 = ring (rows (a ∷ b ∷ c ∷ d ∷ [])) (det B A C D) (⊝ det A B C D) tt

  pub swap23 : det4 a c b d ≡ neg_ℤ (det4 a b c d)
  unfolding det4
  swap23 = ring (rows (a ∷ b ∷ c ∷ d ∷ [])) (det A C B D) (⊝ det A B C D) tt

  pub swap34 : det4 a b d c ≡ neg_ℤ (det4 a b c d)
  unfolding det4
  swap34 = ring (rows (a ∷ b ∷ c ∷ d ∷ [])) (det A B D C) (⊝ det A B C D) tt

-- ---- of six rows

pub three_terms : (a b c d e f : Row) → det4 a b c d *ℤ det4 a b e f +ℤ det4 a b c e *ℤ det4 a b f d +ℤ det4 a b c f *ℤ det4 a b d e ≡ pos 0
unfolding det4
three_terms a b c d e f =
    ring (rows (a ∷ b ∷ c ∷ d ∷ e ∷ f ∷ []))
    (det A B C D ⊗ det A B E F ⊕ det A B C E ⊗ det A B F D ⊕ det A B C F ⊗ det A B D E) (lit (pos 0)) tt

-- ---- of the terms of four points

-- each of the four is the other's negation
pub record Opposite (p q : Powers ℤ) : Type 0 where
  pub e0 : p.e0 ≡ neg_ℤ q.e0
  pub e1 : p.e1 ≡ neg_ℤ q.e1
  pub e2 : p.e2 ≡ neg_ℤ q.e2
  pub e3 : p.e3 ≡ neg_ℤ q.e3

module _ (a b c d : Point) where
  abbrev t : Powers Expr
  t = t_of P Q S U

  pub terms12 : Opposite (terms b a c d) (terms a b c d)
  unfolding terms
  terms12 =
      let x = points a b c d [] in
      let s = t_of Q P S U in
      record {
        e0 = ring x s.e0 (⊝ t.e0) tt;
        e1 = ring x s.e1 (⊝ t.e1) tt;
        e2 = ring x s.e2 (⊝ t.e2) tt;
        e3 = ring x s.e3 (⊝ t.e3) tt;
      }

  pub terms23 : Opposite (terms a c b d) (terms a b c d)
  unfolding terms
  terms23 =
      let x = points a b c d [] in
      let s = t_of P S Q U in
      record {
        e0 = ring x s.e0 (⊝ t.e0) tt;
        e1 = ring x s.e1 (⊝ t.e1) tt;
        e2 = ring x s.e2 (⊝ t.e2) tt;
        e3 = ring x s.e3 (⊝ t.e3) tt;
      }

  pub terms34 : Opposite (terms a b d c) (terms a b c d)
  unfolding terms
  terms34 =
      let x = points a b c d [] in
      let s = t_of P Q U S in
      record {
        e0 = ring x s.e0 (⊝ t.e0) tt;
        e1 = ring x s.e1 (⊝ t.e1) tt;
        e2 = ring x s.e2 (⊝ t.e2) tt;
        e3 = ring x s.e3 (⊝ t.e3) tt;
      }

-- ---- the last term

module _ {R : Type 0} (◌plus◌ ◌minus◌ ◌times◌ : R → R → R) where
  infixl 6 ◌plus◌ ◌minus◌
  infixl 7 ◌times◌
  -- the product of (later number - earlier number) over the six pairs
  abbrev pairs : R → R → R → R → R
  pairs i j k l = (j minus i) times (k minus i) times (l minus i) times (k minus j) times (l minus j) times (l minus k)

  -- over the three pairs without l, and what stands for the pairs with l where the point l has weight 0
  abbrev pairs3 : R → R → R → R
  pairs3 i j k = (j minus i) times (k minus i) times (k minus j)

  abbrev outward : R → R → R → R → R
  outward i j k l = (l minus i) times (l minus j) times (l minus k) plus i times j times k

unfoldable pub psi : ℤ → ℤ → ℤ → ℤ → ℤ
psi i j k l = neg_ℤ (pairs ◌+ℤ◌ ◌-ℤ◌ ◌*ℤ◌ i j k l)

unfoldable pub far_psi : ℤ → ℤ → ℤ → ℤ → ℤ
far_psi i j k l = neg_ℤ (pairs3 ◌+ℤ◌ ◌-ℤ◌ ◌*ℤ◌ i j k *ℤ outward ◌+ℤ◌ ◌-ℤ◌ ◌*ℤ◌ i j k l)

-- the point with k for the factor of its shift
abbrev shift_by : {R : Type 0} → R → Numbered R → Numbered R
shift_by k p = record { x = p.x; y = p.y; z = p.z; w = p.w; k = k; i = p.i }

pub factor_weight : (w : ℤ) → w ≢ pos 0 → factor w ≡ w
factor_weight (pos zero) h = absurd (h refl)
factor_weight (pos (suc n)) h = refl
factor_weight (negsuc n) h = refl

module _ (a b c d : Point) where
  -- the last term, by the factors of the shifts
  abbrev last : (i j k l : ℤ) → ℤ
  last i j k l =
      (powers (pos 0) ◌+ℤ◌ ◌-ℤ◌ ◌*ℤ◌ (shift_by i (numbered a)) (shift_by j (numbered b)) (shift_by k (numbered c))
      (shift_by l (numbered d))).e3

  abbrev weights3 : Expr
  weights3 = P.w ⊗ Q.w ⊗ S.w

  module _ (ha : a.w ≢ pos 0) (hb : b.w ≢ pos 0) (hc : c.w ≢ pos 0) where
    pub c3_psi : d.w ≢ pos 0 → c3 a b c d ≡ a.w *ℤ b.w *ℤ c.w *ℤ d.w *ℤ psi a.n b.n c.n d.n
    unfolding terms psi
    c3_psi hd =
        (λ i. last (factor_weight a.w ha i) (factor_weight b.w hb i) (factor_weight c.w hc i) (factor_weight d.w hd i))
        ∙ ring (points a b c d []) (t_of (shift_by P.w P) (shift_by Q.w Q) (shift_by S.w S) (shift_by U.w U)).e3
        (weights3 ⊗ U.w ⊗ ⊝ pairs ◌⊕◌ ◌⊖◌ ◌⊗◌ P.i Q.i S.i U.i) tt

    pub c3_far : d.w ≡ pos 0 → c3 a b c d ≡ a.w *ℤ b.w *ℤ c.w *ℤ far_psi a.n b.n c.n d.n
    unfolding terms far_psi
    c3_far zd =
        let far = pairs3 ◌⊕◌ ◌⊖◌ ◌⊗◌ P.i Q.i S.i in
        (λ i. last (factor_weight a.w ha i) (factor_weight b.w hb i) (factor_weight c.w hc i) (factor (zd i)))
        ∙ ring_by (points a b c d []) (t_of (shift_by P.w P) (shift_by Q.w Q) (shift_by S.w S) (shift_by (lit (pos 1)) U)).e3
        (weights3 ⊗ ⊝ (far ⊗ outward ◌⊕◌ ◌⊖◌ ◌⊗◌ P.i Q.i S.i U.i))
        (weights3 ⊗ P.i ⊗ Q.i ⊗ S.i ⊗ far) U.w (lit (pos 0)) tt zd

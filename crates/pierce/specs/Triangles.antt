-- Two triangles of six different points: the sides of either that pierce the other are together even in number; and an edge pierces as its
-- reverse does. Assumes nothing.
use Rattle.std.specs.Prelude.{◌≡◌, Bool, not, ℕ, T}
use Rattle.std.proofs.Math.Bool.{not-not}
use Rattle.laws.specs.Bools.{◌⊕◌, all, ◌⇒◌, ◌≐◌, law}
use Rattle.orient.specs.Signs.{Four, Six, ne_sym, mixed, Rules}
use Rattle.pierce.specs.Five.{five, hits}

-- abc and pqr. A, B, C are the signs of pqr with a, b, c; P, Q, R those of abc with p, q, r; the rest those of a side of each. The rule of
-- three terms at the six pairs of corners of one triangle is enough.
two_triangles : (A B C P Q R abpq abqr abrp bcpq bcqr bcrp capq caqr carp : Bool) →
    T (mixed (P ⊕ abqr) (Q ⊕ abrp) (R ⊕ abpq)) → T (mixed (P ⊕ bcqr) (Q ⊕ bcrp) (R ⊕ bcpq)) → T (mixed (P ⊕ caqr) (Q ⊕ carp) (R ⊕ capq)) →
    T (mixed (A ⊕ bcpq) (B ⊕ capq) (C ⊕ abpq)) → T (mixed (A ⊕ bcqr) (B ⊕ caqr) (C ⊕ abqr)) → T (mixed (A ⊕ bcrp) (B ⊕ carp) (C ⊕ abrp)) →
    five A B abpq abqr abrp ⊕ five B C bcpq bcqr bcrp ⊕ five C A capq caqr carp ≡
    five P Q abpq bcpq capq ⊕ five Q R abqr bcqr caqr ⊕ five R P abrp bcrp carp
two_triangles A B C P Q R abpq abqr abrp bcpq bcqr bcrp capq caqr carp ab bc ca pq qr rp =
    law (all λ A. all λ B. all λ C. all λ P. all λ Q. all λ R. all λ abpq. all λ abqr. all λ abrp. mixed (P ⊕ abqr) (Q ⊕ abrp) (R ⊕ abpq) ⇒
    all λ bcpq. all λ capq. mixed (A ⊕ bcpq) (B ⊕ capq) (C ⊕ abpq) ⇒
    all λ bcqr. all λ caqr. mixed (A ⊕ bcqr) (B ⊕ caqr) (C ⊕ abqr) ⇒
    all λ bcrp. mixed (P ⊕ bcqr) (Q ⊕ bcrp) (R ⊕ bcpq) ⇒
    all λ carp. mixed (P ⊕ caqr) (Q ⊕ carp) (R ⊕ capq) ⇒ mixed (A ⊕ bcrp) (B ⊕ carp) (C ⊕ abrp) ⇒
    five A B abpq abqr abrp ⊕ five B C bcpq bcqr bcrp ⊕ five C A capq caqr carp ≐
    five P Q abpq bcpq capq ⊕ five Q R abqr bcqr caqr ⊕ five R P abrp bcrp carp)
    tt A B C P Q R abpq abqr abrp ab bcpq capq pq bcqr caqr qr bcrp bc carp ca rp

module _ (In : ℕ → Type 0) (s : ℕ → ℕ → ℕ → ℕ → Bool) (rules : Rules In s) where
  turn : (a b c d : ℕ) → Four In a b c d → s b c a d ≡ s a b c d
  turn a b c d h = rw (rules.swap2 b a c d (search ne_sym), rules.swap1 a b c d h, not-not)

  pairs : (a b c d : ℕ) → Four In a b c d → s c d a b ≡ s a b c d
  pairs a b c d h =
      rw (
        rules.swap2 c a d b (search ne_sym),
        rules.swap3 c a b d (search ne_sym),
        rules.swap1 a c b d (search ne_sym),
        rules.swap2 a b c d h,
      )
      (simp not-not)

  -- the rule of three terms at the pair b, c, and at c, a, by the signs of a, b, c
  at_bc : (a b c p q r : ℕ) → Six In a b c p q r → T (mixed (s a b c p ⊕ s b c q r) (s a b c q ⊕ s b c r p) (s a b c r ⊕ s b c p q))
  at_bc a b c p q r h =
      rw (turn a b c p (search), turn a b c q (search), turn a b c r (search)) at (rules.three b c a p q r (search ne_sym))

  at_ca : (a b c p q r : ℕ) → Six In a b c p q r → T (mixed (s a b c p ⊕ s c a q r) (s a b c q ⊕ s c a r p) (s a b c r ⊕ s c a p q))
  at_ca a b c p q r h =
      rw (turn a b c p (search), turn a b c q (search), turn a b c r (search)) at (at_bc b c a p q r (search ne_sym))

  pub two_faces : (a b c p q r : ℕ) → Six In a b c p q r →
      hits s a b p q r ⊕ hits s b c p q r ⊕ hits s c a p q r ≡ hits s p q a b c ⊕ hits s q r a b c ⊕ hits s r p a b c
  unfolding hits
  two_faces a b c p q r h =
      let abpq = pairs a b p q (search) in
      let bcpq = pairs b c p q (search) in
      let capq = pairs c a p q (search ne_sym) in
      let abqr = pairs a b q r (search) in
      let bcqr = pairs b c q r (search) in
      let caqr = pairs c a q r (search ne_sym) in
      let abrp = pairs a b r p (search ne_sym) in
      let bcrp = pairs b c r p (search ne_sym) in
      let carp = pairs c a r p (search ne_sym) in
      rw (abpq, bcpq, capq, abqr, bcqr, caqr, abrp, bcrp, carp)
      (two_triangles (s p q r a) (s p q r b) (s p q r c) (s a b c p) (s a b c q) (s a b c r)
      (s a b p q) (s a b q r) (s a b r p) (s b c p q) (s b c q r) (s b c r p) (s c a p q) (s c a q r) (s c a r p)
      (rules.three a b c p q r h) (at_bc a b c p q r h) (at_ca a b c p q r h)
      (rw (bcpq, capq, abpq) at (rules.three p q r a b c (search ne_sym)))
      (rw (bcqr, caqr, abqr) at (at_bc p q r a b c (search ne_sym)))
      (rw (bcrp, carp, abrp) at (at_ca p q r a b c (search ne_sym))))

  -- an edge and its reverse
  pub hits_back : (u v p q r : ℕ) → Four In u v p q → Four In u v q r → Four In u v r p → hits s u v p q r ≡ hits s v u p q r
  unfolding hits
  hits_back u v p q r x y z =
      rw (rules.swap1 u v p q x, rules.swap1 u v q r y, rules.swap1 u v r p z)
      (law (all λ a. all λ b. all λ x. all λ y. all λ z. five a b x y z ≐ five b a (not x) (not y) (not z)) tt
      (s p q r u) (s p q r v) (s u v p q) (s u v q r) (s u v r p))

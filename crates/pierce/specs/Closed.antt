-- Closed tables: each edge lies in an even number of the faces, so that what is the same along a side and back sums to nothing over all
-- sides of all faces. The rule of edges makes a table closed. Assumes nothing.
use Rattle.std.specs.Prelude.{◌≡◌, refl, ◌⊎◌, ◌≢◌, ◌↔◌, Bool, true, false, ◌&&◌, ◌||◌, List, [], ◌∷◌, ℕ, min, max, T, eqb}
use Rattle.std.proofs.Common.{sym, ap₂, ◌∙◌, inl, inr, ⊎_elim, eqb→eq, eq-eqb}
use Rattle.std.proofs.Math.Bool.{or-true}
use native.Mathlib.Omega.{arith, min_cases}
use Rattle.std.proofs.Math.Nat.{max-eq_left, max-eq_right}
use Rattle.std.proofs.Math.Decide.{ℕ_discrete}
use Rattle.std.proofs.Math.Dec.{eqb_refl}
use Rattle.laws.specs.Bools.{◌⊕◌, all, ◌≐◌, law, both, left, right}
use Rattle.laws.specs.Even.{odd, even_sum, count, odd_count}
use Rattle.laws.specs.Lists.{Each, odd_each, even_iff}
use Rattle.laws.specs.Mask.{not_odd}
use Rattle.scene.specs.declared.Face.{Face}
use Rattle.scene.specs.Faces.{Both, Proper, Sides, EdgeOk, EdgesOk}

-- an edge: the lower point and the higher one
pub record Edge : Type 0 where
  pub low : ℕ
  pub high : ℕ

abbrev pub edge : ℕ → ℕ → Edge
edge i j = record { low = min i j; high = max i j }

abbrev same_edge : Edge → Edge → Bool
same_edge d e = eqb d.low e.low && eqb d.high e.high

-- e is one of the face's three edges
abbrev pub has_edge : Edge → Face → Bool
has_edge e f = same_edge e (edge f.p f.q) || same_edge e (edge f.q f.r) || same_edge e (edge f.r f.p)

-- each edge lies in an even number of the faces
abbrev pub Closed : List Face → Type 0
Closed fs = (e : Edge) → odd (has_edge e) fs ≡ false

same_edge_self : (e : Edge) → T (same_edge e e)
same_edge_self e = both (eqb e.low e.low) (eqb e.high e.high) (eqb_refl e.low) (eqb_refl e.high)

low_same : (d e : Edge) → T (same_edge d e) → d.low ≡ e.low
low_same d e t = eqb→eq d.low e.low (left (eqb d.low e.low) (eqb d.high e.high) t)

high_same : (d e : Edge) → T (same_edge d e) → d.high ≡ e.high
high_same d e t = eqb→eq d.high e.high (right (eqb d.low e.low) (eqb d.high e.high) t)

same_edge_sound : (d e : Edge) → T (same_edge d e) → d ≡ e
same_edge_sound d e t = λ i. record { low = low_same d e t i; high = high_same d e t i }

-- ---- what is the same along a side and back, summed over all sides

-- two sides that meet are one edge only where their other ends are the same
apart : (e : Edge) (i j k : ℕ) → i ≢ k → T (same_edge e (edge i j)) → T (same_edge e (edge j k)) → ⊥
apart e i j k n s t = omega (arith, low_same e (edge i j) s, high_same e (edge i j) s, low_same e (edge j k) t, high_same e (edge j k) t)

one_of : (a b c : Bool) → (T a → T b → ⊥) → (T b → T c → ⊥) → (T c → T a → ⊥) → (a || b || c) ≡ a ⊕ b ⊕ c
one_of true true c x y z = absurd (x tt tt)
one_of true false true x y z = absurd (z tt tt)
one_of true false false x y z = refl
one_of false true true x y z = absurd (y tt tt)
one_of false true false x y z = refl
one_of false false c x y z = refl

-- the sum of g over the face's three sides
abbrev pub round : (ℕ → ℕ → Bool) → Face → Bool
round g f = g f.p f.q ⊕ g f.q f.r ⊕ g f.r f.p

-- the edges of the faces' sides
abbrev edges : List Face → List Edge
edges [] = []
edges (f ∷ fs) = edge f.p f.q ∷ edge f.q f.r ∷ edge f.r f.p ∷ edges fs

spread : (g : Edge → Bool) (fs : List Face) → odd (round (λ i j. g (edge i j))) fs ≡ odd g (edges fs)
spread g [] = refl
spread g (f ∷ fs) =
    rw (spread g fs)
    (law (all λ a. all λ b. all λ c. all λ d. a ⊕ b ⊕ c ⊕ d ≐ a ⊕ (b ⊕ (c ⊕ d))) tt
    (g (edge f.p f.q)) (g (edge f.q f.r)) (g (edge f.r f.p)) (odd g (edges fs)))

-- a proper face has an edge once
once : (e : Edge) (f : Face) → Proper f → has_edge e f ≡ round (λ i j. same_edge e (edge i j)) f
once e f h =
    one_of (same_edge e (edge f.p f.q)) (same_edge e (edge f.q f.r)) (same_edge e (edge f.r f.p))
    (apart e f.p f.q f.r (omega arith)) (apart e f.q f.r f.p (omega arith)) (apart e f.r f.p f.q (omega arith))

-- g is the same along the face's sides and back
pub record BothWays (g : ℕ → ℕ → Bool) (f : Face) : Type 0 where
  pub proper : Proper f
  pub pq : g f.p f.q ≡ g f.q f.p
  pub qr : g f.q f.r ≡ g f.r f.q
  pub rp : g f.r f.p ≡ g f.p f.r

along : (g : ℕ → ℕ → Bool) (i j : ℕ) → g i j ≡ g j i → g i j ≡ g (min i j) (max i j)
along g i j e =
    min_cases i j (g i j ≡ g (min i j) (max i j)) (λ l m. rw (m, max-eq_right l)) (λ l m. rw (m, max-eq_left l) e)

pub closed_sum : (g : ℕ → ℕ → Bool) (fs : List Face) → Each (BothWays g) fs → Closed fs → odd (round g) fs ≡ false
closed_sum g fs h c =
    odd_each (round g) (round (λ i j. g (min i j) (max i j)))
    (λ f b. ap₂ ◌⊕◌ (ap₂ ◌⊕◌ (along g f.p f.q b.pq) (along g f.q f.r b.qr)) (along g f.r f.p b.rp))
    fs h
    ∙ spread (λ e. g e.low e.high) fs
    ∙ even_sum same_edge same_edge_self same_edge_sound (edges fs) (λ e. g e.low e.high)
    (λ e t. sym (spread (same_edge e) fs)
    ∙ sym (odd_each (has_edge e) (round (λ i j. same_edge e (edge i j))) (λ f b. once e f b.proper) fs h) ∙ c e)

-- ---- the rule of edges

-- a side from p to q is the edge of i and j: the two are the same
abbrev SameTwo : (i j p q : ℕ) → Type 0
SameTwo i j p q = ((p ≡ i) × (q ≡ j)) ⊎ ((p ≡ j) × (q ≡ i))

same_two : (i j p q : ℕ) → T (same_edge (edge i j) (edge p q)) → SameTwo i j p q
same_two i j p q t = by (low_same (edge i j) (edge p q) t) (high_same (edge i j) (edge p q) t) (ℕ_discrete p i)
  where
    by : min i j ≡ min p q → max i j ≡ max p q → Dec (p ≡ i) → SameTwo i j p q
    by l h (yes e) = inl (e, omega arith)
    by l h (no d) = inr (omega arith, omega arith)

two_same : (i j p q : ℕ) → SameTwo i j p q → same_edge (edge i j) (edge p q) ≡ true
two_same i j p q (inl e) = simp (eq-eqb (min i j) (min p q) (omega arith), eq-eqb (max i j) (max p q) (omega arith))
two_same i j p q (inr e) = simp (eq-eqb (min i j) (min p q) (omega arith), eq-eqb (max i j) (max p q) (omega arith))

of_three : {G : Type 0} (a b c : Bool) → (T a → G) → (T b → G) → (T c → G) → T (a || b || c) → G
of_three true b c x y z t = x tt
of_three false true c x y z t = y tt
of_three false false true x y z t = z tt
of_three false false false x y z t = absurd t

-- a face has the edge of i and j exactly when both are corners of it
has_both : (i j : ℕ) → i ≢ j → (f : Face) → (has_edge (edge i j) f ≡ true) ↔ Both i j f
has_both i j d f = (to, from)
  where
    to : has_edge (edge i j) f ≡ true → Both i j f
    to e =
        of_three (same_edge (edge i j) (edge f.p f.q)) (same_edge (edge i j) (edge f.q f.r))
        (same_edge (edge i j) (edge f.r f.p))
        (λ t. ⊎_elim (λ h. (inl h.0, inr (inl h.1))) (λ h. (inr (inl h.1), inl h.0)) (same_two i j f.p f.q t))
        (λ t. ⊎_elim (λ h. (inr (inl h.0), inr (inr h.1))) (λ h. (inr (inr h.1), inr (inl h.0))) (same_two i j f.q f.r t))
        (λ t. ⊎_elim (λ h. (inr (inr h.0), inl h.1)) (λ h. (inl h.1, inr (inr h.0))) (same_two i j f.r f.p t))
        (rw e tt)

    first : SameTwo i j f.p f.q → has_edge (edge i j) f ≡ true
    first h = simp (two_same i j f.p f.q h)

    second : SameTwo i j f.q f.r → has_edge (edge i j) f ≡ true
    second h = simp (two_same i j f.q f.r h, or-true)

    third : SameTwo i j f.r f.p → has_edge (edge i j) f ≡ true
    third h = simp (two_same i j f.r f.p h, or-true)

    from : Both i j f → has_edge (edge i j) f ≡ true
    from (inl a, inl b) = absurd (d (sym a ∙ b))
    from (inl a, inr (inl b)) = first (inl (a, b))
    from (inl a, inr (inr b)) = third (inr (b, a))
    from (inr (inl a), inl b) = first (inr (b, a))
    from (inr (inl a), inr (inl b)) = absurd (d (sym a ∙ b))
    from (inr (inl a), inr (inr b)) = second (inl (a, b))
    from (inr (inr a), inl b) = third (inl (a, b))
    from (inr (inr a), inr (inl b)) = second (inr (b, a))
    from (inr (inr a), inr (inr b)) = absurd (d (sym a ∙ b))

edge_even : (fs : List Face) (i j : ℕ) → i ≢ j → EdgeOk fs i j → odd (has_edge (edge i j)) fs ≡ false
edge_even fs i j d h =
    sym (odd_count (has_edge (edge i j)) fs)
    ∙ not_odd (count (has_edge (edge i j)) fs) ((even_iff (Both i j) (has_edge (edge i j)) (has_both i j d) fs).1 h)

-- an edge of no face lies in none; an edge of a face is covered by the rule
module _ (all : List Face) (e : Edge) where
  edge_covered : (fs : List Face) → Each Proper fs → Each (Sides (EdgeOk all)) fs →
      (odd (has_edge e) fs ≡ false) ⊎ (odd (has_edge e) all ≡ false)
  edge_covered [] p h = inl refl
  edge_covered (f ∷ fs) p h = by (has_edge e f) refl (edge_covered fs p.1 h.1)
    where
      covered : (i j : ℕ) → i ≢ j → EdgeOk all i j → T (same_edge e (edge i j)) → odd (has_edge e) all ≡ false
      covered i j d k t = rw (same_edge_sound e (edge i j) t) (edge_even all i j d k)

      by : (b : Bool) → has_edge e f ≡ b → (odd (has_edge e) fs ≡ false) ⊎ (odd (has_edge e) all ≡ false) →
          (has_edge e f ⊕ odd (has_edge e) fs ≡ false) ⊎ (odd (has_edge e) all ≡ false)
      by true q _ =
          inr
          (of_three (same_edge e (edge f.p f.q)) (same_edge e (edge f.q f.r)) (same_edge e (edge f.r f.p))
          (covered f.p f.q p.0.pq h.0.0)
          (covered f.q f.r p.0.qr h.0.1)
          (covered f.r f.p p.0.rp h.0.2)
          (rw q tt))
      by false q (inl o) = inl (rw (q, o))
      by false q (inr x) = inr x

pub closed_by_edges : (fs : List Face) → Each Proper fs → EdgesOk fs → Closed fs
closed_by_edges fs p h e = ⊎_elim (λ x. x) (λ x. x) (edge_covered fs e fs p h)

-- The edges of a closed solid, counted by its faces: an edge lies in two of them at least, and a face has three sides. Assumes nothing.
use Rattle.std.specs.Prelude.{◌≡◌, refl, Bool, true, false, ◌&&◌, ◌||◌, List, ℕ, ◌+◌, ◌*◌, ◌≤◌, min, max, eqb, ltb}
use Rattle.std.proofs.Common.{sym, ap, ap₂, ◌∙◌, arith, eqb-true, ltb-true}
use Rattle.laws.specs.Decides.{and_iff}
use Rattle.laws.specs.Even.{count}
use Rattle.laws.specs.Lists.{run, length_run}
use Rattle.laws.specs.Mask.{digit}
use Rattle.scene.specs.declared.Face.{Face}
use Rattle.scene.specs.declared.Solid.{Solid}
use Rattle.scene.specs.Edges.{joined}
use Rattle.pierce.specs.Closed.{has_edge, Closed}
use Rattle.survey_edges.specs.Sums.{digit_le}
use Rattle.survey_edges.specs.Pairs.{pair_sum, pairs_add, pairs_le, pair_once, list_most}
use Rattle.survey_edges.specs.TwoFaces.{edge_of, two_faces}

one_of : (b x y z : Bool) → digit (b && (x || y || z)) ≤ digit (b && x) + (digit (b && y) + digit (b && z))
one_of false x y z = omega arith
one_of true true y z = omega arith
one_of true false true z = omega arith
one_of true false false z = omega arith

-- pairs that pass g, lower point first
module _ (g : ℕ → ℕ → Bool) where
  -- how many of the face's sides do
  abbrev pub sides_where : Face → ℕ
  sides_where f = digit (g (min f.p f.q) (max f.p f.q))
      + (digit (g (min f.q f.r) (max f.q f.r)) + digit (g (min f.r f.p) (max f.r f.p)))

  -- among the n points from low on
  module _ (low n : ℕ) where
    -- the side from p to q
    abbrev side : (p q i j : ℕ) → ℕ
    side p q i j = digit (g (low + i) (low + j) && (eqb (low + i) (min p q) && eqb (low + j) (max p q)))

    side_most : (p q : ℕ) → pair_sum (side p q) n ≤ digit (g (min p q) (max p q))
    side_most p q =
        let b = g (min p q) (max p q) in
        omega (
          arith,
          pairs_le (side p q) (λ i j. digit ((b && eqb (low + i) (min p q)) && eqb (low + j) (max p q))) n (λ i j. digit_le _ _ (by i j)),
          pair_once b low (min p q) (max p q) n,
        )
      where
        by : (i j : ℕ) → (g (low + i) (low + j) && (eqb (low + i) (min p q) && eqb (low + j) (max p q))) ≡ true →
            ((g (min p q) (max p q) && eqb (low + i) (min p q)) && eqb (low + j) (max p q)) ≡ true
        by i j h =
            let c = (and_iff (g (low + i) (low + j)) _).0 h in
            let d = (and_iff (eqb (low + i) (min p q)) (eqb (low + j) (max p q))).0 c.1 in
            let z : g (min p q) (max p q) ≡ true =
            ap₂ g (sym (eqb-true (low + i) (min p q) d.0)) (sym (eqb-true (low + j) (max p q) d.1)) ∙ c.0 in
            rw (z, d.0, d.1)

    triangle_most : (f : Face) → pair_sum (λ i j. digit (g (low + i) (low + j) && has_edge (edge_of (low + i) (low + j)) f)) n ≤ sides_where f
    triangle_most f =
        let pq = side f.p f.q in
        let qr = side f.q f.r in
        let rp = side f.r f.p in
        omega (
          arith,
          pairs_le (λ i j. digit (g (low + i) (low + j) && has_edge (edge_of (low + i) (low + j)) f)) (λ i j. pq i j + (qr i j + rp i j)) n
              (λ i j. one_of (g (low + i) (low + j)) _ _ _),
          pairs_add pq (λ i j. qr i j + rp i j) n,
          pairs_add qr rp n,
          side_most f.p f.q,
          side_most f.q f.r,
          side_most f.r f.p,
        )

module _ (face : ℕ → Face) (k : Solid) where
  -- an edge from the i-th vertex to the j-th, from 0, lower point first
  abbrev pub is_edge : (i j : ℕ) → Bool
  is_edge i j = ltb (k.vert0 + 1 + i) (k.vert0 + 1 + j) && joined face k (k.vert0 + 1 + i) (k.vert0 + 1 + j)

  -- where b sides of a face pass at most, two edges that pass come with b faces
  pub edges_where : Closed (run face (k.face0 + 1) k.faces) → (g : ℕ → ℕ → Bool) (b : ℕ) → ((f : Face) → sides_where g f ≤ b) →
      2 * pair_sum (λ i j. digit (g (k.vert0 + 1 + i) (k.vert0 + 1 + j) && is_edge i j)) k.verts ≤ k.faces * b
  edges_where closed g b most =
      omega (
        arith,
        pairs_add edges edges k.verts,
        pairs_le (λ i j. edges i j + edges i j) (λ i j. count (sides i j) own) k.verts twice,
        list_most sides k.verts b (λ f. omega (arith, triangle_most g (k.vert0 + 1) k.verts f, most f)) own,
        ap (λ (n : ℕ). n * b) (length_run face (k.face0 + 1) k.faces),
      )
    where
      own : List Face
      own = run face (k.face0 + 1) k.faces

      edges : (i j : ℕ) → ℕ
      edges i j = digit (g (k.vert0 + 1 + i) (k.vert0 + 1 + j) && is_edge i j)

      sides : (i j : ℕ) → Face → Bool
      sides i j f = g (k.vert0 + 1 + i) (k.vert0 + 1 + j) && has_edge (edge_of (k.vert0 + 1 + i) (k.vert0 + 1 + j)) f

      twice : (i j : ℕ) → edges i j + edges i j ≤ count (sides i j) own
      twice i j = go (g u v) (is_edge i j) refl
        where
          u : ℕ
          u = k.vert0 + 1 + i

          v : ℕ
          v = k.vert0 + 1 + j

          go : (c e : Bool) → is_edge i j ≡ e → digit (c && e) + digit (c && e) ≤ count (λ f. c && has_edge (edge_of u v) f) own
          go false e h = omega arith
          go true false h = omega arith
          go true true h =
              let d = (and_iff (ltb u v) (joined face k u v)).0 h in
              two_faces face k closed u v (ltb-true u v d.0) d.1

-- An edge of a closed solid lies in two of its faces at least: in one, and in an even number. Assumes nothing.
use Rattle.std.specs.Prelude.{◌≡◌, Bool, true, false, ◌&&◌, List, [], ◌∷◌, ℕ, ◌+◌, ◌%◌, ◌≤◌, ◌<◌, min, max, eqb}
use Rattle.std.proofs.Common.{sym, ap, ◌∙◌, inl, inr, arith, eq-eqb}
use Rattle.std.proofs.Math.Bool.{or-true}
use Rattle.laws.specs.Even.{count, odd_count}
use Rattle.laws.specs.Lists.{Some, run, any_iff}
use Rattle.laws.specs.Mask.{digit, odd_n_mod}
use Rattle.laws.specs.Range.{more}
use Rattle.scene.specs.Faces.{Both, both_iff, has_both}
use Rattle.scene.specs.declared.Face.{Face}
use Rattle.scene.specs.declared.Solid.{Solid}
use Rattle.scene.specs.Edges.{joined}
use Rattle.pierce.specs.Closed.{Edge, has_edge, Closed}

module _ (i j : ℕ) where
  abbrev pub edge_of : Edge
  edge_of = record { low = i; high = j }

  -- two corners of a face are the ends of one of its sides
  module _ (lt : i < j) where
    along : (p q : ℕ) → (p ≡ i) × (q ≡ j) → (eqb i (min p q) && eqb j (max p q)) ≡ true
    along p q h = rw (eq-eqb i (min p q) (omega arith), eq-eqb j (max p q) (omega arith))

    back : (p q : ℕ) → (p ≡ j) × (q ≡ i) → (eqb i (min p q) && eqb j (max p q)) ≡ true
    back p q h = rw (eq-eqb i (min p q) (omega arith), eq-eqb j (max p q) (omega arith))

    by_corners : (f : Face) → Both i j f → has_edge edge_of f ≡ true
    by_corners f (inl a, inl b) = absurd (omega arith)
    by_corners f (inl a, inr (inl b)) = simp (along f.p f.q (a, b))
    by_corners f (inl a, inr (inr b)) = simp (back f.r f.p (b, a), or-true)
    by_corners f (inr (inl a), inl b) = simp (back f.p f.q (b, a))
    by_corners f (inr (inl a), inr (inl b)) = absurd (omega arith)
    by_corners f (inr (inl a), inr (inr b)) = simp (along f.q f.r (a, b), or-true)
    by_corners f (inr (inr a), inl b) = simp (along f.r f.p (a, b), or-true)
    by_corners f (inr (inr a), inr (inl b)) = simp (back f.q f.r (b, a), or-true)
    by_corners f (inr (inr a), inr (inr b)) = absurd (omega arith)

    has_edge_law : (f : Face) → has_both i j f ≡ true → has_edge edge_of f ≡ true
    has_edge_law f h = by_corners f ((both_iff i j f).0 h)

some_counted : {A : Type 0} (P : A → Type 0) (g : A → Bool) → ((x : A) → P x → g x ≡ true) → (xs : List A) → Some P xs → 1 ≤ count g xs
some_counted P g h [] s = absurd s
some_counted P g h (x ∷ xs) (inl p) = rw (h x p) (omega arith)
some_counted P g h (x ∷ xs) (inr s) = go (g x) (some_counted P g h xs s)
  where
    go : (b : Bool) → 1 ≤ count g xs → 1 ≤ more b (count g xs)
    go true l = omega arith
    go false l = l

pub two_faces : (face : ℕ → Face) (k : Solid) → Closed (run face (k.face0 + 1) k.faces) → (i j : ℕ) → i < j → joined face k i j ≡ true →
    2 ≤ count (has_edge (edge_of i j)) (run face (k.face0 + 1) k.faces)
unfolding joined
two_faces face k closed i j lt h =
    let own : List Face = run face (k.face0 + 1) k.faces in
    let n : ℕ = count (has_edge (edge_of i j)) own in
    let in_one : Some (λ f. has_both i j f ≡ true) own =
    (any_iff (λ f. has_both i j f ≡ true) face (λ f. has_both i j (face f)) (k.face0 + 1) (k.face0 + 1 + k.faces) k.faces (omega arith)
    (λ f. (λ x. x, λ x. x))).0 h in
    let even : n % 2 ≡ 0 = sym (odd_n_mod n) ∙ ap digit (odd_count (has_edge (edge_of i j)) own ∙ closed (edge_of i j)) in
    omega (arith, some_counted (λ f. has_both i j f ≡ true) (has_edge (edge_of i j)) (has_edge_law i j lt) own in_one)

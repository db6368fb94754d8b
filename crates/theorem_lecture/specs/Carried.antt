-- The hits of a solid, carried over to a solid that is the same but for the numbers of its points and faces, these in the same order: they
-- are the hits of that solid, in the same order. Assumes nothing.
use Rattle.std.specs.Prelude.{◌≡◌, ◌≢◌, Bool, ◌&&◌, ℕ, zero, suc, ◌+◌, ◌<◌, ltb}
use Rattle.std.proofs.Math.Path.{refl, ap}
use Rattle.std.proofs.Common.{sym, ◌∙◌, arith, lt-ltb, le-ltb, ltb-true}
use Rattle.std.proofs.Math.Bool.{true, false, cond}
use mathlib.Core.List.{List, [], ◌∷◌, ◌++◌, map, map-append}
use Rattle.std.proofs.Math.Decide.{dec_lt}
use Rattle.laws.specs.Runs.{up_to, up_to_same}
use Rattle.scene.specs.Edges.{joined}
use Rattle.scene.specs.declared.Solid.{Solid}
use Rattle.pierce.specs.Formula.{pierced}
use Rattle.questions.specs.Hits.{PierceView, Hit, face_hits, edge_hits, pair_hits, pairs_at, vertex_hits, solid_hits}

map_up_to : {A : Type 0} (f : A → A) (g : ℕ → List A) (n : ℕ) → up_to (λ i. map f (g i)) n ≡ map f (up_to g n)
unfolding up_to
map_up_to f g zero = refl
map_up_to f g (suc n) = ap (λ l. l ++ map f (g n)) (map_up_to f g n) ∙ sym (map-append f (up_to g n) (g n))

-- a run of as many, each of them carried over
runs_carried : {A : Type 0} (f : A → A) (g h : ℕ → List A) (m n : ℕ) → m ≡ n → ((i : ℕ) → i < n → g i ≡ map f (h i)) →
    up_to g m ≡ map f (up_to h n)
runs_carried f g h m n e s = ap (up_to g) e ∙ up_to_same g (λ i. map f (h i)) n s ∙ map_up_to f h n

module _ (o o' : PierceView) (k k' : Solid) (carry : Hit → Hit) where
  -- vertex i of the solid, face j of the other, from 0 on, and the pair of two vertices and such a face
  abbrev vertex : Solid → ℕ → ℕ
  vertex k i = k.vert0 + 1 + i

  abbrev pair : Solid → (i m j : ℕ) → Hit
  pair k i m j = record { low = vertex k i; high = vertex k m; face = k.other0 + 1 + j }

  abbrev pierces : PierceView → Solid → (i m j : ℕ) → Bool
  pierces o k i m j = pierced o.points o.row (vertex k i) (vertex k m) (o.face (k.other0 + 1 + j))

  -- as many vertices and faces, the same edges, and they pierce the same faces
  pub record SameSolid : Type 0 where
    pub vertices : k'.verts ≡ k.verts
    pub faces : k'.others ≡ k.others
    pub edges : (i m : ℕ) → i < k.verts → m < k.verts →
        joined o'.face k' (vertex k' i) (vertex k' m) ≡ joined o.face k (vertex k i) (vertex k m)
    pub pierced_same : (i m j : ℕ) → i < k.verts → m < k.verts → i ≢ m → j < k.others → pierces o' k' i m j ≡ pierces o k i m j
    pub pairs : (i m j : ℕ) → i < k.verts → m < k.verts → j < k.others → carry (pair k i m j) ≡ pair k' i m j

  module _ (h : SameSolid) where
    face_carried : (i m j : ℕ) → i < k.verts → m < k.verts → i ≢ m → j < k.others →
        face_hits o' k' (vertex k' i) (vertex k' m) j ≡ map carry (face_hits o k (vertex k i) (vertex k m) j)
    unfolding face_hits
    face_carried i m j a b d c = rw (h.pierced_same i m j a b d c) (by (pierces o k i m j))
      where
        by : (t : Bool) → cond t (pair k' i m j ∷ []) [] ≡ map carry (cond t (pair k i m j ∷ []) [])
        by true = ap (λ (x : Hit). x ∷ []) (sym (h.pairs i m j a b c))
        by false = refl

    -- the order is the same
    order : (x y i m : ℕ) → ltb (x + 1 + i) (x + 1 + m) ≡ ltb (y + 1 + i) (y + 1 + m)
    order x y i m = by (dec_lt i m)
      where
        by : Dec (i < m) → ltb (x + 1 + i) (x + 1 + m) ≡ ltb (y + 1 + i) (y + 1 + m)
        by (yes l) = lt-ltb (x + 1 + i) (x + 1 + m) (omega arith) ∙ sym (lt-ltb (y + 1 + i) (y + 1 + m) (omega arith))
        by (no l) = le-ltb (x + 1 + i) (x + 1 + m) (omega arith) ∙ sym (le-ltb (y + 1 + i) (y + 1 + m) (omega arith))

    pair_carried : (i m : ℕ) → i < k.verts → m < k.verts → pairs_at o' k' (vertex k' i) m ≡ map carry (pairs_at o k (vertex k i) m)
    unfolding pair_hits edge_hits
    pair_carried i m a b =
        rw (order k'.vert0 k.vert0 i m, h.edges i m a b)
        (by (ltb (vertex k i) (vertex k m)) (joined o.face k (vertex k i) (vertex k m)) refl)
      where
        hits : PierceView → Solid → List Hit
        hits o k = up_to (face_hits o k (vertex k i) (vertex k m)) k.others

        by : (t e : Bool) → ltb (vertex k i) (vertex k m) ≡ t → cond (t && e) (hits o' k') [] ≡ map carry (cond (t && e) (hits o k) [])
        by false e l = refl
        by true false l = refl
        by true true l =
            let d : vertex k i < vertex k m = ltb-true (vertex k i) (vertex k m) l in
            runs_carried carry (face_hits o' k' (vertex k' i) (vertex k' m)) (face_hits o k (vertex k i) (vertex k m)) k'.others
            k.others h.faces (λ j c. face_carried i m j a b (omega arith) c)

    vertex_carried : (i : ℕ) → i < k.verts → vertex_hits o' k' (vertex k' i) ≡ map carry (vertex_hits o k (vertex k i))
    unfolding vertex_hits
    vertex_carried i a =
        runs_carried carry (pairs_at o' k' (vertex k' i)) (pairs_at o k (vertex k i)) k'.verts k.verts h.vertices
        (λ m b. pair_carried i m a b)

    pub hits_carried : solid_hits o' k' ≡ map carry (solid_hits o k)
    unfolding solid_hits
    hits_carried =
        runs_carried carry (λ i. vertex_hits o' k' (vertex k' i)) (λ i. vertex_hits o k (vertex k i)) k'.verts k.verts
        h.vertices vertex_carried

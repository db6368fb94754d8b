-- The edges of a vertex by the bits of its neighbours' word, and the pairs of a table of all edges: they are the listing. Assumes nothing.
use Rattle.std.specs.Prelude.{◌≡◌, true, false, ◌&&◌, ◌||◌, ltb}
use Rattle.std.proofs.Math.Path.{refl, sym, ap, ap₂}
use Rattle.std.proofs.Common.{◌∙◌, mul_comm, lt-ltb, le-ltb}
use Rattle.std.proofs.Math.Bool.{Bool}
use mathlib.Core.List.{List, [], ◌∷◌, ◌++◌, append-nil}
use Prim.Native.Nat.{ℕ, zero, suc, ◌+◌, ◌-◌, ◌*◌, ◌/◌, ◌^◌, ◌≤◌, ◌<◌}
use Rattle.std.proofs.Math.Nat.{add_comm}
use native.Mathlib.Omega.{arith}
use Rattle.std.proofs.Math.Pow.{high}
use Rattle.laws.specs.Mask.{mask_of, mask_lt, mask_join, mask_none, mask_same, test_bit}
use Rattle.laws.specs.Range.{fold, over, any_of}
use Rattle.laws.specs.Walk.{mask_places}
use Rattle.laws.specs.Runs.{up_to, only, up_to_same, up_to_join}
use Rattle.survey_edges.specs.Bits.{test_beyond}
use Rattle.survey_edges.specs.Links.{outside}
use Rattle.scene.specs.Faces.{Vertex, is_corner, has_both}
use Rattle.scene.specs.declared.Face.{Face}
use Rattle.scene.specs.Edges as words
use Rattle.scene.specs.Edges.{joined, neighbours, Corners}
use Rattle.scene.specs.declared.Solid.{Solid}
use Rattle.pierce_masks.specs.Faces.{width}
use Rattle.questions.specs.Hits.{PierceView, Hit, Sound, edge_mask, edge_hits, pair_hits, vertex_hits, solid_hits}
use Rattle.questions.specs.MaskHits.{edge_hits_law}
use Rattle.questions.specs.WritePairs.{mask_hit}
use Rattle.survey_edges.specs.Table.{Entry, entry_in, entries_in, entry_hits, each, table_hits}
use Rattle.survey_edges.specs.Runs.{up_to_none, each_up_to, each_one, each_only, each_passing}
use Rattle.survey_edges.specs.Edges.{entry, vertex_edges, solid_edges, bit_edges, Higher}

-- ---- who is joined

any_none : (p : ℕ → Bool) (a n : ℕ) → ((f : ℕ) → a ≤ f → f < a + n → p f ≡ false) → fold (λ k rest. p k || rest) false a n ≡ false
any_none p a zero h = refl
any_none p a (suc n) h = rw (h a (omega arith) (omega arith)) (any_none p (suc a) n (λ f b c. h f (omega arith) (omega arith)))

both_false : (a b : Bool) → b ≡ false → (a && b) ≡ false
both_false true b e = e
both_false false b e = refl

-- a neighbour is a vertex of the solid
pub not_joined : (face : ℕ → Face) (k : Solid) (u v : ℕ) → Corners face k → (Vertex k.vert0 (k.vert0 + k.verts) v → ⊥) →
    joined face k u v ≡ false
unfolding joined any_of over has_both
not_joined face k u v corners out =
    any_none (λ f. has_both u v (face f)) (k.face0 + 1) (k.face0 + 1 + k.faces - (k.face0 + 1))
    (λ f a b. both_false (is_corner u (face f)) (is_corner v (face f))
    (outside k.vert0 k.verts v (face f) (corners f (omega arith) (omega arith)) out))

-- the vertices above the i-th (from 0) that an edge joins it to: bit j stands for the j-th of those above
unfoldable up_word : (ℕ → Face) → Solid → ℕ → ℕ
up_word face k i = mask_of (λ j. joined face k (k.vert0 + 1 + i) (k.vert0 + 1 + i + 1 + j)) (words.width - (i + 1))

-- what passes nowhere from n on
mask_cut : (g : ℕ → Bool) (n d : ℕ) → n ≤ d → ((m : ℕ) → n ≤ m → g m ≡ false) → mask_of g d ≡ mask_of g n
mask_cut g n d l h =
    let e : n + (d - n) ≡ d = omega arith in
    let z : mask_of (λ m. g (n + m)) (d - n) ≡ 0 = mask_none (λ m. g (n + m)) (d - n) (λ m b. h (n + m) (omega arith)) in
    ap (mask_of g) (sym e) ∙ mask_join g n (d - n) ∙ rw z (omega arith)

module _ (s : PierceView) (k : Solid) (sound : Sound s k) where
  beyond : (u m : ℕ) → k.verts ≤ m → joined s.face k u (k.vert0 + 1 + m) ≡ false
  beyond u m l = not_joined s.face k u (k.vert0 + 1 + m) sound.corners (λ h. omega arith)

  pub neighbours_small : (u : ℕ) → neighbours s.face k u < 2 ^ k.verts
  unfolding neighbours
  neighbours_small u =
      rw (mask_cut (λ m. joined s.face k u (k.vert0 + 1 + m)) k.verts words.width (omega (arith, sound.vertices.0)) (beyond u))
      (mask_lt (λ m. joined s.face k u (k.vert0 + 1 + m)) k.verts)

  module _ (i : ℕ) (here : i < k.verts) where
    abbrev u : ℕ
    u = k.vert0 + 1 + i

    abbrev above : ℕ → Bool
    above j = joined s.face k u (u + 1 + j)

    abbrev edge : ℕ → List Entry
    edge j = entry s k u (u + 1 + j) ∷ []

    place : (j : ℕ) → k.vert0 + 1 + (i + 1 + j) ≡ u + 1 + j
    place j = omega arith

    -- those above i of the neighbours' word
    shifted : {w : ℕ} → w ≡ neighbours s.face k u → w / 2 ^ (i + 1) ≡ up_word s.face k i
    unfolding neighbours up_word
    shifted e =
        let g : ℕ → Bool = λ m. joined s.face k u (k.vert0 + 1 + m) in
        let d : i + 1 + (words.width - (i + 1)) ≡ words.width = omega (arith, sound.vertices.0) in
        let up = mask_of (λ j. g (i + 1 + j)) (words.width - (i + 1)) in
        ap (λ (x : ℕ). x / 2 ^ (i + 1))
        (e ∙ ap (mask_of g) (sym d) ∙ mask_join g (i + 1) (words.width - (i + 1)) ∙ add_comm (mask_of g (i + 1)) (2 ^ (i + 1) * up)
        ∙ ap (λ (x : ℕ). x + mask_of g (i + 1)) (mul_comm (2 ^ (i + 1)) up))
        ∙ high up (i + 1) (mask_lt g (i + 1))
        ∙ mask_same (λ j. g (i + 1 + j)) above (words.width - (i + 1)) (λ j b. ap (joined s.face k u) (place j))

    none_above : (j : ℕ) → k.verts - (i + 1) ≤ j → above j ≡ false
    none_above j l = sym (ap (joined s.face k u) (place j)) ∙ beyond u (i + 1 + j) (omega arith)

    -- the edges from u, by those bits
    by_bits : bit_edges s k u (up_word s.face k i) ≡ vertex_edges s k u
    unfolding up_word vertex_edges
    by_bits =
        let fits : words.width - (i + 1) ≤ 64 = omega arith in
        let pair : ℕ → List Entry = λ m. only (ltb u (k.vert0 + 1 + m) && joined s.face k u (k.vert0 + 1 + m))
        (entry s k u (k.vert0 + 1 + m) ∷ []) in
        let all : i + 1 + (k.verts - (i + 1)) ≡ k.verts = omega arith in
        let wide : k.verts - (i + 1) + (words.width - k.verts) ≡ words.width - (i + 1) = omega (arith, sound.vertices.0) in
        let few : List Entry = up_to (λ j. only (above j) (edge j)) (k.verts - (i + 1)) in
        ap (each edge) (mask_places above 64 (words.width - (i + 1)) fits)
        ∙ sym (each_passing above edge (words.width - (i + 1)))
        ∙ ap (up_to (λ j. only (above j) (edge j))) (sym wide)
        ∙ up_to_join (λ j. only (above j) (edge j)) (k.verts - (i + 1)) (words.width - k.verts)
        ∙ ap (λ (l : List Entry). few ++ l) (up_to_none _ (words.width - k.verts)
        (λ j b. ap (λ (t : Bool). only t (edge (k.verts - (i + 1) + j))) (none_above (k.verts - (i + 1) + j) (omega arith))))
        ∙ append-nil few
        ∙ sym
        (ap (up_to pair) (sym all) ∙ up_to_join pair (i + 1) (k.verts - (i + 1))
        ∙ ap₂ ◌++◌
        (up_to_none pair (i + 1)
        (λ m b. ap (λ (t : Bool). only (t && joined s.face k u (k.vert0 + 1 + m)) (entry s k u (k.vert0 + 1 + m) ∷ []))
        (le-ltb u (k.vert0 + 1 + m) (omega arith))))
        (up_to_same (λ j. pair (i + 1 + j)) (λ j. only (above j) (edge j)) (k.verts - (i + 1))
        (λ j b. ap (λ (v : ℕ). only (ltb u v && joined s.face k u v) (entry s k u v ∷ [])) (place j)
        ∙ ap (λ (t : Bool). only (t && above j) (edge j)) (lt-ltb u (u + 1 + j) (omega arith)))))

    pub higher : {w : ℕ} → w ≡ neighbours s.face k u → Higher s k u (w / 2 ^ (i + 1))
    unfolding up_word
    higher e =
        let n : k.vert0 + k.verts - u ≡ k.verts - (i + 1) = omega arith in
        record {
          small =
              rw (shifted e, n)
              (rw (mask_cut above (k.verts - (i + 1)) (words.width - (i + 1)) (omega (arith, sound.vertices.0)) none_above)
              (mask_lt above (k.verts - (i + 1))));
          edges = ap (bit_edges s k u) (shifted e) ∙ by_bits;
        }

  -- ---- the pairs of all edges

  -- a mask has no faces beyond the solid's
  all_faces_law : (u v : ℕ) → entry_hits k.other0 (entry s k u v) ≡ edge_hits s k u v
  unfolding entry_hits edge_mask
  all_faces_law u v =
      let w : ℕ = edge_mask s k u v in
      let g : ℕ → List Hit = λ i. mask_hit (test_bit w i) u v (k.other0 + 1 + i) in
      let d : k.others + (width - k.others) ≡ width = omega (arith, sound.other.1) in
      let small : w < 2 ^ k.others = mask_lt _ k.others in
      ap (up_to g) (sym d) ∙ up_to_join g k.others (width - k.others)
      ∙ ap (λ (l : List Hit). up_to g k.others ++ l)
      (up_to_none _ (width - k.others) (λ j b. ap (λ (t : Bool). mask_hit t u v (k.other0 + 1 + (k.others + j)))
      (test_beyond k.others (k.others + j) small (omega arith))))
      ∙ append-nil (up_to g k.others) ∙ edge_hits_law s k u v refl

  pub edges_hits : each (entry_hits k.other0) (solid_edges s k) ≡ solid_hits s k
  unfolding solid_edges solid_hits vertex_edges vertex_hits pair_hits
  edges_hits =
      let g : Entry → List Hit = entry_hits k.other0 in
      each_up_to g (λ i. vertex_edges s k (k.vert0 + 1 + i)) k.verts
      ∙ up_to_same _ _ k.verts
      (λ i b. each_up_to g _ k.verts
      ∙ up_to_same _ _ k.verts
      (λ m c. each_only g (ltb (k.vert0 + 1 + i) (k.vert0 + 1 + m) && joined s.face k (k.vert0 + 1 + i) (k.vert0 + 1 + m))
      (entry s k (k.vert0 + 1 + i) (k.vert0 + 1 + m) ∷ [])
      ∙ ap (only (ltb (k.vert0 + 1 + i) (k.vert0 + 1 + m) && joined s.face k (k.vert0 + 1 + i) (k.vert0 + 1 + m)))
      (each_one g (entry s k (k.vert0 + 1 + i) (k.vert0 + 1 + m)) ∙ all_faces_law (k.vert0 + 1 + i) (k.vert0 + 1 + m))))

  -- so a table of the solid's edges has the solid's part of the listing
  pub table_hits_law : (ends masks : List ℕ) (n : ℕ) → entries_in ends masks n ≡ solid_edges s k →
      table_hits k.other0 ends masks n ≡ solid_hits s k
  unfolding entries_in
  table_hits_law ends masks n e =
      up_to_same _ _ n (λ j b. sym (each_one (entry_hits k.other0) (entry_in ends masks j)))
      ∙ sym (each_up_to (entry_hits k.other0) (λ j. entry_in ends masks j ∷ []) n) ∙ ap (each (entry_hits k.other0)) e ∙ edges_hits

-- The table of a solid's edges, in the demands' words: the edges of its faces, each once with its mask, and they rise. Assumes nothing.
use Rattle.std.specs.Prelude.{◌≡◌, ◌↔◌, Bool, ◌&&◌, List, [], ◌∷◌, ltb, Ok}
use Rattle.std.proofs.Math.Path.{refl, subst}
use Rattle.std.proofs.Common.{sym, ◌∙◌, arith}
use Rattle.std.proofs.Math.Logic.{inl, inr, ⊎_elim}
use mathlib.Core.Logic.Iff
use Prim.Native.Nat.{ℕ, ◌+◌, ◌-◌, ◌<◌}
use borrow.Author.Tests.{ltb-true, lt-ltb}
use Rattle.laws.specs.Decides.{and_iff}
use Rattle.laws.specs.Lists.{Each, Some, each_map}
use Rattle.laws.specs.Runs.{only, each_up_to, each_only, some_up_to, some_only, rising_only, rising_up_to}
use Rattle.laws.specs.Rising.{Rising}
use Rattle.scene.specs.declared.Solid.{Solid}
use Rattle.scene.specs.View.{view_of, solid}
use Rattle.judge.specs.Judge.{judged}
use Rattle.scene.specs.Edges.{joined, Corners}
use Rattle.questions.specs.Hits.{PierceView, edge_mask}
use Rattle.survey_edges.specs.Table.{Entry}
use Rattle.survey_edges.specs.Edges.{entry, vertex_edges, solid_edges}
use Rattle.questions.specs.Answers.{pierce_view, mask_in}
use Rattle.survey_scene.specs.Ready.{sound_a, sound_b}
use Rattle.theorem_demands.specs.Words.{FaceOfA, FaceOfB, Edge}
use Rattle.theorem_demands.specs.Surveys.{Earlier, EdgesAre}
use Rattle.theorem_demands.proofs.Exact.Pairs.{Joined, joined_iff, joined_own, edge_in}
use Rattle.theorem_demands.proofs.Words.Solids.{InWords, a_worded, b_worded}

-- ---- of one solid

module _ (v : PierceView) (k : Solid) where
  abbrev is_edge : (u w : ℕ) → Bool
  is_edge u w = ltb u w && joined v.face k u w

  -- the edge from u to the solid's m-th vertex, from 0, where it is one
  abbrev edge_at : (u m : ℕ) → List Entry
  edge_at u m = only (is_edge u (k.vert0 + 1 + m)) (entry v k u (k.vert0 + 1 + m) ∷ [])

  pub record IsEntry (e : Entry) : Type 0 where
    pub lower_first : e.low < e.high
    pub on : Joined v k e.low e.high
    pub masked : e.mask ≡ edge_mask v k e.low e.high

  module _ (e : Entry) where
    abbrev Is : Entry → Type 0
    Is x = x ≡ e

    to_entry : Some Is (solid_edges v k) → IsEntry e
    unfolding solid_edges vertex_edges
    to_entry p =
        let a = (some_up_to Is (λ i. vertex_edges v k (k.vert0 + 1 + i)) k.verts).0 p in
        let u : ℕ = k.vert0 + 1 + a.0 in
        let b = (some_up_to Is (edge_at u) k.verts).0 a.2 in
        let w : ℕ = k.vert0 + 1 + b.0 in
        let c = (some_only Is (is_edge u w) (entry v k u w ∷ [])).0 b.2 in
        let t = (and_iff (ltb u w) (joined v.face k u w)).0 c.0 in
        ⊎_elim (λ same. subst IsEntry same (record { lower_first = ltb-true u w t.0; on = (joined_iff v k u w).0 t.1; masked = refl }))
        absurd c.1

    from_entry : Corners v.face k → IsEntry e → Some Is (solid_edges v k)
    unfolding solid_edges vertex_edges
    from_entry own p =
        let ends = joined_own v k own p.on in
        let i : ℕ = e.low - (k.vert0 + 1) in
        let m : ℕ = e.high - (k.vert0 + 1) in
        let u : ℕ = k.vert0 + 1 + i in
        let w : ℕ = k.vert0 + 1 + m in
        let eu : e.low ≡ u = omega (arith, ends.0) in
        let ew : e.high ≡ w = omega (arith, ends.1) in
        let em : e.mask ≡ edge_mask v k u w = p.masked ∙ (λ t. edge_mask v k (eu t) (ew t)) in
        let same : e ≡ entry v k u w = λ t. record { low = eu t; high = ew t; mask = em t } in
        let q : IsEntry (entry v k u w) = subst IsEntry same p in
        (some_up_to Is (λ i. vertex_edges v k (k.vert0 + 1 + i)) k.verts).1 (
          i,
          omega (arith, ends.0),
          (some_up_to Is (edge_at u) k.verts).1 (
            m,
            omega (arith, ends.1),
            (some_only Is (is_edge u w) (entry v k u w ∷ [])).1 (
              (and_iff (ltb u w) (joined v.face k u w)).1 (lt-ltb u w q.lower_first, (joined_iff v k u w).1 q.on),
              inl (sym same),
            ),
          ),
        )

  -- ---- they rise

  abbrev At : (u w : ℕ) → Entry → Type 0
  At u w x = (x.low ≡ u) × (x.high ≡ w)

  edge_each : (u m : ℕ) → Each (At u (k.vert0 + 1 + m)) (edge_at u m)
  edge_each u m = each_only (At u (k.vert0 + 1 + m)) (is_edge u (k.vert0 + 1 + m)) _ ((refl, refl), tt)

  vertex_each : (u : ℕ) → Each (λ x. x.low ≡ u) (vertex_edges v k u)
  unfolding vertex_edges
  vertex_each u = each_up_to (λ x. x.low ≡ u) (edge_at u) k.verts (λ m l. each_map (λ x h. h.0) (edge_at u m) (edge_each u m))

  vertex_rises : (u : ℕ) → Rising Earlier (vertex_edges v k u)
  unfolding vertex_edges
  vertex_rises u =
      rising_up_to Earlier (edge_at u) (λ m. At u (k.vert0 + 1 + m)) (edge_each u)
      (λ i j x y l p q. inr (omega (arith, p.0, q.0), inl (omega (arith, p.1, q.1))))
      (λ m. rising_only Earlier (is_edge u (k.vert0 + 1 + m)) _ (tt, tt)) k.verts

  edges_rise : Rising Earlier (solid_edges v k)
  unfolding solid_edges
  edges_rise =
      rising_up_to Earlier (λ i. vertex_edges v k (k.vert0 + 1 + i)) (λ i x. x.low ≡ k.vert0 + 1 + i) (λ i. vertex_each (k.vert0 + 1 + i))
      (λ i j x y l p q. inl (omega (arith, p, q))) (λ i. vertex_rises (k.vert0 + 1 + i)) k.verts

-- ---- of a scene: the solid k in its words, and the number m of the other

module _ (s : List ℕ) where
  abbrev v : PierceView
  v = pierce_view (view_of s)

  module _ {k : Solid} {n : ℕ} {Of Own Other : ℕ → Type 0} (named : InWords s k n Of Own Other) (m : ℕ)
      (against : (u w : ℕ) → edge_mask v k u w ≡ mask_in (view_of s) u w m) (corners : Corners v.face k) where
    entered : (e : Entry) → IsEntry v k e ↔ (Edge s Own e.low e.high × (e.mask ≡ mask_in (view_of s) e.low e.high m))
    entered e = (
      λ p. ((edge_in s named).0 (p.lower_first, p.on), p.masked ∙ against e.low e.high),
      λ p.
          let o = (edge_in s named).1 p.0 in
          record { lower_first = o.0; on = o.1; masked = p.1 ∙ sym (against e.low e.high) },
    )

    edges_are : EdgesAre s Own m (solid_edges v k)
    edges_are = record { rising = edges_rise v k; members = λ e. Iff.trans (to_entry v k e, from_entry v k e corners) (entered e) }

  module _ (ok : judged s ≡ Ok tt) where
    pub edges_of_a : EdgesAre s (FaceOfA s) 2 (solid_edges v (solid (view_of s) 1))
    unfolding mask_in edge_mask solid
    edges_of_a = edges_are (a_worded s) 2 (λ u w. refl) (sound_a s ok).corners

    pub edges_of_b : EdgesAre s (FaceOfB s) 1 (solid_edges v (solid (view_of s) 2))
    unfolding mask_in edge_mask solid
    edges_of_b = edges_are (b_worded s) 1 (λ u w. refl) (sound_b s ok).corners

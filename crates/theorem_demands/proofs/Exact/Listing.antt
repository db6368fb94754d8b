-- The order of the hits of one solid's edges: they rise by lower point, then higher point, then face. Assumes nothing.
use Rattle.std.specs.Prelude.{◌≡◌, ◌&&◌, ℕ, ◌+◌, ltb}
use Rattle.std.proofs.Math.Path.{refl}
use Rattle.std.proofs.Math.Logic.{inl, inr}
use Rattle.std.proofs.Common.{arith}
use Rattle.laws.specs.Lists.{Each, each_map}
use Rattle.laws.specs.Runs.{each_up_to, each_only, rising_only, rising_up_to}
use Rattle.laws.specs.Rising.{Less, Rising}
use Rattle.scene.specs.Faces.{Vertex}
use Rattle.scene.specs.Edges.{joined}
use Rattle.scene.specs.declared.Solid.{Solid}
use Rattle.pierce.specs.Formula.{pierced}
use Rattle.questions.specs.Hits.{PierceView, Hit, face_hits, edge_hits, pair_hits, pairs_at, vertex_hits, solid_hits}
use Rattle.questions.specs.WritePairs.{three}

-- ---- the hits of one solid's edges

module _ (v : PierceView) (k : Solid) where
  -- by lower point, higher point, face
  abbrev pub Lower : Hit → Hit → Type 0
  Lower x y = Less (three x) (three y)

  abbrev At : (u w f : ℕ) → Hit → Type 0
  At u w f x = (x.low ≡ u) × (x.high ≡ w) × (x.face ≡ f)

  abbrev Of : (u w : ℕ) → Hit → Type 0
  Of u w x = (x.low ≡ u) × (x.high ≡ w)

  face_each : (u w i : ℕ) → Each (At u w (k.other0 + 1 + i)) (face_hits v k u w i)
  unfolding face_hits
  face_each u w i =
      each_only (At u w (k.other0 + 1 + i)) (pierced v.points v.row u w (v.face (k.other0 + 1 + i))) _ ((refl, refl, refl), tt)

  face_rises : (u w i : ℕ) → Rising Lower (face_hits v k u w i)
  unfolding face_hits
  face_rises u w i = rising_only Lower (pierced v.points v.row u w (v.face (k.other0 + 1 + i))) _ (tt, tt)

  edge_each : (u w : ℕ) → Each (Of u w) (edge_hits v k u w)
  unfolding edge_hits
  edge_each u w =
      each_up_to (Of u w) (face_hits v k u w) k.others (λ i l. each_map (λ x h. (h.0, h.1)) (face_hits v k u w i) (face_each u w i))

  edge_rises : (u w : ℕ) → Rising Lower (edge_hits v k u w)
  unfolding edge_hits
  edge_rises u w =
      rising_up_to Lower (face_hits v k u w) (λ i. At u w (k.other0 + 1 + i)) (face_each u w)
      (λ i j x y l p q. inr (omega (arith, p.0, q.0), inr (omega (arith, p.1, q.1), inl (omega (arith, p.2, q.2)))))
      (face_rises u w) k.others

  pair_each : (u m : ℕ) → Each (Of u (k.vert0 + 1 + m)) (pairs_at v k u m)
  unfolding pair_hits
  pair_each u m =
      each_only (Of u (k.vert0 + 1 + m)) (ltb u (k.vert0 + 1 + m) && joined v.face k u (k.vert0 + 1 + m)) _
      (edge_each u (k.vert0 + 1 + m))

  pair_rises : (u m : ℕ) → Rising Lower (pairs_at v k u m)
  unfolding pair_hits
  pair_rises u m = rising_only Lower (ltb u (k.vert0 + 1 + m) && joined v.face k u (k.vert0 + 1 + m)) _
      (edge_rises u (k.vert0 + 1 + m))

  vertex_each : (u : ℕ) → Each (λ x. x.low ≡ u) (vertex_hits v k u)
  unfolding vertex_hits
  vertex_each u = each_up_to (λ x. x.low ≡ u) (pairs_at v k u) k.verts (λ m l. each_map (λ x h. h.0) (pairs_at v k u m) (pair_each u m))

  vertex_rises : (u : ℕ) → Rising Lower (vertex_hits v k u)
  unfolding vertex_hits
  vertex_rises u =
      rising_up_to Lower (pairs_at v k u) (λ m. Of u (k.vert0 + 1 + m)) (pair_each u)
      (λ i j x y l p q. inr (omega (arith, p.0, q.0), inl (omega (arith, p.1, q.1)))) (pair_rises u) k.verts

  pub solid_each : Each (λ x. Vertex k.vert0 (k.vert0 + k.verts) x.low) (solid_hits v k)
  unfolding solid_hits
  solid_each =
      each_up_to _ (λ i. vertex_hits v k (k.vert0 + 1 + i)) k.verts
      (λ i l. each_map (λ x e. (omega (arith, e), omega (arith, e))) (vertex_hits v k (k.vert0 + 1 + i)) (vertex_each (k.vert0 + 1 + i)))

  pub solid_rises : Rising Lower (solid_hits v k)
  unfolding solid_hits
  solid_rises =
      rising_up_to Lower (λ i. vertex_hits v k (k.vert0 + 1 + i)) (λ i x. x.low ≡ k.vert0 + 1 + i) (λ i. vertex_each (k.vert0 + 1 + i))
      (λ i j x y l p q. inl (omega (arith, p, q))) (λ i. vertex_rises (k.vert0 + 1 + i)) k.verts

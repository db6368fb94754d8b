-- The entries of the listing of an accepted scene are the pierced pairs, each once, and they rise. Assumes nothing.
use Rattle.std.specs.Prelude.{◌≡◌, ◌↔◌, true, ◌&&◌, List, [], ◌∷◌, ltb, Ok}
use Rattle.std.proofs.Common.{sym, ◌∙◌}
use Rattle.std.proofs.Math.Path.{subst}
use Rattle.std.proofs.Math.Logic.{inl, inr, ⊎_elim}
use mathlib.Core.Logic.Iff
use Prim.Native.Nat.{ℕ, ◌+◌, ◌-◌, ◌≤◌, ◌<◌}
use native.Mathlib.Omega.{arith}
use borrow.Author.Tests.{ltb-true, lt-ltb}
use Rattle.laws.specs.Decides.{and_iff}
use Rattle.laws.specs.Lists.{Each, Some, any_iff, each_map}
use Rattle.laws.specs.Runs.{some_up_to, some_only}
use Rattle.laws.specs.Members.{some_append, some_run}
use Rattle.laws.specs.Rising.{Rising, rising_append, rising_map, rising_once, less_never}
use Rattle.scene.specs.Tables.{tables_of, face}
use Rattle.scene.specs.Faces.{Corner, Both, Vertex, FaceOf, both_iff}
use Rattle.scene.specs.declared.Face.{Face}
use Rattle.judge.specs.Judge.{judged}
use Rattle.scene.specs.Edges.{joined, Corners}
use Rattle.scene.specs.declared.Solid.{Solid}
use Rattle.pierce.specs.Formula.{pierced}
use Rattle.questions.specs.Hits.{PierceView, Hit, Own, face_hits, edge_hits, pair_hits, pairs_at, vertex_hits, solid_hits}
use Rattle.questions.specs.WritePairs.{three}
use Rattle.scene.specs.View.{view_of, solid_a, solid_b, solid}
use Rattle.questions.specs.Answers.{listing_in, pierce_view}
use Rattle.survey_scene.specs.Ready.{sound_a, sound_b}
use Rattle.theorem_demands.specs.Words.{Edge}
use Rattle.theorem_demands.proofs.Words.Solids.{InWords, a_worded, b_worded}
use Rattle.theorem_demands.specs.Exact.{Crossing, PiercedPair, solid_of, Before, ListingIs}
use Rattle.theorem_demands.proofs.Exact.Listing.{Lower, solid_each, solid_rises}

-- a corner of one of the solid's faces is one of its vertices
corner_vertex : {low high i : ℕ} (f : Face) → FaceOf low high f → Corner i f → Vertex low high i
corner_vertex f h (inl e) = subst (Vertex _ _) e h.p
corner_vertex f h (inr (inl e)) = subst (Vertex _ _) e h.q
corner_vertex f h (inr (inr e)) = subst (Vertex _ _) e h.r

-- ---- the hits of one solid's edges

module _ (v : PierceView) (k : Solid) where
  -- u and w are corners of one face of the solid
  abbrev pub Joined : (u w : ℕ) → Type 0
  Joined u w = (f : ℕ) × ((k.face0 + 1 ≤ f) × (f < k.face0 + 1 + k.faces)) × Both u w (v.face f)

  pub joined_iff : (u w : ℕ) → (joined v.face k u w ≡ true) ↔ Joined u w
  unfolding joined
  joined_iff u w =
      Iff.trans (any_iff (λ f. Both u w (v.face f)) (λ f. f) _ (k.face0 + 1) (k.face0 + 1 + k.faces) k.faces (omega arith)
      (λ f. both_iff u w (v.face f)))
      (some_run (λ f. Both u w (v.face f)) (λ f. f) (k.face0 + 1) k.faces)

  -- then both are vertices of the solid
  pub joined_own : Corners v.face k → {u w : ℕ} → Joined u w → Own v k u × Own v k w
  joined_own own p =
      let ok = own p.0 (omega (arith, p.1)) (omega (arith, p.1)) in
      (corner_vertex (v.face p.0) ok p.2.0, corner_vertex (v.face p.0) ok p.2.1)

  pub record IsHit (h : Hit) : Type 0 where
    pub lower_first : h.low < h.high
    pub on : Joined h.low h.high
    pub other_face : Vertex k.other0 (k.other0 + k.others) h.face
    pub pierces : pierced v.points v.row h.low h.high (v.face h.face) ≡ true

  -- the one at the places i, m and j
  abbrev hit_at : (i m j : ℕ) → Hit
  hit_at i m j = record { low = k.vert0 + 1 + i; high = k.vert0 + 1 + m; face = k.other0 + 1 + j }

  module _ (h : Hit) where
    abbrev Is : Hit → Type 0
    Is x = x ≡ h

    to_hit : Some Is (solid_hits v k) → IsHit h
    unfolding solid_hits vertex_hits pair_hits edge_hits face_hits
    to_hit p =
        let a = (some_up_to Is (λ i. vertex_hits v k (k.vert0 + 1 + i)) k.verts).0 p in
        let u : ℕ = k.vert0 + 1 + a.0 in
        let b = (some_up_to Is (pairs_at v k u) k.verts).0 a.2 in
        let w : ℕ = k.vert0 + 1 + b.0 in
        let c = (some_only Is (ltb u w && joined v.face k u w) (edge_hits v k u w)).0 b.2 in
        let t = (and_iff (ltb u w) (joined v.face k u w)).0 c.0 in
        let d = (some_up_to Is (face_hits v k u w) k.others).0 c.1 in
        let e = (some_only Is (pierced v.points v.row u w (v.face (k.other0 + 1 + d.0)))
        (hit_at a.0 b.0 d.0 ∷ [])).0 d.2 in
        ⊎_elim (λ same. subst IsHit same (record {
          lower_first = ltb-true u w t.0;
          on = (joined_iff u w).0 t.1;
          other_face = (omega arith, omega (arith, d.1));
          pierces = e.0;
        })) absurd e.1

    from_hit : Corners v.face k → IsHit h → Some Is (solid_hits v k)
    unfolding solid_hits vertex_hits pair_hits edge_hits face_hits
    from_hit own p =
        let ends = joined_own own p.on in
        let i : ℕ = h.low - (k.vert0 + 1) in
        let m : ℕ = h.high - (k.vert0 + 1) in
        let j : ℕ = h.face - (k.other0 + 1) in
        let u : ℕ = k.vert0 + 1 + i in
        let w : ℕ = k.vert0 + 1 + m in
        let eu : h.low ≡ u = omega (arith, ends.0) in
        let ew : h.high ≡ w = omega (arith, ends.1) in
        let ef : h.face ≡ k.other0 + 1 + j = omega (arith, p.other_face) in
        let same : h ≡ hit_at i m j = λ t. record { low = eu t; high = ew t; face = ef t } in
        let q : IsHit (hit_at i m j) = subst IsHit same p in
        (some_up_to Is (λ i. vertex_hits v k (k.vert0 + 1 + i)) k.verts).1 (
          i,
          omega (arith, ends.0),
          (some_up_to Is (pairs_at v k u) k.verts).1 (
            m,
            omega (arith, ends.1),
            (some_only Is (ltb u w && joined v.face k u w) (edge_hits v k u w)).1 (
              (and_iff (ltb u w) (joined v.face k u w)).1 (lt-ltb u w q.lower_first, (joined_iff u w).1 q.on),
              (some_up_to Is (face_hits v k u w) k.others).1 (
                j,
                omega (arith, p.other_face),
                (some_only Is (pierced v.points v.row u w (v.face (k.other0 + 1 + j))) (hit_at i m j ∷ [])).1
                    (q.pierces, inl (sym same)),
              ),
            ),
          ),
        )

    pub hit_iff : Corners v.face k → Some Is (solid_hits v k) ↔ IsHit h
    hit_iff own = (to_hit, from_hit own)

-- ---- of a scene

module _ (s : List ℕ) where
  abbrev hits_of : Solid → List Hit
  hits_of k = solid_hits (pierce_view (view_of s)) k

  -- of the edges of one solid
  module _ {k : Solid} {n : ℕ} {Of Faces Other : ℕ → Type 0} (w : InWords s k n Of Faces Other) where
    pub edge_in : {i j : ℕ} → ((i < j) × Joined (pierce_view (view_of s)) k i j) ↔ Edge s Faces i j
    edge_in = (
      λ p. let o = p.1 in record { lower_first = p.0; on = (o.0, (w.faces o.0).0 o.1, o.2.0, o.2.1) },
      λ p. let o = p.on in (p.lower_first, (o.0, (w.faces o.0).1 o.1, (o.2, o.3))),
    )

    crossing_iff : (h : Hit) → IsHit (pierce_view (view_of s)) k h ↔ Crossing s Faces Other h
    crossing_iff h = (
      λ p. (edge_in.0 (p.lower_first, p.on), (w.others h.face).0 p.other_face, p.pierces),
      λ p.
          let e = edge_in.1 p.0 in
          record { lower_first = e.0; on = e.1; other_face = (w.others h.face).1 p.1; pierces = p.2 },
    )

    members_in : Corners (face (tables_of s)) k → (h : Hit) → Some (λ x. x ≡ h) (hits_of k) ↔ Crossing s Faces Other h
    members_in own h = Iff.trans (hit_iff (pierce_view (view_of s)) k h own) (crossing_iff h)

    numbers_in : Each (λ x. solid_of s x.low ≡ n) (hits_of k)
    numbers_in = each_map (λ x p. w.number x.low ((w.vertices x.low).0 p)) (hits_of k) (solid_each (pierce_view (view_of s)) k)

    rises_in : Rising (Before s) (hits_of k)
    rises_in =
        rising_map (Lower (pierce_view (view_of s)) k) (Before s) (λ x. solid_of s x.low ≡ n) (λ x y p q o. inr (p ∙ sym q, o)) (hits_of k)
        numbers_in (solid_rises (pierce_view (view_of s)) k)

  -- of both, A's first
  module _ (ok : judged s ≡ Ok tt) where
    pub members : (h : Hit) → Some (λ x. x ≡ h) (listing_in (view_of s)) ↔ PiercedPair s h
    unfolding listing_in solid
    members h =
        let a = members_in (a_worded s) (sound_a s ok).corners h in
        let b = members_in (b_worded s) (sound_b s ok).corners h in
        Iff.trans (some_append (λ x. x ≡ h) (hits_of (solid_a (view_of s))) (hits_of (solid_b (view_of s))))
        (⊎_elim (λ p. inl (a.0 p)) (λ p. inr (b.0 p)), ⊎_elim (λ p. inl (a.1 p)) (λ p. inr (b.1 p)))

  pub rises : Rising (Before s) (listing_in (view_of s))
  unfolding listing_in solid
  rises =
      rising_append (Before s) (hits_of (solid_a (view_of s))) (hits_of (solid_b (view_of s))) (rises_in (a_worded s)) (rises_in (b_worded s))
      (each_map (λ x p. each_map (λ y q. inl (omega (arith, p, q))) (hits_of (solid_b (view_of s))) (numbers_in (b_worded s)))
      (hits_of (solid_a (view_of s))) (numbers_in (a_worded s)))

  pub listing_is : judged s ≡ Ok tt → ListingIs s
  listing_is ok =
      record {
        rising = rises;
        members = members ok;
        once = λ h p. rising_once (Before s) (λ x. less_never (solid_of s x.low ∷ three x)) (listing_in (view_of s)) rises h
            ((members ok h).1 p);
      }

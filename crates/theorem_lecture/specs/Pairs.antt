-- The pairs of a scene, where its points are numbered in another way and its edges still pierce what they pierced: each is a pair of the
-- other scene, with the ends' other numbers, and there are no more of them than there. Assumes nothing.
use Rattle.std.specs.Prelude.{◌≡◌, ◌≢◌, ◌↔◌, Bool, false, cond, List, [], ◌∷◌, length, Ok}
use Rattle.std.proofs.Math.Path.{refl, ap₂}
use Rattle.std.proofs.Common.{sym, ap, subst, ◌∙◌, inl, inr, arith}
use Rattle.std.proofs.Math.Bool.{true}
use Prim.Native.Nat.{ℕ, ◌≤◌, ◌<◌}
use Rattle.std.proofs.Math.Dec.{ltb}
use borrow.Author.Tests.{ltb-true, ltb-false, lt-ltb, le-ltb}
use Rattle.laws.specs.Lists.{Each}
use Rattle.laws.specs.Rising.{less_never, rising_map}
use Rattle.scene.specs.Faces.{Corner, FaceOf, Vertex}
use Rattle.scene.specs.Limits.{limits}
use Rattle.scene.specs.Records.{verts_a, verts}
use Rattle.scene.specs.Tables.{tables_of, face}
use Rattle.scene.specs.declared.Face.{Face}
use Rattle.judge.specs.Judge.{judged}
use Rattle.rules.proofs.Given.{face_of_a, face_of_b}
use Rattle.pierce.specs.Beside.{Beside, beside}
use Rattle.scene.specs.View.{view_of}
use Rattle.questions.specs.Hits.{Hit}
use Rattle.questions.specs.WritePairs.{three}
use Rattle.questions.specs.Answers.{listing_in}
use Rattle.theorem_demands.specs.Words.{FaceOfA, FaceOfB, FaceNumber, Point, CornerOf, Edge, Pierces}
use Rattle.theorem_demands.specs.Exact.{PiercedPair, Before, solid_of}
use Rattle.theorem_demands.proofs.Exact.Proof.{exact}
use Rattle.theorem_demands.proofs.Symmetry.Proof.{symmetry}
use Rattle.theorem_lecture.specs.Lecture.{points_of}
use Rattle.theorem_lecture.specs.Fewer.{In, no_more}
use Rattle.theorem_lecture.specs.Numbered.{NumberedBy, InListing, carried}

-- the listing has the pairs, and no other
pub pair_iff : (s : List ℕ) → judged s ≡ Ok tt → (x : Hit) → InListing s x ↔ PiercedPair s x
pair_iff s ok = ((exact s).listing ((exact s).accepted.0 ok)).members

-- a corner of a solid's face is one of the solid's vertices
corner_vertex : {low high i : ℕ} (f : Face) → FaceOf low high f → Corner i f → Vertex low high i
corner_vertex f h (inl e) = omega (arith, h.p, e)
corner_vertex f h (inr (inl e)) = omega (arith, h.q, e)
corner_vertex f h (inr (inr e)) = omega (arith, h.r, e)

-- the ends of a pair are points
pub ends_in : (s : List ℕ) → judged s ≡ Ok tt → (x : Hit) → PiercedPair s x → Point s x.low × Point s x.high
ends_in s ok x (inl p) =
    let e = p.0.on in
    let f = face_of_a limits s ok e.0 (omega (arith, e.1)) (omega (arith, e.1)) in
    let u = corner_vertex (face (tables_of s) e.0) f e.2 in
    let v = corner_vertex (face (tables_of s) e.0) f e.3 in
    omega (arith, u, v)
ends_in s ok x (inr p) =
    let e = p.0.on in
    let f = face_of_b limits s ok e.0 (omega (arith, e.1)) (omega (arith, e.1)) in
    let u = corner_vertex (face (tables_of s) e.0) f e.2 in
    let v = corner_vertex (face (tables_of s) e.0) f e.3 in
    omega (arith, u, v)

module _ (to : ℕ → ℕ) (s t : List ℕ) (ok : judged s ≡ Ok tt) (ok' : judged t ≡ Ok tt) (h : NumberedBy to s t)
    (apart : (i j : ℕ) → Point s i → Point s j → i ≢ j → to i ≢ to j) where
  corner_carried : (i f : ℕ) → FaceNumber s f → CornerOf s i f → CornerOf t (to i) f
  corner_carried i f n (inl e) = inl (ap (λ (g : Face). g.p) (h.faces f n) ∙ ap to e)
  corner_carried i f n (inr (inl e)) = inr (inl (ap (λ (g : Face). g.q) (h.faces f n) ∙ ap to e))
  corner_carried i f n (inr (inr e)) = inr (inr (ap (λ (g : Face). g.r) (h.faces f n) ∙ ap to e))

  -- the edges of one solid, with the faces of the other: low and high bound its vertices
  module _ (Own Other Own' Other' : ℕ → Type 0) (low high : ℕ)
      (own : (f : ℕ) → Own f → FaceNumber s f × Own' f × FaceOf low high (face (tables_of s) f)) (other : (f : ℕ) → Other f → Other' f)
      (within : high < points_of s)
      (beside' : (u v f : ℕ) → Vertex low high u → Vertex low high v → u ≢ v → Other f →
      Beside (points_of t) (to u) (to v) (face (tables_of t) f))
      (same : (u v f : ℕ) → Vertex low high u → Vertex low high v → u ≢ v → Other f → Pierces s u v f → Pierces t (to u) (to v) f) where
    half : (x : Hit) → Edge s Own x.low x.high × Other x.face × Pierces s x.low x.high x.face →
        let y = carried to x in Edge t Own' y.low y.high × Other' y.face × Pierces t y.low y.high y.face
    unfolding carried
    half x (edge, f, p) = by (ltb (to u) (to v)) refl
      where
        u : ℕ
        u = x.low

        v : ℕ
        v = x.high

        g : ℕ
        g = edge.on.0

        there : FaceNumber s g × Own' g × FaceOf low high (face (tables_of s) g)
        there = own g edge.on.1

        u_in : Vertex low high u
        u_in = corner_vertex (face (tables_of s) g) there.2 edge.on.2

        v_in : Vertex low high v
        v_in = corner_vertex (face (tables_of s) g) there.2 edge.on.3

        u_on : CornerOf t (to u) g
        u_on = corner_carried u g there.0 edge.on.2

        v_on : CornerOf t (to v) g
        v_on = corner_carried v g there.0 edge.on.3

        differ : u ≢ v
        differ e = omega (arith, edge.lower_first, e)

        pierces : Pierces t (to u) (to v) x.face
        pierces = same u v x.face u_in v_in differ f p

        by : (b : Bool) → ltb (to u) (to v) ≡ b →
            let y : Hit = cond b (record { low = to u; high = to v; face = x.face })
            (record { low = to v; high = to u; face = x.face }) in
            Edge t Own' y.low y.high × Other' y.face × Pierces t y.low y.high y.face
        by true e = (record { lower_first = ltb-true (to u) (to v) e; on = (g, there.1, u_on, v_on) }, other x.face f, pierces)
        by false e =
            let a = apart u v (omega (arith, u_in)) (omega (arith, v_in)) differ in
            let l = ltb-false (to u) (to v) e in (
              record { lower_first = omega arith; on = (g, there.1, v_on, u_on) },
              other x.face f,
              (symmetry t ok' (to u) (to v) (face (tables_of t) x.face) (beside' u v x.face u_in v_in differ f)).ends ∙ pierces,
            )

  -- ---- both

  module _
      (same-a : (u v f : ℕ) → Vertex 0 (verts_a s) u → Vertex 0 (verts_a s) v → u ≢ v → FaceOfB s f → Pierces s u v f →
      Pierces t (to u) (to v) f)
      (same-b : (u v f : ℕ) → Vertex (verts_a s) (verts s) u → Vertex (verts_a s) (verts s) v → u ≢ v → FaceOfA s f →
      Pierces s u v f → Pierces t (to u) (to v) f) where
    beside_a : (u v f : ℕ) → Vertex 0 (verts_a s) u → Vertex 0 (verts_a s) v → u ≢ v → FaceOfB s f →
        Beside (points_of t) (to u) (to v) (face (tables_of t) f)
    beside_a u v f a b d o =
        let x = h.of_a u (omega (arith, a)) in
        let y = h.of_a v (omega (arith, b)) in
        beside {low = verts_a t} {high = verts t} (omega arith) (omega (arith, h.verts_a_law, h.verts_b_law))
        (omega (arith, h.verts_a_law, h.verts_b_law))
        (apart u v (omega (arith, a)) (omega (arith, b)) d) (λ z. omega (arith, z, h.verts_a_law)) (λ z. omega (arith, z, h.verts_a_law)) _
        (face_of_b limits t ok' f (omega (arith, o, h.faces_a_law)) (omega (arith, o, h.faces_a_law, h.faces_b_law)))

    beside_b : (u v f : ℕ) → Vertex (verts_a s) (verts s) u → Vertex (verts_a s) (verts s) v → u ≢ v → FaceOfA s f →
        Beside (points_of t) (to u) (to v) (face (tables_of t) f)
    beside_b u v f a b d o =
        let x = h.of_b u (omega (arith, a)) in
        let y = h.of_b v (omega (arith, b)) in
        beside {low = 0} {high = verts_a t} (omega arith) (omega (arith, h.verts_a_law, h.verts_b_law)) (omega (arith, h.verts_a_law, h.verts_b_law))
        (apart u v (omega (arith, a)) (omega (arith, b)) d) (λ z. omega (arith, z, h.verts_a_law)) (λ z. omega (arith, z, h.verts_a_law)) _
        (face_of_a limits t ok' f (omega (arith, o)) (omega (arith, o, h.faces_a_law)))

    pub pair_carried : (x : Hit) → PiercedPair s x → PiercedPair t (carried to x)
    pair_carried x (inl p) =
        inl (half (FaceOfA s) (FaceOfB s) (FaceOfA t) (FaceOfB t) 0 (verts_a s)
        (λ f o. (
          (omega (arith, o), omega (arith, o)),
          (omega (arith, o), omega (arith, o, h.faces_a_law)),
          face_of_a limits s ok f (omega (arith, o)) (omega (arith, o)),
        ))
        (λ f o. (omega (arith, o, h.faces_a_law), omega (arith, o, h.faces_a_law, h.faces_b_law))) (omega arith) beside_a same-a x p)
    pair_carried x (inr p) =
        inr (half (FaceOfB s) (FaceOfA s) (FaceOfB t) (FaceOfA t) (verts_a s) (verts s)
        (λ f o. (
          (omega (arith, o), omega (arith, o)),
          (omega (arith, o, h.faces_a_law), omega (arith, o, h.faces_a_law, h.faces_b_law)),
          face_of_b limits s ok f (omega (arith, o)) (omega (arith, o)),
        ))
        (λ f o. (omega (arith, o), omega (arith, o, h.faces_a_law))) (omega arith) beside_b same-b x p)

-- each of a list is so where all that stand in it are
each_in : {A : Type 0} (P : A → Type 0) (l : List A) → ((x : A) → In x l → P x) → Each P l
each_in P [] h = tt
each_in P (x ∷ l) h = (h x (inl refl), each_in P l (λ y k. h y (inr k)))

-- ---- pairs: one that is carried there and back is the same, so no two are carried to one, and there are no more here than there

lower_first : (s : List ℕ) (x : Hit) → PiercedPair s x → x.low < x.high
lower_first s x (inl p) = p.0.lower_first
lower_first s x (inr p) = p.0.lower_first

module _ (to back : ℕ → ℕ) where
  there_and_back : (x : Hit) → x.low < x.high → back (to x.low) ≡ x.low → back (to x.high) ≡ x.high →
      carried back (carried to x) ≡ x
  unfolding carried
  there_and_back x l e f = by (ltb (to x.low) (to x.high))
    where
      up : ltb (back (to x.low)) (back (to x.high)) ≡ true
      up = ap₂ ltb e f ∙ lt-ltb x.low x.high l

      down : ltb (back (to x.high)) (back (to x.low)) ≡ false
      down = ap₂ ltb f e ∙ le-ltb x.high x.low (omega arith)

      by : (b : Bool) →
          carried back (cond b (record { low = to x.low; high = to x.high; face = x.face })
          (record { low = to x.high; high = to x.low; face = x.face })) ≡ x
      by true = rw up (λ i. record { low = e i; high = f i; face = x.face })
      by false = rw down (λ i. record { low = e i; high = f i; face = x.face })

  pub no_more_pairs : (s t : List ℕ) → judged s ≡ Ok tt → judged t ≡ Ok tt →
      ((x : Hit) → PiercedPair s x → (back (to x.low) ≡ x.low) × (back (to x.high) ≡ x.high)) →
      ((x : Hit) → PiercedPair s x → PiercedPair t (carried to x)) → length (listing_in (view_of s)) ≤ length (listing_in (view_of t))
  no_more_pairs s t ok ok' inverse pair =
      let here = (exact s).listing ((exact s).accepted.0 ok) in
      let there = (exact t).listing ((exact t).accepted.0 ok') in
      let pairs = each_in (PiercedPair s) (listing_in (view_of s)) (λ x k. (here.members x).0 k) in
      no_more (carried to) (listing_in (view_of s)) (listing_in (view_of t))
      (rising_map (Before s) (λ x y. carried to x ≢ carried to y) (PiercedPair s)
      (λ x y p q b e. less_never (solid_of s x.low ∷ three x)
      (subst (Before s x) (sym (self y q) ∙ ap (carried back) (sym e) ∙ self x p) b)) (listing_in (view_of s)) pairs here.rising)
      (each_in (λ x. In (carried to x) (listing_in (view_of t))) (listing_in (view_of s))
      (λ x k. (there.members (carried to x)).1 (pair x ((here.members x).0 k))))
    where
      self : (x : Hit) → PiercedPair s x → carried back (carried to x) ≡ x
      self x p = there_and_back x (lower_first s x p) (inverse x p).0 (inverse x p).1

-- A face that an edge pierces parts its ends. It parts two sides of a triangle at most, and an edge lies in two faces of its solid at
-- least: so no more edges of a solid pierce a face than the solid has faces. Assumes nothing.
use Rattle.std.specs.Prelude.{◌≡◌, Bool, ◌&&◌, List}
use Rattle.std.proofs.Math.Path.{sym, ap}
use Rattle.std.proofs.Common.{◌∙◌, mul-le-mul, length-append}
use Rattle.std.proofs.Math.Bool.{true, false}
use Prim.Native.Nat.{ℕ, ◌+◌, ◌*◌, ◌≤◌}
use native.Mathlib.Omega.{arith}
use Rattle.std.proofs.Math.ListN.{length}
use Rattle.laws.specs.Decides.{and_iff}
use Rattle.laws.specs.Even.{count}
use Rattle.laws.specs.Lists.{Each, run, length_run, each_map}
use Rattle.laws.specs.Mask.{digit, mask_ones}
use Rattle.laws.specs.Runs.{only}
use Rattle.scene.specs.Limits.{limits}
use Rattle.scene.specs.Records.{verts_a, verts}
use Rattle.scene.specs.Faces.{FaceOf, EdgesOk}
use Rattle.scene.specs.View.{view_of, solid, solid_a, solid_b}
use Rattle.scene.specs.declared.Face.{Face}
use Rattle.scene.specs.declared.Solid.{Solid}
use Rattle.rules.proofs.Given.{counts, each_of_a, each_of_b, edges_of_a, edges_of_b}
use Rattle.pierce.specs.Closed.{Closed, closed_by_edges}
use Rattle.pierce.specs.Formula.{pierced}
use Rattle.survey_sides.specs.Sides.{above}
use Rattle.survey_sides.specs.Crossing.{pierced_differs}
use Rattle.questions.specs.Hits.{PierceView, Hit, face_hits, edge_hits, pair_hits, pairs_at, vertex_hits, solid_hits}
use Rattle.survey_edges.specs.Sums.{sum_of, ones_sum, digit_le}
use Rattle.survey_edges.specs.Runs.{up_to_length, only_length}
use Rattle.survey_edges.specs.Pairs.{pair_sum, pairs_le, list_most}
use Rattle.survey_edges.specs.Counted.{is_edge, edges_where}
use Rattle.questions.specs.Answers.{listing_in, pierce_view}
use Rattle.theorem_longest.specs.Longest.{LongestListing}
use Rattle.theorem_longest.specs.Parted.{parted, sides_parted}

module _ (s : PierceView) (k : Solid) (closed : Closed (run s.face (k.face0 + 1) k.faces)) where
  -- the solid's vertices, from 0, and the other's faces
  abbrev at : ℕ → ℕ
  at i = k.vert0 + 1 + i

  abbrev others : List Face
  others = run s.face (k.other0 + 1) k.others

  abbrev hit : (u v : ℕ) → Face → Bool
  hit = pierced s.points s.row

  -- an edge that pierces f
  abbrev passes : (i j : ℕ) → Face → Bool
  passes i j f = is_edge s.face k i j && hit (at i) (at j) f

  -- ---- no more edges of the solid pierce f than it has faces

  face_most : (f : Face) → pair_sum (λ i j. digit (passes i j f)) k.verts ≤ k.faces
  face_most f =
      omega (
        arith,
        pairs_le (λ i j. digit (passes i j f)) (λ i j. digit (apart (at i) (at j) && is_edge s.face k i j)) k.verts
            (λ i j. digit_le _ _ (by i j)),
        edges_where s.face k closed apart 2 (sides_parted (λ t. above s.row t f)),
      )
    where
      apart : (u v : ℕ) → Bool
      apart = parted (λ t. above s.row t f)

      by : (i j : ℕ) → passes i j f ≡ true → (apart (at i) (at j) && is_edge s.face k i j) ≡ true
      by i j e =
          let c = (and_iff (is_edge s.face k i j) (hit (at i) (at j) f)).0 e in
          let d = (and_iff _ (hit (at i) (at j) f)).0 (pierced_differs s.points s.row (at i) (at j) f ∙ c.1) in
          (and_iff (apart (at i) (at j)) _).1 (d.0, c.0)

  -- ---- a pair of the listing for each face that an edge pierces

  edge_length : (u v : ℕ) → length (edge_hits s k u v) ≡ count (hit u v) others
  unfolding edge_hits face_hits
  edge_length u v =
      up_to_length (face_hits s k u v) k.others
      ∙ ap (λ (g : ℕ → ℕ). sum_of g k.others)
      (λ t i. only_length {A = Hit} (hit u v (s.face (k.other0 + 1 + i))) (record { low = u; high = v; face = k.other0 + 1 + i }) t)
      ∙ sym (ones_sum (λ i. hit u v (s.face (k.other0 + 1 + i))) k.others)
      ∙ mask_ones (hit u v) s.face (k.other0 + 1) k.others

  pair_length : (i j : ℕ) → length (pairs_at s k (at i) j) ≤ count (passes i j) others
  unfolding pair_hits
  pair_length i j = go (is_edge s.face k i j)
    where
      go : (b : Bool) → length (only b (edge_hits s k (at i) (at j))) ≤ count (λ f. b && hit (at i) (at j) f) others
      go true = omega (arith, edge_length (at i) (at j))
      go false = omega arith

  solid_most : length (solid_hits s k) ≤ k.others * k.faces
  unfolding solid_hits vertex_hits
  solid_most =
      omega (
        arith,
        up_to_length (λ i. vertex_hits s k (at i)) k.verts,
        ap (λ (g : ℕ → ℕ). sum_of g k.verts) (λ t i. up_to_length (pairs_at s k (at i)) k.verts t),
        pairs_le (λ i j. length (pairs_at s k (at i) j)) (λ i j. count (passes i j) others) k.verts pair_length,
        list_most passes k.verts k.faces face_most others,
        ap (λ (n : ℕ). n * k.faces) (length_run s.face (k.other0 + 1) k.others),
      )

-- ---- of a scene

closed : (low high : ℕ) (fs : List Face) → Each (FaceOf low high) fs → EdgesOk fs → Closed fs
closed low high fs h = closed_by_edges fs (each_map {P = FaceOf low high} (λ f p. p.proper) fs h)

pub longest_listing : LongestListing
unfolding listing_in solid
longest_listing s ok =
    let v = view_of s in
    let c = counts limits s ok in
    let a = closed 0 (verts_a s) (run v.face 1 v.faces_in_a) (each_of_a limits s ok) (edges_of_a limits s ok) in
    let b = closed (verts_a s) (verts s) (run v.face (v.faces_in_a + 1) v.faces_in_b) (each_of_b limits s ok) (edges_of_b limits s ok) in
    let l : length (listing_in v) ≤ 2 * v.faces_in_a * v.faces_in_b =
    omega (
      arith,
      length-append (solid_hits (pierce_view v) (solid_a v)) (solid_hits (pierce_view v) (solid_b v)),
      solid_most (pierce_view v) (solid_a v) a,
      solid_most (pierce_view v) (solid_b v) b,
    ) in
    record { by_faces = l; by_limits = omega (arith, mul-le-mul c.faces_a_law.1 c.faces_b_law.1) }

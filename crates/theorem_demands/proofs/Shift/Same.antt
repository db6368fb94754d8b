-- What is answered of a scene depends on its rows by the signs of four different points alone. Assumes nothing.
use Rattle.std.specs.Prelude.{◌≡◌, Bool, ◌&&◌, ℕ, ◌+◌, ◌≤◌, ◌<◌, leb}
use Rattle.std.proofs.Math.Path.{refl, ap, ap₂}
use Rattle.std.proofs.Math.Bool.{true, false, cond}
use mathlib.Core.List.{List, [], ◌++◌}
use Rattle.std.proofs.Common.{arith, ltb-true}
use Rattle.std.proofs.Math.Dec.{ltb}
use Rattle.laws.specs.Range.{count_same, lowest_same}
use Rattle.laws.specs.Mask.{mask_same}
use Rattle.laws.specs.Runs.{up_to_same}
use Rattle.scene.specs.View.{View, verts, points, solid}
use Rattle.scene.specs.declared.Row.{Row}
use Rattle.scene.specs.declared.Face.{Face}
use Rattle.scene.specs.declared.Solid.{Solid}
use Rattle.orient.specs.Signs.{Upto, Four, Six, ne_sym}
use Rattle.orient.specs.Terms.{positive_at}
use Rattle.scene.specs.Edges.{joined}
use Rattle.pierce.specs.Formula.{helper, sides_count, formula, pierces, pierced}
use Rattle.pierce.specs.Helper.{helper_found}
use Rattle.pierce.specs.Beside.{Beside, BesideAll}
use Rattle.pierce_masks.specs.Faces.{is_odd}
use Rattle.pierce.specs.Against.{mask_against}
use Rattle.questions.specs.Hits.{PierceView, Hit, face_hits, edge_hits, pair_hits, pairs_at, vertex_hits, solid_hits, enclosed_vertex}
use Rattle.questions.specs.Hits.{enclosed_count}
use Rattle.questions.specs.Hits.{lowest_enclosed}
use Rattle.questions.specs.Hits.{Own, Sound}
use Rattle.questions.specs.First.{first_of}
use Rattle.questions.specs.Answers.{pierce_view, mask_in, listing_in, inside_in, cross_or, enclosure_in, verdict_in}
use Rattle.questions.specs.declared.Verdict.{Verdict}
use Rattle.questions.specs.declared.Verdict.TheVariants.{AInB, BInA, Apart}
use Rattle.theorem_demands.specs.Shift.{with_rows}

-- ---- piercing

module _ (n : ℕ) (s t : ℕ → ℕ → ℕ → ℕ → Bool) (same : (a b c d : ℕ) → Four (Upto n) a b c d → s a b c d ≡ t a b c d) where
  formula_same : (u v h p q r : ℕ) → Six (Upto n) u v h p q r → formula s u v h p q r ≡ formula t u v h p q r
  unfolding formula sides_count
  formula_same u v h p q r d =
      let e1 = same p q r u (search ne_sym) in
      let e2 = same p q r v (search ne_sym) in
      let e3 = same u v h p (search) in
      let e4 = same u v h q (search) in
      let e5 = same u v h r (search) in
      let e6 = same u v p q (search) in
      let e7 = same u v q r (search) in
      let e8 = same u v r p (search ne_sym) in
      rw (e1, e2, e3, e4, e5, e6, e7, e8)

  pub pierces_same : 6 ≤ n → (u v : ℕ) (f : Face) → Beside n u v f → pierces n s u v f ≡ pierces n t u v f
  unfolding pierces
  pierces_same l u v f d = formula_same u v (helper n u v f) f.p f.q f.r (helper_found n u v f l d)

-- ---- rows that have the same signs

abbrev pub SameSigns : ℕ → (row row' : ℕ → Row) → Type 0
SameSigns n row row' = (a b c d : ℕ) → Four (Upto n) a b c d → positive_at row a b c d ≡ positive_at row' a b c d

module _ (n : ℕ) (row row' : ℕ → Row) (same : SameSigns n row row') (enough : 6 ≤ n) where
  pub pierced_same : (u v : ℕ) (f : Face) → Beside n u v f → pierced n row u v f ≡ pierced n row' u v f
  pierced_same = pierces_same n (positive_at row) (positive_at row') same enough

  pub masks_same : (face : ℕ → Face) (u v first count : ℕ) → BesideAll n u v face first count →
      mask_against n row face u v first count ≡ mask_against n row' face u v first count
  masks_same face u v first count h =
      mask_same (λ i. pierced n row u v (face (first + 1 + i))) (λ i. pierced n row' u v (face (first + 1 + i))) count
      (λ i b. pierced_same u v (face (first + 1 + i)) (h i b))

-- ---- a solid, seen with two kinds of rows

module _ (s : PierceView) (k : Solid) (ok : Sound s k) (row' : ℕ → Row) (same : SameSigns s.points s.row row') where
  abbrev t : PierceView
  t = record { points = s.points; row = row'; face = s.face }

  edge_same : (u v : ℕ) → BesideAll s.points u v s.face k.other0 k.others → edge_hits s k u v ≡ edge_hits t k u v
  unfolding edge_hits face_hits
  edge_same u v h =
      up_to_same (face_hits s k u v) (face_hits t k u v) k.others
      (λ i b. rw (pierced_same s.points s.row row' same ok.points.0 u v (s.face (k.other0 + 1 + i)) (h i b)))

  pair_same : (u v : ℕ) (both : Bool) → Own s k u → Own s k v → pair_hits s k u v both ≡ pair_hits t k u v both
  unfolding pair_hits
  pair_same u v both hu hv = go (ltb u v) refl
    where
      go : (b : Bool) → ltb u v ≡ b → cond (b && both) (edge_hits s k u v) [] ≡ cond (b && both) (edge_hits t k u v) []
      go false e = refl
      go true e = ap (λ (hits : List Hit). cond both hits []) (edge_same u v (ok.edges u v hu hv (ltb-true u v e)))

  vertex_same : (u : ℕ) → Own s k u → vertex_hits s k u ≡ vertex_hits t k u
  unfolding vertex_hits
  vertex_same u hu =
      up_to_same (pairs_at s k u) (pairs_at t k u) k.verts
      (λ m b. pair_same u (k.vert0 + 1 + m) (joined s.face k u (k.vert0 + 1 + m)) hu (omega arith))

  pub hits_same : solid_hits s k ≡ solid_hits t k
  unfolding solid_hits
  hits_same =
      up_to_same (λ i. vertex_hits s k (k.vert0 + 1 + i)) (λ i. vertex_hits t k (k.vert0 + 1 + i)) k.verts
      (λ i b. vertex_same (k.vert0 + 1 + i) (omega arith))

  inside_same : (u : ℕ) → k.vert0 + 1 ≤ u → u < k.vert0 + 1 + k.verts → enclosed_vertex s k u ≡ enclosed_vertex t k u
  unfolding enclosed_vertex
  inside_same u l m =
      ap is_odd (masks_same s.points s.row row' same ok.points.0 s.face u s.points k.other0 k.others
      (ok.outward u (omega arith)))

  pub counts_same : enclosed_count s k ≡ enclosed_count t k
  unfolding enclosed_count
  counts_same = count_same (enclosed_vertex s k) (enclosed_vertex t k) (k.vert0 + 1) (k.vert0 + 1 + k.verts) inside_same

  pub lowests_same : lowest_enclosed s k ≡ lowest_enclosed t k
  unfolding lowest_enclosed
  lowests_same = lowest_same (enclosed_vertex s k) (enclosed_vertex t k) (k.vert0 + 1) (k.vert0 + 1 + k.verts) inside_same

-- ---- a scene

module _ (v : View) (ok : (k : ℕ) → Sound (pierce_view v) (solid v k)) (row' : ℕ → Row) (same : SameSigns (points v) v.row row') where
  pub mask_same_rows : (u w k : ℕ) → BesideAll (points v) u w v.face (solid v k).face0 (solid v k).faces →
      mask_in v u w k ≡ mask_in (with_rows v row') u w k
  unfolding mask_in solid
  mask_same_rows u w k h = masks_same (points v) v.row row' same (ok 1).points.0 v.face u w (solid v k).face0 (solid v k).faces h

  pub inside_same_rows : (k : ℕ) → inside_in v k ≡ inside_in (with_rows v row') k
  unfolding inside_in solid
  inside_same_rows k = counts_same (pierce_view v) (solid v k) (ok k) row' same

  pub listing_same_rows : listing_in v ≡ listing_in (with_rows v row')
  unfolding listing_in solid
  listing_same_rows =
      ap₂ ◌++◌ (hits_same (pierce_view v) (solid v 1) (ok 1) row' same) (hits_same (pierce_view v) (solid v 2) (ok 2) row' same)

  pub verdict_same_rows : verdict_in v ≡ verdict_in (with_rows v row')
  unfolding verdict_in enclosure_in solid
  verdict_same_rows =
      ap₂ (λ (l : List Hit) (rest : Verdict). cross_or (first_of l) rest) listing_same_rows
      (ap₂ (λ (p q : ℕ). cond (leb p v.verts_a) (AInB p) (cond (leb q (verts v)) (BInA q) Apart))
      (lowests_same (pierce_view v) (solid v 1) (ok 1) row' same) (lowests_same (pierce_view v) (solid v 2) (ok 2) row' same))

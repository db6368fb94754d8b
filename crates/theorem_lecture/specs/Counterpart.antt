-- A solid k of a scene, and the solid k' that it is where the points are numbered in another way, in each solid in the same order: with no
-- tie between the points outside the other solid and its faces the same edges pierce the same faces, and the same vertices are enclosed.
-- Assumes nothing.
use Rattle.std.specs.Prelude.{◌≡◌, ◌≢◌, ◌&&◌, ◌||◌, map, ℕ, ◌+◌, ◌≤◌, ◌<◌, eqb}
use Rattle.std.proofs.Math.Path.{sym, ap, ap₂}
use Rattle.std.proofs.Common.{◌∙◌, eq-eqb, ne_eqb}
use Rattle.std.proofs.Math.Decide.{ℕ_discrete}
use native.Mathlib.Omega.{arith}
use Rattle.scene.specs.Faces.{Vertex, FaceOf, is_corner, has_both}
use Rattle.scene.specs.declared.Face.{Face}
use Rattle.scene.specs.declared.Solid.{Solid}
use Rattle.orient.specs.Signs.{Upto}
use Rattle.orient.specs.Weighted.{Weighted}
use Rattle.scene.specs.Edges.{joined}
use Rattle.pierce.specs.Beside.{Beside, beside}
use Rattle.pierce_masks.specs.Faces.{is_odd}
use Rattle.pierce.specs.Against.{mask_against}
use Rattle.pierce.specs.Formula.{pierced}
use Rattle.questions.specs.Hits.{PierceView, Hit, solid_hits, enclosed_vertex, enclosed_count, lowest_enclosed}
use Rattle.theorem_lecture.specs.Renumbered.{Renumbering, Untied, renamed, pierced_renamed, mask_renamed}
use Rattle.theorem_lecture.specs.Shifted.{any_shifted, count_shifted, lowest_shifted}
use Rattle.theorem_lecture.specs.Carried.{hits_carried}

-- a point of n that is no vertex of the solid whose vertices are the points above low, up to high
pub record Clear (n low high i : ℕ) : Type 0 where
  pub point : Upto n i
  pub out : Vertex low high i → ⊥

-- low and high: the other solid's vertices are the points above low, up to high
pub record Counterpart (o o' : PierceView) (to face_to : ℕ → ℕ) (k k' : Solid) (low high : ℕ) : Type 0 where
  pub vertices : k'.verts ≡ k.verts
  pub own_count : k'.faces ≡ k.faces
  pub other_count : k'.others ≡ k.others
  pub number : (i : ℕ) → i < k.verts → to (k.vert0 + 1 + i) ≡ k'.vert0 + 1 + i
  pub face_number : (j : ℕ) → j < k.others → face_to (k.other0 + 1 + j) ≡ k'.other0 + 1 + j
  pub own_faces : (j : ℕ) → j < k.faces → o'.face (k'.face0 + 1 + j) ≡ renamed to (o.face (k.face0 + 1 + j))
  pub other_faces : (j : ℕ) → j < k.others → o'.face (k'.other0 + 1 + j) ≡ renamed to (o.face (k.other0 + 1 + j))
  pub own_corners : (j : ℕ) → j < k.faces → FaceOf k.vert0 (k.vert0 + k.verts) (o.face (k.face0 + 1 + j))
  pub other_corners : (j : ℕ) → j < k.others → FaceOf low high (o.face (k.other0 + 1 + j))
  pub within : high ≤ o.points
  pub untied : (j : ℕ) → j < k.others → (u v : ℕ) → Clear o.points low high u → Clear o.points low high v → u ≢ v →
      Untied o.row u v (o.face (k.other0 + 1 + j))
  pub own : (i : ℕ) → i < k.verts → Clear o.points low high (k.vert0 + 1 + i)
  pub before_far : k.vert0 + k.verts < o.points
  pub far : Clear o.points low high o.points
  pub far_number : to o.points ≡ o.points

-- the points of a scene, numbered in another way
pub record Renumbered (o o' : PierceView) (to : ℕ → ℕ) : Type 0 where
  pub points : o'.points ≡ o.points
  pub six : 6 ≤ o.points
  pub numbers : Renumbering o.points to o.row o'.row
  pub weighted : Weighted o.points o.row
  pub weighted' : Weighted o.points o'.row

module _ (o o' : PierceView) (to face_to : ℕ → ℕ) (g : Renumbered o o' to) (k k' : Solid) (low high : ℕ)
    (x : Counterpart o o' to face_to k k' low high) where
  abbrev n : ℕ
  n = o.points

  besides : (u v : ℕ) → Clear n low high u → Clear n low high v → u ≢ v → (j : ℕ) → j < k.others →
      Beside n u v (o.face (k.other0 + 1 + j))
  besides u v cu cv d j b = beside x.within cu.point cv.point d cu.out cv.out _ (x.other_corners j b)

  pub mask_same : (u v : ℕ) → Clear n low high u → Clear n low high v → u ≢ v →
      mask_against o'.points o'.row o'.face (to u) (to v) k'.other0 k'.others
      ≡ mask_against n o.row o.face u v k.other0 k.others
  mask_same u v cu cv d =
      (λ i. mask_against (g.points i) o'.row o'.face (to u) (to v) k'.other0 (x.other_count i))
      ∙ mask_renamed n to o.row o'.row g.numbers g.six g.weighted g.weighted' o.face o'.face
      k.other0 k'.other0 k.others u v (besides u v cu cv d) (λ j b. x.untied j b u v cu cv d) x.other_faces

  -- ---- enclosed vertices

  inside_same : (i : ℕ) → i < k.verts → enclosed_vertex o' k' (k'.vert0 + 1 + i) ≡ enclosed_vertex o k (k.vert0 + 1 + i)
  unfolding enclosed_vertex
  inside_same i b =
      ap₂ (λ (u v : ℕ). is_odd (mask_against o'.points o'.row o'.face u v k'.other0 k'.others))
      (sym (x.number i b)) (g.points ∙ sym x.far_number)
      ∙ ap is_odd (mask_same (k.vert0 + 1 + i) n (x.own i b) x.far (let l = x.before_far in omega arith))

  pub count_same : enclosed_count o' k' ≡ enclosed_count o k
  unfolding enclosed_count
  count_same = count_shifted (enclosed_vertex o' k') (enclosed_vertex o k) (k'.vert0 + 1) (k.vert0 + 1) k'.verts k.verts x.vertices
      inside_same

  -- the lowest is as far on in the one as in the other
  pub lowest_same : lowest_enclosed o' k' + k.vert0 ≡ lowest_enclosed o k + k'.vert0
  unfolding lowest_enclosed
  lowest_same =
      let e = lowest_shifted (enclosed_vertex o' k') (enclosed_vertex o k) (k'.vert0 + 1) (k.vert0 + 1) k'.verts k.verts x.vertices
      inside_same in
      omega arith

  -- ---- edges

  corner_same : (i c : ℕ) → Upto n i → Upto n c → eqb (to c) (to i) ≡ eqb c i
  corner_same i c a b = by (ℕ_discrete c i)
    where
      by : Dec (c ≡ i) → eqb (to c) (to i) ≡ eqb c i
      by (yes e) = eq-eqb (to c) (to i) (ap to e) ∙ sym (eq-eqb c i e)
      by (no e) = ne_eqb (to c) (to i) (g.numbers.apart c i b a e) ∙ sym (ne_eqb c i e)

  module _ (f : Face) (c : FaceOf k.vert0 (k.vert0 + k.verts) f) where
    is_same : (i : ℕ) → Upto n i → is_corner (to i) (renamed to f) ≡ is_corner i f
    unfolding is_corner
    is_same i a =
        let l = x.before_far in
        let p = c.p in
        let q = c.q in
        let r = c.r in
        λ t. corner_same i f.p a (omega arith) t || (corner_same i f.q a (omega arith) t || corner_same i f.r a (omega arith) t)

    both_same : (i m : ℕ) → Upto n i → Upto n m → has_both (to i) (to m) (renamed to f) ≡ has_both i m f
    unfolding has_both
    both_same i m a b = λ t. is_same i a t && is_same m b t

  edge_same : (i m : ℕ) → i < k.verts → m < k.verts →
      joined o'.face k' (k'.vert0 + 1 + i) (k'.vert0 + 1 + m) ≡ joined o.face k (k.vert0 + 1 + i) (k.vert0 + 1 + m)
  unfolding joined
  edge_same i m a b =
      any_shifted (λ f. has_both (k'.vert0 + 1 + i) (k'.vert0 + 1 + m) (o'.face f))
      (λ f. has_both (k.vert0 + 1 + i) (k.vert0 + 1 + m) (o.face f)) (k'.face0 + 1) (k.face0 + 1) k'.faces k.faces x.own_count
      (λ j c. (λ t. has_both (sym (x.number i a) t) (sym (x.number m b) t) (x.own_faces j c t))
      ∙ both_same (o.face (k.face0 + 1 + j)) (x.own_corners j c) (k.vert0 + 1 + i) (k.vert0 + 1 + m) (x.own i a).point
      (x.own m b).point)

  -- ---- hits

  abbrev carry : Hit → Hit
  carry p = record { low = to p.low; high = to p.high; face = face_to p.face }

  pierced_same : (i m j : ℕ) → i < k.verts → m < k.verts → i ≢ m → j < k.others →
      pierced o'.points o'.row (k'.vert0 + 1 + i) (k'.vert0 + 1 + m) (o'.face (k'.other0 + 1 + j)) ≡
      pierced n o.row (k.vert0 + 1 + i) (k.vert0 + 1 + m) (o.face (k.other0 + 1 + j))
  pierced_same i m j a b d c =
      (λ t. pierced (g.points t) o'.row (sym (x.number i a) t) (sym (x.number m b) t) (x.other_faces j c t))
      ∙ pierced_renamed n to o.row o'.row g.numbers g.six g.weighted g.weighted'
      (k.vert0 + 1 + i) (k.vert0 + 1 + m) (o.face (k.other0 + 1 + j))
      (besides (k.vert0 + 1 + i) (k.vert0 + 1 + m) (x.own i a) (x.own m b) (omega arith) j c)
      (x.untied j c (k.vert0 + 1 + i) (k.vert0 + 1 + m) (x.own i a) (x.own m b) (omega arith))

  pub hits_same : solid_hits o' k' ≡ map carry (solid_hits o k)
  hits_same =
      hits_carried o o' k k' carry
      (record {
        vertices = x.vertices;
        faces = x.other_count;
        edges = edge_same;
        pierced_same = pierced_same;
        pairs = λ i m j a b c. λ t. record { low = x.number i a t; high = x.number m b t; face = x.face_number j c t };
      })

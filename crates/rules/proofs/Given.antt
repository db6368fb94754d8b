-- What acceptance gives to the floors above: the rows, the faces and the edges of an accepted scene, by the scene's own numbers.
-- Assumes nothing.
use Rattle.std.specs.Prelude.{◌≡◌, refl, ◌≢◌, ◌↔◌, List, map, ℕ, zero, suc, ◌+◌, ◌≤◌, ◌<◌, pos, nat_abs, Ok}
use Rattle.std.proofs.Common.{sym, ap, subst, inl, inr, arith}
use Rattle.std.proofs.Math.Decide.{dec_lt}
use Rattle.laws.specs.Lists.{Each, run, each_run}
use Rattle.laws.specs.Mapped.{each_mapped, number_mapped}
use Rattle.scene.specs.Limits.{Limits}
use Rattle.scene.specs.Records.{verts_a, verts_b, faces_in_a, faces_in_b, verts, faces}
use Rattle.scene.specs.Tables.{points, row, raise, face, row_at, tables_of}
use Rattle.scene.specs.Read.{size_a, size_b, points_are, row_is, far_is, row_zero, row_none, face_zero, face_none}
use Rattle.scene.specs.Arrays.{RowWithin, AllWithin, FaceWithin, FacesWithin}
use Rattle.scene.specs.Faces.{Corner, Both, FaceOf, Sides, EdgeOk, EdgesOk}
use Rattle.scene.specs.declared.Row.{Row}
use Rattle.scene.specs.declared.Face.{Face}
use Rattle.judge.specs.Judge.{judged_at}
use Rattle.rules.specs.Rules.{Between, CountsOk, RecordOk, FileOk}
use Rattle.rules.specs.TableRules.{TablesOk}
use Rattle.rules.proofs.Bridge.{by_tables}
use Rattle.rules.proofs.Raised.{faces_a_law, faces_b_law}
use Rattle.rules.proofs.Accepted.{accepted}

-- ---- faces raised to the scene's numbers

module _ (m : ℕ) where
  corner_raised : (i : ℕ) (f : Face) → Corner i f ↔ Corner (m + i) (raise m f)
  corner_raised i f = (up, down)
    where
      up : Corner i f → Corner (m + i) (raise m f)
      up (inl e) = inl (omega arith)
      up (inr (inl e)) = inr (inl (omega arith))
      up (inr (inr e)) = inr (inr (omega arith))

      down : Corner (m + i) (raise m f) → Corner i f
      down (inl e) = inl (omega arith)
      down (inr (inl e)) = inr (inl (omega arith))
      down (inr (inr e)) = inr (inr (omega arith))

  face_raised : (v : ℕ) (f : Face) → FaceOf 0 v f → FaceOf m (m + v) (raise m f)
  face_raised v f h = omega arith

  edge_raised : (fs : List Face) (i j : ℕ) → EdgeOk fs i j → EdgeOk (map (raise m) fs) (m + i) (m + j)
  edge_raised fs i j h = (
    h.0,
    number_mapped (Both i j) (Both (m + i) (m + j)) (raise m) (λ f.
        let a = corner_raised i f in
        let b = corner_raised j f in (λ h. (a.0 h.0, b.0 h.1), λ h. (a.1 h.0, b.1 h.1))) h.1,
    h.2,
  )

  edges_raised : (fs : List Face) → EdgesOk fs → EdgesOk (map (raise m) fs)
  edges_raised fs =
      each_mapped (Sides (EdgeOk fs)) (Sides (EdgeOk (map (raise m) fs))) (raise m)
      (λ f h. (edge_raised fs f.p f.q h.0, edge_raised fs f.q f.r h.1, edge_raised fs f.r f.p h.2)) fs

module _ (l : Limits) (s : List ℕ) (ok : judged_at l s ≡ Ok tt) where
  abbrev rules : FileOk l s
  rules = (accepted l s).0 ok

  pub tables_ok : TablesOk l (tables_of s)
  tables_ok = ((by_tables l s).0 rules).1

  -- ---- counts

  pub counts : CountsOk l s
  counts = rules.header.counts

  -- ---- rows

  row_rules : (j : ℕ) → j ≤ verts s → RecordOk l s (j + 1)
  row_rules j b = rules.records (j + 1) (omega arith) (omega arith)

  row_within : (j : ℕ) → j ≤ verts s → RowWithin l (row_at s j)
  row_within j b =
      let c = (row_rules j b).coordinates j b refl in
      record { x = c.x; y = c.y; z = c.z; w = ((row_rules j b).weight j b refl).1 }

  vertex_weighted : (j : ℕ) → 1 ≤ j → j ≤ verts s → (row_at s j).w ≢ pos 0
  vertex_weighted zero a b e = absurd (omega arith)
  vertex_weighted (suc j) a b e =
      let w = ((row_rules (suc j) b).weight (suc j) b refl).0 in
      let z = ap nat_abs e in
      omega arith

  -- what holds of each row of the file holds of the row of each point
  by_number : (X : Row → Type 0) → ((j : ℕ) → j ≤ verts s → X (row_at s j)) → (i : ℕ) → 1 ≤ i → i ≤ verts s + 1 → X (row (tables_of s) i)
  by_number X h i a b = go (dec_lt (verts s) i)
    where
      go : Dec (verts s < i) → X (row (tables_of s) i)
      go (no c) = subst X (sym (row_is s i a (omega arith))) (h i (omega arith))
      go (yes c) = subst X (sym (far_is s (omega arith))) (h 0 (omega arith))

  pub rows_within : AllWithin l (row (tables_of s))
  rows_within zero = subst (RowWithin l) (sym (row_zero s refl)) (omega arith)
  rows_within (suc i) = go (dec_lt (verts s) i)
    where
      go : Dec (verts s < i) → RowWithin l (row (tables_of s) (suc i))
      go (no c) = by_number (RowWithin l) row_within (suc i) (omega arith) (omega arith)
      go (yes c) = subst (RowWithin l) (sym (row_none s (suc i) (omega arith))) (omega arith)

  -- every point but the last, the far point, has a weight that is not 0
  pub weighted : (i : ℕ) → 1 ≤ i → i < points (tables_of s) → (row (tables_of s) i).w ≢ pos 0
  weighted i a b =
      subst (λ (r : Row). r.w ≢ pos 0) (sym (row_is s i a (omega (arith, points_are s))))
      (vertex_weighted i a (omega (arith, points_are s)))

  -- ---- faces

  pub each_of_a : Each (FaceOf 0 (verts_a s)) (run (face (tables_of s)) 1 (faces_in_a s))
  each_of_a = rw (faces_a_law s) (rw (size_a s) at tables_ok.a.corners)

  pub each_of_b : Each (FaceOf (verts_a s) (verts s)) (run (face (tables_of s)) (faces_in_a s + 1) (faces_in_b s))
  each_of_b =
      rw (faces_b_law s)
      (each_mapped (FaceOf 0 (verts_b s)) (FaceOf (verts_a s) (verts s)) (raise (verts_a s)) (face_raised (verts_a s) (verts_b s))
      (tables_of s).b.faces (rw (size_b s) at tables_ok.b.corners))

  pub face_of_a : (k : ℕ) → 1 ≤ k → k ≤ faces_in_a s → FaceOf 0 (verts_a s) (face (tables_of s) k)
  face_of_a k a b = each_run (FaceOf 0 (verts_a s)) (face (tables_of s)) 1 (faces_in_a s) each_of_a k a (omega arith)

  pub face_of_b : (k : ℕ) → faces_in_a s < k → k ≤ faces s → FaceOf (verts_a s) (verts s) (face (tables_of s) k)
  face_of_b k a b =
      each_run (FaceOf (verts_a s) (verts s)) (face (tables_of s)) (faces_in_a s + 1) (faces_in_b s) each_of_b k (omega arith) (omega arith)

  pub faces_within : FacesWithin l (face (tables_of s))
  faces_within k = go (dec_lt 0 k) (dec_lt (faces_in_a s) k) (dec_lt (faces s) k) counts.vertices_a_law counts.vertices_b_law
    where
      go : Dec (0 < k) → Dec (faces_in_a s < k) → Dec (faces s < k) → Between l.least_vertices l.most_vertices (verts_a s) →
          Between l.least_vertices l.most_vertices (verts_b s) → FaceWithin l (face (tables_of s) k)
      go (no a) b c va vb = rw (face_zero s {k = k} (omega arith)) (omega arith)
      go (yes a) (no b) c va vb = let f = face_of_a k a (omega arith) in omega arith
      go (yes a) (yes b) (no c) va vb = let f = face_of_b k b (omega arith) in omega arith
      go (yes a) (yes b) (yes c) va vb = rw (face_none s k c) (omega arith)

  -- ---- each edge lies in an even number of faces of its solid

  pub edges_of_a : EdgesOk (run (face (tables_of s)) 1 (faces_in_a s))
  edges_of_a = rw (faces_a_law s) tables_ok.a.edges

  pub edges_of_b : EdgesOk (run (face (tables_of s)) (faces_in_a s + 1) (faces_in_b s))
  edges_of_b = rw (faces_b_law s) (edges_raised (verts_a s) (tables_of s).b.faces tables_ok.b.edges)

-- An accepted scene, decoded into arrays, is ready for piercing; and what is found in the arrays is so of the scene. Assumes nothing.
use Rattle.std.specs.Prelude.{◌≡◌, refl, ◌≢◌, Bool, true, false, List, ℕ, ◌+◌, ◌*◌, ◌≤◌, leb, ℤ, Ok}
use Rattle.std.proofs.Common.{sym, ap, ◌∙◌, inl, inr, arith, leb-true, leb-false}
use Rattle.std.proofs.Math.Path.{ap₂}
use Rattle.std.specs.Int.Count.{ones}
use Rattle.laws.specs.Decides.{fails_iff}
use Rattle.scene.specs.Limits.{limits, most_points}
use Rattle.scene.specs.Records.{verts_a, faces_in_a, verts, faces}
use Rattle.scene.specs.Read.{points_are}
use Rattle.scene.specs.Arrays.{row_in, face_in, AllWithin, FaceWithin, FacesWithin}
use Rattle.scene.specs.Faces.{Vertex, FaceOf, corner_iff, is_corner}
use Rattle.scene.specs.View.{View, view_of, points, solid, solid_a, solid_b}
use Rattle.scene.specs.View.Laws.{either_solid}
use Rattle.scene.specs.declared.Row.{Row}
use Rattle.scene.specs.declared.Face.{Face}
use Rattle.scene.specs.declared.Solid.{Solid}
use Rattle.judge.specs.Judge.{judged}
use Rattle.rules.proofs.Given.{counts, weighted, rows_within, faces_within, face_of_a, face_of_b}
use Rattle.orient.specs.Signs.{Upto, ne_sym}
use Rattle.orient.specs.Terms.{terms_at, positive_at}
use Rattle.orient.specs.Weighted.{Weighted, SignDefined}
use Rattle.orient.specs.Sizes.{NumbersWithin}
use Rattle.orient.specs.declared.Terms.{Terms}
use Rattle.scene.specs.Edges.{Corners}
use Rattle.pierce.specs.Beside.{Beside, BesideAll, beside}
use Rattle.pierce_masks.specs.Faces.{is_odd}
use Rattle.pierce.specs.Against.{mask_against}
use Rattle.pierce.specs.Formula.{pierced}
use Rattle.questions.specs.Hits.{PierceView, view_in, Sound}
use Rattle.questions.specs.Types.{Signed}
use Rattle.questions.specs.Answers.{pierce_view, sign_fault, pierces_fault, mask_in, other_solid, is_enclosed, faces_are}
use Rattle.questions.specs.Asked.{NotOf, Outside, sign_four, pierces_ends}

not_corner : {i : ℕ} {f : Face} → is_corner i f ≡ false → (i ≢ f.p) × (i ≢ f.q) × (i ≢ f.r)
not_corner {i} {f} h =
    let n = (fails_iff _ (corner_iff i f)).0 h in
    (λ e. n (inl (sym e)), λ e. n (inr (inl (sym e))), λ e. n (inr (inr (sym e))))

module _ (s : List ℕ) (ok : judged s ≡ Ok tt) where
  abbrev v : View
  v = view_of s

  -- ---- numbers have room

  pub rows_fit : points v ≤ most_points limits
  rows_fit = let c = counts limits s ok in omega (arith, c.vertices_a_law, c.vertices_b_law)

  pub faces_fit_law : faces s ≤ 2 * limits.most_faces
  faces_fit_law = let c = counts limits s ok in omega (arith, c.faces_a_law, c.faces_b_law)

  point_fits : {i : ℕ} → Upto (points v) i → i ≤ most_points limits
  point_fits h = omega (arith, rows_fit)

  -- n is the number of its points
  pub far_fits : {n : ℕ} → n ≡ points v → (6 ≤ n) × (n ≤ most_points limits)
  far_fits e = let c = counts limits s ok in (omega (arith, e, c.vertices_a_law, c.vertices_b_law), omega (arith, e, rows_fit))

  rows_are : {rows : ℕ → Row} → rows ≡ v.row → AllWithin limits rows
  rows_are e = rw e (rows_within limits s ok)

  face_fits : {f : Face} (k : ℕ) → f ≡ v.face k → FaceWithin limits f
  face_fits k e = rw e (faces_within limits s ok k)

  -- ---- every sign can be asked for

  pub scene_weighted : Weighted (points v) v.row
  scene_weighted i a b = weighted limits s ok i a (omega (arith, points_are s))

  weighted_are : {n : ℕ} {rows : ℕ → Row} → n ≡ points v → rows ≡ v.row → Weighted n rows
  weighted_are e r = rw (e, r) scene_weighted

  -- of four points, where their sign is not refused
  pub sign_fits : {rows : ℕ → Row} {a b c d : ℕ} → rows ≡ v.row → sign_fault v a b c d ≡ Ok tt → NumbersWithin limits rows a b c d
  sign_fits {a} {b} {c} {d} r h =
      let f = sign_four v a b c d h in (rows_are r, point_fits f.a_in, point_fits f.b_in, point_fits f.c_in, point_fits f.d_in)

  pub four_are : {rows : ℕ → Row} {a b c d : ℕ} → rows ≡ v.row → sign_fault v a b c d ≡ Ok tt → SignDefined rows a b c d
  four_are {a} {b} {c} {d} r h = record { points = points v; weighted = rw r scene_weighted; four = sign_four v a b c d h }

  -- ---- either solid: its numbers fit, and its faces have its vertices as corners

  record Placed (o : Solid) : Type 0 where
    fits : (o.face0 + o.faces ≤ 2 * limits.most_faces) × (o.faces ≤ limits.most_faces)
    vertices : (o.verts ≤ limits.most_vertices) × (o.vert0 + o.verts ≤ verts s)
    corners : Corners v.face o

  placed_a : Placed (solid_a v)
  placed_a =
      let c = counts limits s ok in
      record {
        fits = (omega (arith, c.faces_a_law), omega (arith, c.faces_a_law));
        vertices = (omega (arith, c.vertices_a_law), omega arith);
        corners = λ f a b. let e : 0 + verts_a s ≡ verts_a s = omega arith in rw e (face_of_a limits s ok f (omega arith) (omega arith));
      }

  placed_b : Placed (solid_b v)
  placed_b =
      let c = counts limits s ok in
      record {
        fits = (omega (arith, c.faces_a_law, c.faces_b_law), omega (arith, c.faces_b_law));
        vertices = (omega (arith, c.vertices_b_law), omega arith);
        corners = λ f a b. face_of_b limits s ok f a b;
      }

  placed : (k : ℕ) → Placed (solid v k)
  placed = either_solid v Placed placed_a placed_b

  -- points that are none of its vertices, and its faces
  module _ {o : Solid} (p : Placed o) {u w : ℕ} (pu : Upto (points v) u) (pw : Upto (points v) w) (d : u ≢ w) (ou : NotOf o u)
      (ow : NotOf o w) where
    beside_solid : BesideAll (points v) u w v.face o.face0 o.faces
    beside_solid i b =
        beside (let l = p.vertices.1 in omega arith) pu pw d ou ow _ (p.corners (o.face0 + 1 + i) (omega arith) (omega arith))

  pub outside_beside : {u w k n : ℕ} {o : Solid} {corners : ℕ → Face} → Outside v u w k → n ≡ points v → corners ≡ v.face → o ≡ solid v k →
      BesideAll n u w corners o.face0 o.faces
  outside_beside {k} h is-n are-corners is-o =
      rw (is-n, are-corners, is-o) (beside_solid (placed k) h.u_point h.w_point h.differ h.u_out h.w_out)

  -- the mask of an edge outside a solid
  pub mask_fits : {u w k n : ℕ} {o : Solid} {rows : ℕ → Row} {corners : ℕ → Face} →
      Outside v u w k → n ≡ points v → rows ≡ v.row → corners ≡ v.face → o ≡ solid v k →
      (AllWithin limits rows × FacesWithin limits corners)
      × (((6 ≤ n) × (n ≤ most_points limits) × (u ≤ most_points limits) × (w ≤ most_points limits))
      × (((o.face0 + o.faces ≤ 2 * limits.most_faces) × (o.faces ≤ limits.most_faces))
      × (Weighted n rows × BesideAll n u w corners o.face0 o.faces)))
  mask_fits {k} h is-n r f is-o =
      let t = far_fits is-n in (
        (rows_are r, rw f (faces_within limits s ok)),
        (
          (t.0, t.1, point_fits h.u_point, point_fits h.w_point),
          (rw is-o (placed k).fits, (weighted_are is-n r, outside_beside h is-n f is-o)),
        ),
      )

  -- a face of the scene, and an edge that has no corner of it
  face_of_law : (f : ℕ) → Upto (faces s) f → FaceOf 0 (verts s) (v.face f)
  face_of_law f h = by (leb f (faces_in_a s)) refl
    where
      by : (b : Bool) → leb f (faces_in_a s) ≡ b → FaceOf 0 (verts s) (v.face f)
      by true t = let g = face_of_a limits s ok f h.0 (leb-true f (faces_in_a s) t) in omega arith
      by false t = let g = face_of_b limits s ok f (leb-false f (faces_in_a s) t) h.1 in omega arith

  in_scene : {i : ℕ} → Vertex 0 (verts s) i → Upto (points v) i
  in_scene h = omega arith

  -- where piercing is not refused
  pub pierces_fit : {rows : ℕ → Row} {n u w : ℕ} (f : ℕ) {g : Face} → pierces_fault v u w f ≡ Ok tt → rows ≡ v.row →
      n ≡ points v → g ≡ v.face f →
      (AllWithin limits rows × (6 ≤ n) × (n ≤ most_points limits) × (u ≤ most_points limits) × (w ≤ most_points limits) × FaceWithin limits g)
      × (Weighted n rows × Beside n u w g)
  pierces_fit {n} {u} {w} f {g} h r is-n is-g =
      let e = pierces_ends v u w f h in
      let t = far_fits is-n in
      let c = face_of_law f e.is_face_law in
      let a = not_corner e.u_out in
      let b = not_corner e.w_out in
      let beside : Beside n u w g = rw (is-n, is-g) (search (ne_sym, in_scene)) in
      ((rows_are r, t.0, t.1, point_fits e.u_point, point_fits e.w_point, face_fits f is-g), (weighted_are is-n r, beside))

  -- ---- both solids are ready, in the arrays too

  sound_of : {o p : Solid} → Placed o → Placed p → o.other0 ≡ p.face0 → o.others ≡ p.faces →
      ((i : ℕ) → Vertex o.vert0 (o.vert0 + o.verts) i → NotOf p i) → Sound (pierce_view v) o
  sound_of {o} {p} own theirs e d apart =
      let c = counts limits s ok in
      let l = own.vertices in
      let f = theirs.fits in
      let far : NotOf p (points v) = let t = theirs.vertices.1 in λ w. omega arith in
      record {
        rows = rows_within limits s ok;
        faces = faces_within limits s ok;
        points = omega (arith, c.vertices_a_law, c.vertices_b_law);
        vertices = omega (arith, c.vertices_a_law, c.vertices_b_law);
        own = own.fits.0;
        other = omega arith;
        corners = own.corners;
        weighted = scene_weighted;
        edges = λ u w hu hw n. rw (e, d) (beside_solid theirs (omega arith) (omega arith) (omega arith) (apart u hu) (apart w hw));
        outward = λ u hu. rw (e, d) (beside_solid theirs (omega arith) (omega arith) (omega arith) (apart u hu) far);
      }

  pub sound_a : Sound (pierce_view v) (solid_a v)
  sound_a = sound_of placed_a placed_b refl refl (λ i h w. omega arith)

  pub sound_b : Sound (pierce_view v) (solid_b v)
  sound_b = sound_of placed_b placed_a refl refl (λ i h w. omega arith)

  pub sound : (k : ℕ) → Sound (pierce_view v) (solid v k)
  sound = either_solid v (Sound (pierce_view v)) sound_a sound_b

-- ---- the arrays hold what the scene denotes, so that what is found in them is so of it

pub record Decoded (s : List ℕ) (n : ℕ) (rows : List ℤ) (corners : List ℕ) : Type 0 where
  pub are_points_law : n ≡ points (view_of s)
  pub are_rows : row_in rows ≡ (view_of s).row
  pub are_faces : face_in corners ≡ (view_of s).face

pub decoded : (s : List ℕ) {n : ℕ} (rows : List ℤ) (corners : List ℕ) → n ≡ points (view_of s) → row_in rows ≡ (view_of s).row →
    face_in corners ≡ (view_of s).face → Decoded s n rows corners
decoded s rows corners e r f = record { are_points_law = e; are_rows = r; are_faces = f }

module _ {s : List ℕ} {n : ℕ} {rows : List ℤ} {corners : List ℕ} (d : Decoded s n rows corners) where
  pub seen_is : view_in n rows corners ≡ pierce_view (view_of s)
  seen_is = λ i. record { points = d.are_points_law i; row = d.are_rows i; face = d.are_faces i }

  module _ {o : Solid} (k : ℕ) (is-o : o ≡ solid (view_of s) k) where
    pub found : {A : Type 0} (f : PierceView → Solid → A) {r : A} → r ≡ f (view_in n rows corners) o → r ≡ f (pierce_view (view_of s))
        (solid (view_of s) k)
    found f p = p ∙ ap₂ f seen_is is-o

    pub mask_found : (u w : ℕ) {r : ℕ} → r ≡ mask_against n (row_in rows) (face_in corners) u w o.face0 o.faces →
        r ≡ mask_in (view_of s) u w k
    unfolding mask_in
    mask_found u w p = p ∙ ap₂ (λ (x : PierceView) (o : Solid). mask_against x.points x.row x.face u w o.face0 o.faces)
        seen_is is-o

module _ (s : List ℕ) {rows : ℕ → Row} (are_rows : rows ≡ (view_of s).row) where
  pub sign_found : (a b c d : ℕ) {t : Terms} {p : Bool} → t ≡ terms_at rows a b c d → p ≡ positive_at rows a b c d →
      ◌≡◌ {A = Signed} (Ok (t, p)) (Ok (terms_at (view_of s).row a b c d, positive_at (view_of s).row a b c d))
  sign_found a b c d e h =
      ap₂ (λ (t : Terms) (p : Bool). Ok (t, p)) (e ∙ ap (λ (r : ℕ → Row). terms_at r a b c d) are_rows)
      (h ∙ ap (λ (r : ℕ → Row). positive_at r a b c d) are_rows)

  pub pierces_found : (u w k : ℕ) {n : ℕ} {f : Face} {t : Bool} → n ≡ points (view_of s) → f ≡ (view_of s).face k → t ≡ pierced n rows u w f →
      t ≡ pierced (points (view_of s)) (view_of s).row u w ((view_of s).face k)
  pierces_found u w k is-n is_f p = p ∙ rw (is-n, are_rows, is_f)

pub mask_said : {w m n : ℕ} → w ≡ m → n ≡ ones w → faces_are w n ≡ faces_are m (ones m)
mask_said e h = ap₂ faces_are e (h ∙ ap ones e)

pub enclosed_found : (v : View) (i : ℕ) {n k w : ℕ} {t : Bool} → n ≡ points v → k ≡ other_solid v i → w ≡ mask_in v i n k → t ≡ is_odd w →
    t ≡ is_enclosed v i
unfolding is_enclosed
enclosed_found v i is-n is-k e p = p ∙ ap is_odd e ∙ ap₂ (λ (n k : ℕ). is_odd (mask_in v i n k)) is-n is-k

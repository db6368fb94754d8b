-- The rules and the grounds of a refusal, of the scene of tables held in their fields, are those of the tables themselves. Assumes nothing.
use Rattle.std.specs.Prelude.{ℕ, zero, suc, ◌≤◌, ◌<◌, ◌≡◌, refl, ◌↔◌, length, Ok, Err}
use Rattle.std.proofs.Math.Path.{sym, ap₂}
use Rattle.std.proofs.Common.{ap, ◌∙◌, subst, arith}
use mathlib.Core.Logic.Iff
use mathlib.Core.List.{List, ◌++◌, map}
use Rattle.std.proofs.Math.ListN.{get_or}
use Rattle.std.proofs.lemmas.List.{length-map}
use Rattle.laws.specs.Lists.{Each, Some, run_each}
use Rattle.scene.specs.Limits.{limits, least_weight}
use Rattle.scene.specs.Records.{verts_a, verts_b, faces_in_a, faces_in_b, face_record}
use Rattle.scene.specs.Tables.{Tables, size, no_face, row_at, face_at, tables_of}
use Rattle.scene.specs.Faces.{Corner, FaceOf, Sides, EdgeOk}
use Rattle.scene.specs.declared.Face.{Face}
use Rattle.scene.specs.declared.Refusal.{Refusal}
use Rattle.scene.specs.declared.Refusal.TheVariants as refusal
use Rattle.judge.specs.Judge.{judged}
use Rattle.rules.specs.Rules.{Between, CountsOk, HeaderOk, MarkOk, CoordinatesIn, CoordinatesOk, WeightIn, WeightOk, Zeros}
use Rattle.rules.specs.Rules.{SomewhereOk, CornersOk, RecordOk, RecordsOk, Used, SidesOk}
use Rattle.rules.specs.TableRules.{TablesOk}
use Rattle.rules.specs.Grounds.{AtRecord, AtVertex, AtFace, Grounds}
use Rattle.rules.specs.Write.{bytes_of}
use Rattle.rules.proofs.Bridge.{limits_fit}
use Rattle.rules.proofs.Given.{tables_ok}
use Rattle.rules.proofs.Refused.{refused}
use Rattle.rules.proofs.Files.{file_accepted}
use Rattle.off_solids.specs.Fitted.{fitted_row, fitted_face, fitted}
use Rattle.theorem_off.specs.Denoted.{verts_in, faces_in, point_in, face_in, CountsIn, CoordinatesKept, WeightKept}
use Rattle.theorem_off.specs.Denoted.{SomewhereKept, CornersKept, RecordKept, UsedIn, SidesIn, ToRecord, AllKept, ToVertex, ToFace}
use Rattle.theorem_off.specs.Denoted.{GroundsIn}
use Rattle.theorem_off.specs.Capped.{coordinates_iff, weight_iff, zeros_iff, face_iff, faces_held, tables_kept, tables_held}
use Rattle.theorem_off.specs.Reading.{tables_read, marked, point_at, face_at_law, point_fitted, face_fitted}

-- the scene of the tables t
abbrev pub file_of : Tables → List ℕ
file_of t = bytes_of (fitted t)

-- ---- its counts, points and faces

module _ (t : Tables) where
  pub va : verts_a (file_of t) ≡ size t.a
  va = length-map t.a.rows fitted_row

  pub vb : verts_b (file_of t) ≡ size t.b
  vb = length-map t.b.rows fitted_row

  pub fa : faces_in_a (file_of t) ≡ length t.a.faces
  fa = length-map t.a.faces fitted_face

  pub fb : faces_in_b (file_of t) ≡ length t.b.faces
  fb = length-map t.b.faces fitted_face

  point : (j : ℕ) → j ≤ verts_in t → row_at (file_of t) j ≡ fitted_row (point_in t j)
  point j h = sym (point_at (file_of t) j (omega (arith, va, vb))) ∙ ap (λ (u : Tables). point_in u j) (tables_read t) ∙ point_fitted t j

  face : (i : ℕ) → i < faces_in t → face_at (file_of t) i ≡ fitted_face (face_in t i)
  face i h = sym (face_at_law (file_of t) i (omega (arith, fa, fb))) ∙ ap (λ (u : Tables). face_in u i) (tables_read t) ∙ face_fitted t i

least_low : (j : ℕ) → least_weight j ≤ 1
least_low zero = omega arith
least_low (suc j) = omega arith

-- ---- one record

module _ (t : Tables) (c : CountsIn limits t) (k : ℕ) where
  abbrev s : List ℕ
  s = file_of t

  coordinates_same : CoordinatesOk limits s k ↔ CoordinatesKept limits t k
  coordinates_same = (
    λ h j b e.
        (coordinates_iff (point_in t j)).0 (subst (CoordinatesIn limits) (point t j b) (h j (omega (arith, va t, vb t)) e)),
    λ h j b e.
        let d : j ≤ verts_in t = omega (arith, va t, vb t) in
        subst (CoordinatesIn limits) (sym (point t j d)) ((coordinates_iff (point_in t j)).1 (h j d e)),
  )

  weight_same : WeightOk limits s k ↔ WeightKept limits t k
  weight_same = (
    λ h j b e.
        (weight_iff (point_in t j) (least_weight j) (least_low j)).0
        (subst (WeightIn (least_weight j) limits) (point t j b) (h j (omega (arith, va t, vb t)) e)),
    λ h j b e.
        let d : j ≤ verts_in t = omega (arith, va t, vb t) in
        subst (WeightIn (least_weight j) limits) (sym (point t j d)) ((weight_iff (point_in t j) (least_weight j) (least_low j)).1 (h j d e)),
  )

  far : row_at s 0 ≡ fitted_row t.far
  far = ap (λ (u : Tables). u.far) (tables_read t)

  somewhere_same : SomewhereOk s k ↔ SomewhereKept t k
  somewhere_same = (
    λ h e z. h e (subst Zeros (sym far) ((zeros_iff t.far).1 z)),
    λ h e z. h e ((zeros_iff t.far).0 (subst Zeros far z)),
  )

  -- a face of a solid with v vertices, which the file counts as w
  corners_iff : (v w i : ℕ) → v ≤ limits.most_vertices → w ≡ v → i < faces_in t → FaceOf 0 w (face_at s i) ↔ FaceOf 0 v (face_in t i)
  corners_iff v w i few e b = (
    λ h. (face_iff v few (face_in t i)).0 (subst (λ (n : ℕ). FaceOf 0 n (fitted_face (face_in t i))) e (subst (FaceOf 0 w) (face t i b) h)),
    λ h.
        subst (FaceOf 0 w) (sym (face t i b))
        (subst (λ (n : ℕ). FaceOf 0 n (fitted_face (face_in t i))) (sym e) ((face_iff v few (face_in t i)).1 h)),
  )

  abbrev of_a : (i : ℕ) → i < faces_in t → FaceOf 0 (verts_a s) (face_at s i) ↔ FaceOf 0 (size t.a) (face_in t i)
  of_a i = corners_iff (size t.a) (verts_a s) i c.vertices_a_law.1 (va t)

  abbrev of_b : (i : ℕ) → i < faces_in t → FaceOf 0 (verts_b s) (face_at s i) ↔ FaceOf 0 (size t.b) (face_in t i)
  of_b i = corners_iff (size t.b) (verts_b s) i c.vertices_b_law.1 (vb t)

  corners_same : CornersOk s k ↔ CornersKept t k
  corners_same =
      let a = fa t in
      let b = fb t in
      let x = va t in
      let y = vb t in (
        λ h.
            record {
              of_a = λ i l e. (of_a i (omega arith)).0 (h.of_a i (omega arith) (omega arith));
              of_b = λ i g l e. (of_b i l).0 (h.of_b i (omega arith) (omega arith) (omega arith));
            },
        λ h.
            record {
              of_a = λ i l e. (of_a i (omega arith)).1 (h.of_a i (omega arith) (omega arith));
              of_b = λ i g l e. (of_b i (omega arith)).1 (h.of_b i (omega arith) (omega arith) (omega arith));
            },
      )

  mark_kept : MarkOk s k
  mark_kept =
      let m = marked (fitted t) in
      record { far = λ e. m.far; vertex = λ j a b e. m.vertex j a b; face = λ i b e. m.face i b; end = λ e. m.end }

  record_same : RecordOk limits s k ↔ RecordKept limits t k
  record_same = (
    λ h.
        record {
          coordinates = coordinates_same.0 h.coordinates;
          weight = weight_same.0 h.weight;
          somewhere = somewhere_same.0 h.somewhere;
          corners = corners_same.0 h.corners;
        },
    λ h.
        record {
          mark = mark_kept;
          coordinates = coordinates_same.1 h.coordinates;
          weight = weight_same.1 h.weight;
          somewhere = somewhere_same.1 h.somewhere;
          corners = corners_same.1 h.corners;
        },
  )

-- ---- where every record keeps its rules, the faces are as they were

module _ (t : Tables) (c : CountsIn limits t) where
  counts_ok_law : CountsOk limits (file_of t)
  counts_ok_law =
      let l = limits in
      record {
        vertices_a_law = subst (Between l.least_vertices l.most_vertices) (sym (va t)) c.vertices_a_law;
        faces_a_law = subst (Between l.least_faces l.most_faces) (sym (fa t)) c.faces_a_law;
        vertices_b_law = subst (Between l.least_vertices l.most_vertices) (sym (vb t)) c.vertices_b_law;
        faces_b_law = subst (Between l.least_faces l.most_faces) (sym (fb t)) c.faces_b_law;
      }

  header : HeaderOk limits (file_of t)
  header =
      let m = marked (fitted t) in
      record { opens = (omega (arith, m.long), m.opening); counts = counts_ok_law; long = m.long }

  records_same : RecordsOk limits (file_of t) ↔ AllKept limits t
  records_same =
      let a = fa t in
      let b = fb t in
      let x = va t in
      let y = vb t in (
        λ h k l u. (record_same t c k).0 (h k l (omega arith)),
        λ h k l u. (record_same t c k).1 (h k l (omega arith)),
      )

  module _ (ok : RecordsOk limits (file_of t)) where
    faces_a_law : (tables_of (file_of t)).a.faces ≡ t.a.faces
    faces_a_law =
        let s = file_of t in
        let each = run_each (FaceOf 0 (verts_a s)) (face_at s) 0 (faces_in_a s)
        (λ i l u. (ok (face_record s i) (omega arith) (omega arith)).corners.of_a i (omega arith) refl) in
        let e = ap (λ (u : Tables). u.a.faces) (tables_read t) in
        e ∙ faces_held (size t.a) c.vertices_a_law.1 t.a.faces
        (subst (λ (v : ℕ). Each (FaceOf 0 v) (map fitted_face t.a.faces)) (va t) (subst (Each (FaceOf 0 (verts_a s))) e each))

    faces_b_law : (tables_of (file_of t)).b.faces ≡ t.b.faces
    faces_b_law =
        let s = file_of t in
        let each = run_each (FaceOf 0 (verts_b s)) (face_at s) (faces_in_a s) (faces_in_b s)
        (λ i l u. (ok (face_record s i) (omega arith) (omega arith)).corners.of_b i l u refl) in
        let e = ap (λ (u : Tables). u.b.faces) (tables_read t) in
        e ∙ faces_held (size t.b) c.vertices_b_law.1 t.b.faces
        (subst (λ (v : ℕ). Each (FaceOf 0 v) (map fitted_face t.b.faces)) (vb t) (subst (Each (FaceOf 0 (verts_b s))) e each))

    face_kept : (i : ℕ) → i < faces_in t → face_at (file_of t) i ≡ face_in t i
    unfolding face_in
    face_kept i h =
        sym (face_at_law (file_of t) i (omega (arith, fa t, fb t)))
        ∙ ap₂ (λ (x y : List Face). get_or (x ++ y) i no_face) faces_a_law faces_b_law

    used_same : (p : ℕ) → Used (file_of t) p ↔ UsedIn t p
    used_same p =
        let x = va t in (
          λ h.
              record {
                of_a = λ l. subst (Some (Corner p)) faces_a_law (h.of_a (omega arith));
                of_b = λ v l e. subst (Some (Corner v)) faces_b_law (h.of_b v l (omega arith));
              },
          λ h.
              record {
                of_a = λ l. subst (Some (Corner p)) (sym faces_a_law) (h.of_a (omega arith));
                of_b = λ v l e. subst (Some (Corner v)) (sym faces_b_law) (h.of_b v l (omega arith));
              },
        )

    sides_in : {x y : List Face} {f g : Face} → x ≡ y → f ≡ g → Sides (EdgeOk x) f → Sides (EdgeOk y) g
    sides_in {x} {g} p q h = subst (λ (l : List Face). Sides (EdgeOk l) g) p (subst (Sides (EdgeOk x)) q h)

    sides_same : (i : ℕ) → i < faces_in t → SidesOk (file_of t) i ↔ SidesIn t i
    sides_same i b =
        let x = fa t in (
          λ h.
              record {
                of_a = λ l. sides_in faces_a_law (face_kept i b) (h.of_a (omega arith));
                of_b = λ l. sides_in faces_b_law (face_kept i b) (h.of_b (omega arith));
              },
          λ h.
              record {
                of_a = λ l. sides_in (sym faces_a_law) (sym (face_kept i b)) (h.of_a (omega arith));
                of_b = λ l. sides_in (sym faces_b_law) (sym (face_kept i b)) (h.of_b (omega arith));
              },
        )

  -- ---- the order of checking

  to_record : (k : ℕ) → AtRecord limits (file_of t) k ↔ ToRecord limits t k
  to_record k =
      let a = fa t in
      let b = fb t in
      let x = va t in
      let y = vb t in (
        λ h.
            record {
              counts = c;
              from = h.from;
              to = omega (arith, h.to);
              earlier = λ j l u. (record_same t c j).0 (h.earlier j l u);
            },
        λ h.
            record {
              header = header;
              from = h.from;
              to = omega (arith, h.to);
              earlier = λ j l u. (record_same t c j).1 (h.earlier j l u);
            },
      )

  to_vertex : (p : ℕ) → AtVertex limits (file_of t) p ↔ ToVertex limits t p
  to_vertex p =
      let x = va t in
      let y = vb t in (
        λ h.
            record {
              counts = c;
              records = records_same.0 h.records;
              from = h.from;
              to = omega (arith, h.to);
              earlier = λ q l u. (used_same h.records q).0 (h.earlier q l u);
            },
        λ h.
            let ok = records_same.1 h.records in
            record {
              header = header;
              records = ok;
              from = h.from;
              to = omega (arith, h.to);
              earlier = λ q l u. (used_same ok q).1 (h.earlier q l u);
            },
      )

  to_face : (i : ℕ) → AtFace limits (file_of t) i ↔ ToFace limits t i
  to_face i =
      let a = fa t in
      let b = fb t in
      let x = va t in
      let y = vb t in (
        λ h.
            let to : i < faces_in t = omega (arith, h.to) in
            record {
              counts = c;
              records = records_same.0 h.records;
              used = λ p l u. (used_same h.records p).0 (h.used p l (omega arith));
              to = to;
              earlier = λ j l. (sides_same h.records j (omega arith)).0 (h.earlier j l);
            },
        λ h.
            let ok = records_same.1 h.records in
            let to : i < faces_in t = h.to in
            record {
              header = header;
              records = ok;
              used = λ p l u. (used_same ok p).1 (h.used p l (omega arith));
              to = omega arith;
              earlier = λ j l. (sides_same ok j (omega arith)).1 (h.earlier j l);
            },
      )

  -- ---- the table

  grounds_same : (q : Refusal) → Grounds limits (file_of t) q ↔ GroundsIn limits t q
  grounds_same refusal.Opening = (λ h. h header.opens, absurd)
  grounds_same refusal.Counts = (λ h. absurd (h.1 counts_ok_law), λ h. absurd (h c))
  grounds_same refusal.Length = (λ h. h.1.1 header.long, absurd)
  grounds_same (refusal.Mark k) = (λ h. h.1 (mark_kept t c k), absurd)
  grounds_same (refusal.Coordinate k) =
      let to = to_record k in
      let x = coordinates_same t c k in (
        λ h. (to.0 h.0, λ u. h.1.1 (x.1 u)),
        λ h. (to.1 h.0, (mark_kept t c k, λ u. h.1 (x.0 u))),
      )
  grounds_same (refusal.Weight k) =
      let to = to_record k in
      let x = coordinates_same t c k in
      let w = weight_same t c k in (
        λ h. (to.0 h.0, (x.0 h.1.1.0, λ u. h.1.1.1 (w.1 u))),
        λ h. (to.1 h.0, (mark_kept t c k, (x.1 h.1.0, λ u. h.1.1 (w.0 u)))),
      )
  grounds_same (refusal.FarAllZero k) =
      let to = to_record k in
      let x = coordinates_same t c k in
      let w = weight_same t c k in
      let z = somewhere_same t c k in (
        λ h. (to.0 h.0, (x.0 h.1.1.0, (w.0 h.1.1.1.0, λ u. h.1.1.1.1 (z.1 u)))),
        λ h. (to.1 h.0, (mark_kept t c k, (x.1 h.1.0, (w.1 h.1.1.0, λ u. h.1.1.1 (z.0 u))))),
      )
  grounds_same (refusal.Corner k) =
      let to = to_record k in
      let x = coordinates_same t c k in
      let w = weight_same t c k in
      let z = somewhere_same t c k in
      let o = corners_same t c k in (
        λ h. (to.0 h.0, (x.0 h.1.1.0, (w.0 h.1.1.1.0, (z.0 h.1.1.1.1.0, λ u. h.1.1.1.1.1 (o.1 u))))),
        λ h. (
          to.1 h.0,
          (mark_kept t c k, (x.1 h.1.0, (w.1 h.1.1.0, (z.1 h.1.1.1.0, λ u. h.1.1.1.1 (o.0 u))))),
        ),
      )
  grounds_same (refusal.Unused p) = (
    λ h. ((to_vertex p).0 h.0, λ u. h.1 ((used_same h.0.records p).1 u)),
    λ h. ((to_vertex p).1 h.0, λ u. h.1 ((used_same (records_same.1 h.0.records) p).0 u)),
  )
  grounds_same (refusal.Edge k) =
      let x = va t in
      let y = vb t in (
        λ h. let f = (to_face h.0).0 h.2 in
            (h.0, h.1 ∙ omega arith, f, λ u. h.3 ((sides_same h.2.records h.0 f.to).1 u)),
        λ h. (
          h.0,
          h.1 ∙ omega arith,
          (to_face h.0).1 h.2,
          λ u. h.3 ((sides_same (records_same.1 h.2.records) h.0 h.2.to).0 u),
        ),
      )
  grounds_same (refusal.ListTooShort p) = (absurd, absurd)
  grounds_same refusal.NoSuchNumber = (absurd, absurd)
  grounds_same refusal.NotDistinct = (absurd, absurd)
  grounds_same (refusal.BufferTooShort p) = (absurd, absurd)

  pub judged_refused : (q : Refusal) → (judged (file_of t) ≡ Err q) ↔ GroundsIn limits t q
  judged_refused q = Iff.trans (refused limits (file_of t) q) (grounds_same q)

-- ---- accepted exactly where the tables keep the rules

pub judged_accepted : (t : Tables) → (judged (file_of t) ≡ Ok tt) ↔ TablesOk limits t
judged_accepted t = (
  λ ok.
      let h = subst (TablesOk limits) (tables_read t) (tables_ok limits (file_of t) ok) in
      subst (TablesOk limits) (tables_held t h) h,
  λ h. subst (λ (u : Tables). judged (bytes_of u) ≡ Ok tt) (sym (tables_kept t h)) (file_accepted limits_fit t h),
)

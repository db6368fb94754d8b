-- The parts of the scene of two texts, as they are written one after another. Assumes nothing.
use Rattle.std.specs.Prelude.{ℕ, zero, suc, ◌+◌, ◌*◌, ◌≤◌, ◌≡◌, refl, length, take}
use Rattle.std.proofs.Math.Path.{sym, ap}
use Rattle.std.proofs.Common.{◌∙◌, arith, mul-le-mul, length-append}
use mathlib.Core.List.{List, [], ◌∷◌, ◌++◌, map, flat_map, append_assoc}
use Rattle.laws.specs.Lists.{run, length_run}
use Rattle.scene.specs.Limits.{limits}
use Rattle.scene.specs.Records.{marksc, markfp, markvx, marken}
use Rattle.scene.specs.Tables.{Tables}
use Rattle.scene.specs.declared.Row.{Row}
use Rattle.scene.specs.declared.Face.{Face}
use Rattle.off_items.specs.Items.{after}
use Rattle.off_items.specs.Numbers.{largest, at_most}
use Rattle.off_items.specs.Laws.{at_most_low}
use Rattle.off_form.specs.Form.{numbers_of, vertices_of, faces_of}
use Rattle.off_form.specs.Head.{Headed}
use Rattle.off_form.proofs.Laws.{numbers_low}
use Rattle.off_form.specs.declared.Head.{Head}
use Rattle.rules.specs.Write.{point_bytes, face_bytes, bytes_of}
use Rattle.scene.specs.Write.{two}
use Rattle.rules.specs.Held.{length_all}
use Rattle.off_solids.specs.Solid.{past, row_from, row_of, corners_from, face_of, point_of, denoted}
use Rattle.off_solids.specs.Fitted.{fitted_row, fitted_face, fitted, scene_of}
use Rattle.off_solids.specs.Grown.{Grown, grown_join, grown_as, grown_none, grown_more}
use Rattle.off_solids.specs.ReadOf.{past_after, row_is, face_is}
use Rattle.off_solids.specs.declared.points.Point.{Point}

-- h is what the text's first four items tell, and its counts are within the scene's limits, as far as room goes
pub record Small (s : List ℕ) (h : Head) : Type 0 where
  pub per : h.per ≡ numbers_of s
  pub vertices : h.vertices ≡ vertices_of s
  pub faces : h.faces ≡ faces_of s
  pub at : h.at ≡ after s 4
  pub within : h.at ≤ length s
  pub few : h.vertices ≤ limits.most_vertices
  pub low : h.faces ≤ limits.most_faces

abbrev pub row_in : List ℕ → ℕ → Row
row_in s i = fitted_row (row_of s i)

abbrev pub face_in : List ℕ → ℕ → Face
face_in s i = fitted_face (face_of s i)

-- the first n records of a text's vertices, of its faces
abbrev pub row_bytes : List ℕ → ℕ → List ℕ
row_bytes s n = flat_map (point_bytes markvx) (run (row_in s) 0 n)

abbrev pub faces_bytes : List ℕ → ℕ → List ℕ
faces_bytes s n = flat_map face_bytes (run (face_in s) 0 n)

abbrev pub head_bytes : (va fa vb fb : ℕ) → List ℕ
head_bytes va fa vb fb = two marksc ++ va ∷ fa ∷ vb ∷ fb ∷ []

-- ---- one record a turn

module _ (s : List ℕ) (k : ℕ) where
  pub rows_none : (t : List ℕ) → Grown k (row_bytes s 0) t t
  rows_none = grown_none (point_bytes markvx) 9 (λ r. refl) (row_in s) k

  pub rows_more : (i : ℕ) {m per at : ℕ} {r : Row} {t u v : List ℕ} → Grown k (row_bytes s i) t u → m ≡ k + 9 * i → per ≡ numbers_of s →
      at ≡ after s (4 + i * per) → r ≡ fitted_row (row_from per s at) → Grown m (point_bytes markvx r) u v → Grown k (row_bytes s (i + 1)) t v
  rows_more i g e p q f h = grown_more (point_bytes markvx) 9 (λ r. refl) (row_in s) k i g e (ap (point_bytes markvx) (row_is s i p q f)) h

  pub faces_none : (t : List ℕ) → Grown k (faces_bytes s 0) t t
  faces_none = grown_none face_bytes 5 (λ f. refl) (face_in s) k

  pub faces_more : (i : ℕ) {m at : ℕ} {f : Face} {t u v : List ℕ} → Grown k (faces_bytes s i) t u → m ≡ k + 5 * i →
      at ≡ after s (4 + vertices_of s * numbers_of s + i * 4) → f ≡ fitted_face (corners_from s at) → Grown m (face_bytes f) u v →
      Grown k (faces_bytes s (i + 1)) t v
  faces_more i g e q f h = grown_more face_bytes 5 (λ f. refl) (face_in s) k i g e (ap face_bytes (face_is s i q f)) h

-- ---- counts that are small are told as they are

count_told : (n most : ℕ) {c : ℕ} → c ≡ at_most largest n → n ≤ most → most ≤ largest → c ≡ n
count_told n most e h k = e ∙ at_most_low largest n (omega arith)

pub small : (s : List ℕ) (h : Head) → Headed s h → vertices_of s ≤ limits.most_vertices → faces_of s ≤ limits.most_faces → Small s h
small s h p v f =
    let few = count_told (vertices_of s) limits.most_vertices p.vertices v (omega arith) in
    let low = count_told (faces_of s) limits.most_faces p.faces f (omega arith) in
    record {
      per = p.per;
      vertices = few;
      faces = low;
      at = p.at;
      within = p.within;
      few = omega arith;
      low = omega arith;
    }

-- the first face's item
pub few_items : (s : List ℕ) (h : Head) → Small s h → h.vertices * h.per ≤ limits.most_vertices * 4
few_items s h p = mul-le-mul p.few (numbers_low s p.per)

-- where the loops start
pub rows_first : (s : List ℕ) (n : ℕ) {m : ℕ} → m ≡ after s 4 → m ≡ after s (4 + 0 * n)
rows_first s n p = let e : 4 ≡ 4 + 0 * n = omega arith in p ∙ ap (after s) e

pub faces_first : (s : List ℕ) (h : Head) → Small s h → {m : ℕ} → m ≡ past s h.at (h.vertices * h.per) →
    m ≡ after s (4 + vertices_of s * numbers_of s + 0 * 4)
faces_first s h p e =
    let f : 4 + vertices_of s * numbers_of s ≡ 4 + vertices_of s * numbers_of s + 0 * 4 = omega arith in
    let i = p.at in
    let v = p.vertices in
    let d = p.per in
    e ∙ (λ k. past s (i k) (v k * d k)) ∙ past_after s 4 (vertices_of s * numbers_of s) ∙ ap (after s) f

-- where they end
pub rows_all : (s : List ℕ) (k : ℕ) {i n : ℕ} {t u : List ℕ} → Grown k (row_bytes s i) t u → i ≤ n → n ≤ i → n ≡ vertices_of s →
    Grown k (row_bytes s (vertices_of s)) t u
rows_all s k {i} g a b e = let f : i ≡ vertices_of s = omega arith in grown_as (ap (row_bytes s) f) g

pub faces_all : (s : List ℕ) (k : ℕ) {i n : ℕ} {t u : List ℕ} → Grown k (faces_bytes s i) t u → i ≤ n → n ≤ i → n ≡ faces_of s →
    Grown k (faces_bytes s (faces_of s)) t u
faces_all s k {i} g a b e = let f : i ≡ faces_of s = omega arith in grown_as (ap (faces_bytes s) f) g

-- ---- the whole

map_run : {A B : Type 0} (f : A → B) (g : ℕ → A) (k n : ℕ) → map f (run g k n) ≡ run (λ i. f (g i)) k n
map_run f g k zero = refl
map_run f g k (suc n) = ap (λ (l : List _). f (g k) ∷ l) (map_run f g (suc k) n)

rows_long : (s : List ℕ) (n : ℕ) → length (row_bytes s n) ≡ n * 9
rows_long s n = length_all (point_bytes markvx) 9 (λ r. refl) (run (row_in s) 0 n) ∙ ap (λ (n : ℕ). n * 9) (length_run (row_in s) 0 n)

faces_long : (s : List ℕ) (n : ℕ) → length (faces_bytes s n) ≡ n * 5
faces_long s n = length_all face_bytes 5 (λ f. refl) (run (face_in s) 0 n) ∙ ap (λ (n : ℕ). n * 5) (length_run (face_in s) 0 n)

module _ (a b : List ℕ) (far : Point) where
  -- the parts one after another
  abbrev parts_of : (va fa vb fb : ℕ) → List ℕ
  parts_of va fa vb fb =
      head_bytes va fa vb fb ++ (point_bytes markfp (fitted_row (point_of far)) ++ (row_bytes a va ++ (row_bytes b vb
      ++ (faces_bytes a fa ++ (faces_bytes b fb ++ two marken)))))

  parts_are : parts_of (vertices_of a) (faces_of a) (vertices_of b) (faces_of b) ≡ scene_of a b far
  unfolding scene_of
  parts_are =
      let va = vertices_of a in
      let fa = faces_of a in
      let vb = vertices_of b in
      let fb = faces_of b in
      let na = sym (length_run (row_in a) 0 va) in
      let nfa = sym (length_run (face_in a) 0 fa) in
      let nb = sym (length_run (row_in b) 0 vb) in
      let nfb = sym (length_run (face_in b) 0 fb) in
      let rest =
      point_bytes markfp (fitted_row (point_of far))
      ++ (row_bytes a va ++ (row_bytes b vb ++ (faces_bytes a fa ++ (faces_bytes b fb ++ two marken)))) in
      let runs : Tables =
      record {
        a = record { rows = run (row_in a) 0 va; faces = run (face_in a) 0 fa };
        b = record { rows = run (row_in b) 0 vb; faces = run (face_in b) 0 fb };
        far = fitted_row (point_of far);
      } in
      let counts : parts_of va fa vb fb ≡ bytes_of runs = λ i. head_bytes (na i) (nfa i) (nb i) (nfb i) ++ rest in
      let ra = sym (map_run fitted_row (row_of a) 0 va) in
      let qa = sym (map_run fitted_face (face_of a) 0 fa) in
      let rb = sym (map_run fitted_row (row_of b) 0 vb) in
      let qb = sym (map_run fitted_face (face_of b) 0 fb) in
      let tables : runs ≡ fitted (denoted a b far) =
      λ i. record { a = record { rows = ra i; faces = qa i }; b = record { rows = rb i; faces = qb i }; far = fitted_row (point_of far) } in
      counts ∙ ap bytes_of tables

  module _ {va fa vb fb : ℕ} (eva : va ≡ vertices_of a) (efa : fa ≡ faces_of a) (evb : vb ≡ vertices_of b) (efb : fb ≡ faces_of b) where
    parts_long : length (scene_of a b far) ≡ 15 + 9 * (va + vb) + 5 * (fa + fb) + 2
    parts_long =
        let rest = faces_bytes a (faces_of a) ++ (faces_bytes b (faces_of b) ++ two marken) in
        let e1 = length-append (row_bytes a (vertices_of a)) (row_bytes b (vertices_of b) ++ rest) in
        let e2 = length-append (row_bytes b (vertices_of b)) rest in
        let e3 = length-append (faces_bytes a (faces_of a)) (faces_bytes b (faces_of b) ++ two marken) in
        let e4 = length-append (faces_bytes b (faces_of b)) (two marken) in
        ap length (sym parts_are)
        ∙ omega (
          arith,
          e1,
          e2,
          e3,
          e4,
          rows_long a (vertices_of a),
          rows_long b (vertices_of b),
          faces_long a (faces_of a),
          faces_long b (faces_of b),
        )

-- ---- the points' records, and the faces' with the end

abbrev pub points_bytes : List ℕ → List ℕ → Point → List ℕ
points_bytes a b far =
    head_bytes (vertices_of a) (faces_of a) (vertices_of b) (faces_of b)
    ++ (point_bytes markfp (fitted_row (point_of far)) ++ (row_bytes a (vertices_of a) ++ row_bytes b (vertices_of b)))

abbrev pub all_faces : List ℕ → List ℕ → List ℕ
all_faces a b = faces_bytes a (faces_of a) ++ (faces_bytes b (faces_of b) ++ two marken)

module _ (a b : List ℕ) (h g : Head) (p : Small a h) (q : Small b g) where
  pub faces_grown : {k m d : ℕ} {s0 s1 s2 s3 : List ℕ} → Grown k (faces_bytes a (faces_of a)) s0 s1 →
      m ≡ k + 5 * h.faces → Grown m (faces_bytes b (faces_of b)) s1 s2 →
      d ≡ k + 5 * h.faces + 5 * g.faces → Grown d (two marken) s2 s3 → Grown k (all_faces a b) s0 s3
  faces_grown g1 e g2 f g3 =
      let fa = p.faces in
      let fb = q.faces in
      grown_join g1 (omega (arith, faces_long a (faces_of a))) (grown_join g2 (omega (arith, faces_long b (faces_of b))) g3)

module _ (a b : List ℕ) (far : Point) (h g : Head) (p : Small a h) (q : Small b g) where
  pub points_grown : {s0 s1 s2 s3 s4 : List ℕ} {m : ℕ} →
      Grown 0 (head_bytes h.vertices h.faces g.vertices g.faces) s0 s1 →
      Grown 6 (point_bytes markfp (fitted_row (point_of far))) s1 s2 → Grown 15 (row_bytes a (vertices_of a)) s2 s3 →
      m ≡ 15 + 9 * h.vertices → Grown m (row_bytes b (vertices_of b)) s3 s4 → Grown 0 (points_bytes a b far) s0 s4
  points_grown g1 g2 g3 e g4 =
      let va = p.vertices in
      let fa = p.faces in
      let vb = q.vertices in
      let fb = q.faces in
      grown_join (grown_as (λ i. head_bytes (va i) (fa i) (vb i) (fb i)) g1) (omega arith)
      (grown_join g2 (omega arith) (grown_join g3 (omega (arith, rows_long a (vertices_of a))) g4))

  regrouped : points_bytes a b far ++ all_faces a b ≡ scene_of a b far
  regrouped =
      append_assoc (head_bytes (vertices_of a) (faces_of a) (vertices_of b) (faces_of b))
      (point_bytes markfp (fitted_row (point_of far)) ++ (row_bytes a (vertices_of a) ++ row_bytes b (vertices_of b))) (all_faces a b)
      ∙ ap (λ (l : List ℕ). head_bytes (vertices_of a) (faces_of a) (vertices_of b) (faces_of b)
      ++ (point_bytes markfp (fitted_row (point_of far)) ++ l))
      (append_assoc (row_bytes a (vertices_of a)) (row_bytes b (vertices_of b)) (all_faces a b))
      ∙ parts_are a b far

  scene_grown : {s0 s1 s2 : List ℕ} {m : ℕ} → Grown 0 (points_bytes a b far) s0 s1 → m ≡ 15 + 9 * h.vertices + 9 * g.vertices →
      Grown m (all_faces a b) s1 s2 → Grown 0 (scene_of a b far) s0 s2
  scene_grown x e y =
      let va = p.vertices in
      let vb = q.vertices in
      let long = length-append (row_bytes a (vertices_of a)) (row_bytes b (vertices_of b)) in
      grown_as regrouped (grown_join x (omega (arith, long, rows_long a (vertices_of a), rows_long b (vertices_of b))) y)

  pub scene_length : {m : ℕ} → m ≡ 15 + 9 * h.vertices + 9 * g.vertices + 5 * h.faces + 5 * g.faces + 2 → m ≡ length (scene_of a b far)
  scene_length e = e ∙ omega (arith, parts_long a b far p.vertices p.faces q.vertices q.faces)

-- what stands before the end is the scene
scene_stands : {s t l : List ℕ} {m : ℕ} → Grown 0 l s t → m ≡ length l → take m t ≡ l
scene_stands {s} {t} {l} g e = ap (λ (n : ℕ). take n t) (e ∙ sym plus) ∙ g.front
  where
    plus : 0 + length l ≡ length l
    plus = omega arith

module _ (a b : List ℕ) (far : Point) (h g : Head) (p : Small a h) (q : Small b g) where
  pub scene_made : {s0 s1 s2 : List ℕ} {m e : ℕ} → Grown 0 (points_bytes a b far) s0 s1 → m ≡ 15 + 9 * h.vertices + 9 * g.vertices →
      Grown m (all_faces a b) s1 s2 → e ≡ 15 + 9 * h.vertices + 9 * g.vertices + 5 * h.faces + 5 * g.faces + 2 →
      take e s2 ≡ scene_of a b far
  scene_made x e y d = scene_stands (scene_grown a b far h g p q x e y) (scene_length a b far h g p q d)

-- the header's four counts
pub grown_head : {va fa vb fb : ℕ} {s t u v w x : List ℕ} → Grown 0 (two marksc) s t → Grown 2 (va ∷ []) t u → Grown 3 (fa ∷ []) u v →
    Grown 4 (vb ∷ []) v w → Grown 5 (fb ∷ []) w x → Grown 0 (head_bytes va fa vb fb) s x
grown_head g0 g1 g2 g3 g4 =
    grown_join g0 (omega arith) (grown_join g1 (omega arith) (grown_join g2 (omega arith) (grown_join g3 (omega arith) g4)))

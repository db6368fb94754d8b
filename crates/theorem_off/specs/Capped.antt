-- The scene that is made of two texts has each number as its field can hold it. Each rule of a scene holds of that number exactly where it
-- holds of the number in the text, and where the rules hold the two are one. Assumes nothing.
use Rattle.std.specs.Prelude.{ℕ, zero, suc, ◌≤◌, ◌<◌, ◌≡◌, refl, ◌↔◌, true, List, [], ◌∷◌, map, ℤ, pos, negsuc, nat_abs, length}
use Rattle.std.proofs.Common.{sym, ap, ap₂, ◌∙◌, subst, arith}
use Rattle.std.proofs.Math.Decide.{dec_lt}
use Rattle.std.proofs.lemmas.List.{length-map}
use Rattle.laws.specs.Lists.{Each, each_map}
use Rattle.scene.specs.Limits.{limits}
use Rattle.scene.specs.Tables.{Table, Tables, size}
use Rattle.scene.specs.Faces.{FaceOf}
use Rattle.scene.specs.declared.Row.{Row}
use Rattle.scene.specs.declared.Face.{Face}
use Rattle.rules.specs.Rules.{CoordinatesIn, WeightIn, Zeros}
use Rattle.rules.specs.TableRules.{RowOk, TableOk, TablesOk}
use Rattle.off_items.specs.Numbers.{made, at_most}
use Rattle.off_items.specs.Laws.{at_most_low, at_most_high}
use Rattle.off_solids.specs.Fitted.{nearest, fitted_row, fitted_face, fitted_table, fitted}
use Rattle.off_scene.specs.Exact.{row_same, face_same}

-- ---- one number: n held to at most `most`, against a limit below that

module _ (most n : ℕ) where
  held_up : (high : ℕ) → high < most → at_most most n ≤ high → n ≤ high
  held_up high l h = by (dec_lt most n)
    where
      by : Dec (most < n) → n ≤ high
      by (yes k) = absurd (omega (arith, at_most_high most n (omega arith)))
      by (no k) = omega (arith, at_most_low most n (omega arith))

  held_same : (high : ℕ) → high < most → n ≤ high → at_most most n ≡ n
  held_same high l h = at_most_low most n (omega arith)

  held_some : (least : ℕ) → least ≤ most → (least ≤ at_most most n) ↔ (least ≤ n)
  held_some least l = by (dec_lt most n)
    where
      by : Dec (most < n) → (least ≤ at_most most n) ↔ (least ≤ n)
      by (yes k) = let e = at_most_high most n (omega arith) in (λ h. omega arith, λ h. omega arith)
      by (no k) = let e = at_most_low most n (omega arith) in (λ h. omega arith, λ h. omega arith)

-- ---- the sizes of signed numbers

made_size : (n : ℕ) → nat_abs (made true n) ≡ n
made_size zero = refl
made_size (suc n) = refl

pub nearest_size : (most : ℕ) (z : ℤ) → nat_abs (nearest most z) ≡ at_most most (nat_abs z)
nearest_size most (pos n) = refl
nearest_size most (negsuc n) = made_size (at_most most (suc n))

module _ (most : ℕ) (z : ℤ) where
  size_iff : (high : ℕ) → high < most → (nat_abs (nearest most z) ≤ high) ↔ (nat_abs z ≤ high)
  size_iff high l =
      let e = nearest_size most z in (
        λ h. held_up most (nat_abs z) high l (omega arith),
        λ h. let d = held_same most (nat_abs z) high l h in omega arith,
      )

  least_iff : (least : ℕ) → least ≤ most → (least ≤ nat_abs (nearest most z)) ↔ (least ≤ nat_abs z)
  least_iff least l =
      let e = nearest_size most z in
      let h = held_some most (nat_abs z) least l in
      (λ x. h.0 (omega arith), λ x. let y = h.1 x in omega arith)

no_size : (z : ℤ) → nat_abs z ≡ 0 → z ≡ pos 0
no_size (pos n) e = ap pos e
no_size (negsuc n) e = absurd (omega arith)

zero_iff : (most : ℕ) → 1 ≤ most → (z : ℤ) → (nearest most z ≡ pos 0) ↔ (z ≡ pos 0)
zero_iff most l z = (
  λ e. no_size z (let d = ap nat_abs e in let h = least_iff most z 1 l in by_size (nat_abs z) (λ x. let y = h.1 x in omega arith)),
  λ e. ap (nearest most) e ∙ ap pos (at_most_low most 0 (omega arith)),
)
  where
    by_size : (n : ℕ) → (1 ≤ n → ⊥) → n ≡ 0
    by_size zero h = refl
    by_size (suc n) h = absurd (h (omega arith))

-- ---- a row

module _ (r : Row) where
  pub coordinates_iff : CoordinatesIn limits (fitted_row r) ↔ CoordinatesIn limits r
  coordinates_iff =
      let x = size_iff 32767 r.x limits.most_coordinate (omega arith) in
      let y = size_iff 32767 r.y limits.most_coordinate (omega arith) in
      let z = size_iff 32767 r.z limits.most_coordinate (omega arith) in (
        λ h. record { x = x.0 h.x; y = y.0 h.y; z = z.0 h.z },
        λ h. record { x = x.1 h.x; y = y.1 h.y; z = z.1 h.z },
      )

  pub weight_iff : (least : ℕ) → least ≤ 1 → WeightIn least limits (fitted_row r) ↔ WeightIn least limits r
  weight_iff least l =
      let a = least_iff 127 r.w least (omega arith) in
      let b = size_iff 127 r.w limits.most_weight (omega arith) in
      (λ h. (a.0 h.0, b.0 h.1), λ h. (a.1 h.0, b.1 h.1))

  pub zeros_iff : Zeros (fitted_row r) ↔ Zeros r
  zeros_iff =
      let x = zero_iff 32767 (omega arith) r.x in
      let y = zero_iff 32767 (omega arith) r.y in
      let z = zero_iff 32767 (omega arith) r.z in
      let w = zero_iff 127 (omega arith) r.w in (
        λ h. record { x = x.0 h.x; y = y.0 h.y; z = z.0 h.z; w = w.0 h.w },
        λ h. record { x = x.1 h.x; y = y.1 h.y; z = z.1 h.z; w = w.1 h.w },
      )

  pub row_kept : CoordinatesIn limits r → nat_abs r.w ≤ limits.most_weight → fitted_row r ≡ r
  row_kept c w = row_same r c.x c.y c.z w

-- ---- a face of a solid with v vertices: two corners that no field can hold may be held as one number, but neither is a corner then

module _ (v : ℕ) (few : v ≤ limits.most_vertices) (f : Face) where
  pub face_kept : FaceOf 0 v f → fitted_face f ≡ f
  face_kept h = face_same f (omega (arith, h.p)) (omega (arith, h.q)) (omega (arith, h.r))

  face_held : FaceOf 0 v (fitted_face f) → fitted_face f ≡ f
  face_held h =
      face_same f (up f.p h.p.1) (up f.q h.q.1) (up f.r h.r.1)
    where
      up : (n : ℕ) → at_most 255 n ≤ v → n ≤ limits.most_vertices
      up n l = held_up 255 n limits.most_vertices (omega arith) (omega arith)

  pub face_iff : FaceOf 0 v (fitted_face f) ↔ FaceOf 0 v f
  face_iff = (λ h. subst (FaceOf 0 v) (face_held h) h, λ h. subst (FaceOf 0 v) (sym (face_kept h)) h)

-- ---- tables that keep the rules are as they were

module _ {A : Type 0} (f : A → A) where
  map_kept : (xs : List A) → Each (λ x. f x ≡ x) xs → map f xs ≡ xs
  map_kept [] h = refl
  map_kept (x ∷ xs) h = ap₂ ◌∷◌ h.0 (map_kept xs h.1)

  each_kept : (P : A → Type 0) → ((x : A) → P (f x) → P x) → (xs : List A) → Each P (map f xs) → Each P xs
  each_kept P g [] h = tt
  each_kept P g (x ∷ xs) h = (g x h.0, each_kept P g xs h.1)

row_iff : (least : ℕ) → least ≤ 1 → (r : Row) → RowOk least limits (fitted_row r) → RowOk least limits r
row_iff least l r h =
    record { coordinates = (coordinates_iff r).0 h.coordinates; weight = (weight_iff r least l).0 h.weight }

faces_kept : (v : ℕ) → v ≤ limits.most_vertices → (fs : List Face) → Each (FaceOf 0 v) fs → map fitted_face fs ≡ fs
faces_kept v few fs h = map_kept fitted_face fs (each_map (face_kept v few) fs h)

pub faces_held : (v : ℕ) → v ≤ limits.most_vertices → (fs : List Face) → Each (FaceOf 0 v) (map fitted_face fs) → map fitted_face fs ≡ fs
faces_held v few fs h = faces_kept v few fs (each_kept fitted_face (FaceOf 0 v) (λ f. (face_iff v few f).0) fs h)

table_kept : (k : Table) → TableOk limits k → fitted_table k ≡ k
table_kept k h =
    let rows = map_kept fitted_row k.rows
    (each_map (λ r (o : RowOk 1 limits r). row_kept r o.coordinates o.weight.1) k.rows h.rows) in
    let faces = faces_kept (size k) h.vertices.1 k.faces h.corners in
    λ i. record { rows = rows i; faces = faces i }

pub tables_kept : (t : Tables) → TablesOk limits t → fitted t ≡ t
tables_kept t h =
    let a = table_kept t.a h.a in
    let b = table_kept t.b h.b in
    let far = row_kept t.far h.far.coordinates h.far.weight.1 in
    λ i. record { a = a i; b = b i; far = far i }

table_held : (k : Table) → TableOk limits (fitted_table k) → fitted_table k ≡ k
table_held k h =
    let v : length (map fitted_row k.rows) ≡ size k = length-map k.rows fitted_row in
    let few : size k ≤ limits.most_vertices = omega (arith, h.vertices) in
    let rows = map_kept fitted_row k.rows (each_map (λ r (o : RowOk 1 limits r). row_kept r o.coordinates o.weight.1) k.rows
    (each_kept fitted_row (RowOk 1 limits) (row_iff 1 (omega arith)) k.rows h.rows)) in
    let corners = subst (λ (n : ℕ). Each (FaceOf 0 n) (map fitted_face k.faces)) v h.corners in
    let faces = faces_held (size k) few k.faces corners in
    λ i. record { rows = rows i; faces = faces i }

pub tables_held : (t : Tables) → TablesOk limits (fitted t) → fitted t ≡ t
tables_held t h =
    let a = table_held t.a h.a in
    let b = table_held t.b h.b in
    let o = row_iff 0 (omega arith) t.far h.far in
    let far = row_kept t.far o.coordinates o.weight.1 in
    λ i. record { a = a i; b = b i; far = far i }

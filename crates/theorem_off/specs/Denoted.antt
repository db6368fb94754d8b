-- The scene of two texts is exactly the one that they denote: what `off_scene::scene_of` answers and leaves, by the tables of the numbers
-- that stand in the texts (`denoted`), however long these are. The rules and the grounds of the refusals are those of the crate `rules`,
-- asked of tables in place of a file. Assumes nothing.
use Rattle.std.specs.Prelude.{ℕ, ◌+◌, ◌*◌, ◌≤◌, ◌<◌, ◌≡◌, ◌⊎◌, ◌↔◌, List, ◌∷◌, ◌++◌, length, get_or, take, drop, Result, Ok, Err}
use Rattle.laws.specs.Lists.{Some}
use Rattle.scene.specs.Limits.{Limits, limits, least_weight}
use Rattle.scene.specs.Tables.{Tables, size, no_row, no_face, tables_of}
use Rattle.scene.specs.Faces.{Corner, FaceOf, Sides, EdgeOk}
use Rattle.scene.specs.declared.Row.{Row}
use Rattle.scene.specs.declared.Face.{Face}
use Rattle.scene.specs.declared.Refusal.{Refusal}
use Rattle.scene.specs.declared.Refusal.TheVariants as refusal
use Rattle.rules.specs.Rules.{Between, CoordinatesIn, WeightIn, Zeros}
use Rattle.rules.specs.TableRules.{TablesOk}
use Rattle.rules.specs.Write.{bytes_of}
use Rattle.off_form.specs.Form.{form_of}
use Rattle.off_solids.specs.Solid.{denoted}
use Rattle.off_solids.specs.declared.points.Point.{Point}
use Rattle.off_scene.specs.declared.Fault.{Fault}
use Rattle.off_scene.specs.declared.Fault.TheVariants.{OfScene}

-- ---- tables by the numbers of a file

abbrev pub verts_in : Tables → ℕ
verts_in t = size t.a + size t.b

abbrev pub faces_in : Tables → ℕ
faces_in t = length t.a.faces + length t.b.faces

-- the point j (0 the far point, then the vertices), and the face i (from 0)
unfoldable pub point_in : Tables → ℕ → Row
point_in t j = get_or (t.far ∷ t.a.rows ++ t.b.rows) j no_row

unfoldable pub face_in : Tables → ℕ → Face
face_in t i = get_or (t.a.faces ++ t.b.faces) i no_face

abbrev pub record_of : Tables → ℕ → ℕ
record_of t i = 2 + verts_in t + i

-- ---- the rules, each of a record by its number k

pub record CountsIn (l : Limits) (t : Tables) : Type 0 where
  pub vertices_a_law : Between l.least_vertices l.most_vertices (size t.a)
  pub faces_a_law : Between l.least_faces l.most_faces (length t.a.faces)
  pub vertices_b_law : Between l.least_vertices l.most_vertices (size t.b)
  pub faces_b_law : Between l.least_faces l.most_faces (length t.b.faces)

abbrev pub CoordinatesKept : Limits → Tables → ℕ → Type 0
CoordinatesKept l t k = (j : ℕ) → j ≤ verts_in t → k ≡ j + 1 → CoordinatesIn l (point_in t j)

abbrev pub WeightKept : Limits → Tables → ℕ → Type 0
WeightKept l t k = (j : ℕ) → j ≤ verts_in t → k ≡ j + 1 → WeightIn (least_weight j) l (point_in t j)

abbrev pub SomewhereKept : Tables → ℕ → Type 0
SomewhereKept t k = k ≡ 1 → ¬ Zeros t.far

pub record CornersKept (t : Tables) (k : ℕ) : Type 0 where
  pub of_a : (i : ℕ) → i < length t.a.faces → k ≡ record_of t i → FaceOf 0 (size t.a) (face_in t i)
  pub of_b : (i : ℕ) → length t.a.faces ≤ i → i < faces_in t → k ≡ record_of t i → FaceOf 0 (size t.b) (face_in t i)

pub record RecordKept (l : Limits) (t : Tables) (k : ℕ) : Type 0 where
  pub coordinates : CoordinatesKept l t k
  pub weight : WeightKept l t k
  pub somewhere : SomewhereKept t k
  pub corners : CornersKept t k

-- the vertex with point number p is a corner of one of its solid's faces; the sides of face i
pub record UsedIn (t : Tables) (p : ℕ) : Type 0 where
  pub of_a : p ≤ size t.a → Some (Corner p) t.a.faces
  pub of_b : (v : ℕ) → 1 ≤ v → p ≡ size t.a + v → Some (Corner v) t.b.faces

pub record SidesIn (t : Tables) (i : ℕ) : Type 0 where
  pub of_a : i < length t.a.faces → Sides (EdgeOk t.a.faces) (face_in t i)
  pub of_b : length t.a.faces ≤ i → Sides (EdgeOk t.b.faces) (face_in t i)

-- ---- the order of checking comes to a record, a vertex, a face

pub record ToRecord (l : Limits) (t : Tables) (k : ℕ) : Type 0 where
  pub counts : CountsIn l t
  pub from : 1 ≤ k
  pub to : k ≤ record_of t (faces_in t)
  pub earlier : (j : ℕ) → 1 ≤ j → j < k → RecordKept l t j

abbrev pub AllKept : Limits → Tables → Type 0
AllKept l t = (k : ℕ) → 1 ≤ k → k ≤ record_of t (faces_in t) → RecordKept l t k

pub record ToVertex (l : Limits) (t : Tables) (p : ℕ) : Type 0 where
  pub counts : CountsIn l t
  pub records : AllKept l t
  pub from : 1 ≤ p
  pub to : p ≤ verts_in t
  pub earlier : (q : ℕ) → 1 ≤ q → q < p → UsedIn t q

pub record ToFace (l : Limits) (t : Tables) (i : ℕ) : Type 0 where
  pub counts : CountsIn l t
  pub records : AllKept l t
  pub used : (p : ℕ) → 1 ≤ p → p ≤ verts_in t → UsedIn t p
  pub to : i < faces_in t
  pub earlier : (j : ℕ) → j < i → SidesIn t j

-- what gives each refusal: 2, 5 to 9 and 14; the others never
abbrev pub GroundsIn : Limits → Tables → Refusal → Type 0
GroundsIn l t refusal.Opening = ⊥
GroundsIn l t refusal.Counts = ¬ CountsIn l t
GroundsIn l t refusal.Length = ⊥
GroundsIn l t (refusal.Mark k) = ⊥
GroundsIn l t (refusal.Coordinate k) = ToRecord l t k × ¬ CoordinatesKept l t k
GroundsIn l t (refusal.Weight k) = ToRecord l t k × (CoordinatesKept l t k × ¬ WeightKept l t k)
GroundsIn l t (refusal.FarAllZero k) = ToRecord l t k × (CoordinatesKept l t k × (WeightKept l t k × ¬ SomewhereKept t k))
GroundsIn l t (refusal.Corner k) = ToRecord l t k × (CoordinatesKept l t k × (WeightKept l t k × (SomewhereKept t k × ¬ CornersKept t k)))
GroundsIn l t (refusal.Unused p) = ToVertex l t p × ¬ UsedIn t p
GroundsIn l t (refusal.Edge k) = (i : ℕ) × (k ≡ record_of t i) × ToFace l t i × ¬ SidesIn t i
GroundsIn l t (refusal.ListTooShort p) = ⊥
GroundsIn l t refusal.NoSuchNumber = ⊥
GroundsIn l t refusal.NotDistinct = ⊥
GroundsIn l t (refusal.BufferTooShort p) = ⊥

-- ---- what is answered and left

-- the length of the scene of these tables
abbrev pub long_in : Tables → ℕ
long_in t = 17 + verts_in t * 9 + faces_in t * 5

-- 13: the tables keep every rule, and the lent buffer has less room than their scene needs
pub record Lacks (t : Tables) (room : ℕ) (q : Refusal) : Type 0 where
  pub ok : TablesOk limits t
  pub short : room < long_in t
  pub is : q ≡ refusal.BufferTooShort (long_in t)

-- a scene of n bytes is made of these tables
pub record Fits (t : Tables) (room n : ℕ) : Type 0 where
  pub ok : TablesOk limits t
  pub long : n ≡ long_in t
  pub fits : n ≤ room

-- both texts have the form
pub record Formed (a b : List ℕ) : Type 0 where
  pub first : (k : ℕ) × (form_of a ≡ Ok k)
  pub second : (k : ℕ) × (form_of b ≡ Ok k)

-- out and out' are what the lent buffer held, and what it holds afterwards
pub record IsScene (a b : List ℕ) (far : Point) (out out' : List ℕ) (r : Result ℕ Fault) : Type 0 where
  -- a scene is made exactly where what the texts denote keeps the rules, and there is room for it
  pub accepted : (n : ℕ) → (r ≡ Ok n) ↔ (Formed a b × Fits (denoted a b far) (length out) n)
  -- and its bytes are those of what they denote, in front of what the buffer held there
  pub bytes : (n : ℕ) → r ≡ Ok n → take n out' ≡ bytes_of (denoted a b far)
  pub tables : (n : ℕ) → r ≡ Ok n → tables_of (take n out') ≡ denoted a b far
  pub behind : (n : ℕ) → r ≡ Ok n → drop n out' ≡ drop n out
  -- a refusal of a scene is the one that the rules give over what they denote, or else 13
  pub refused : (q : Refusal) → (r ≡ Err (OfScene q)) ↔
      (Formed a b × (GroundsIn limits (denoted a b far) q ⊎ Lacks (denoted a b far) (length out) q))
  pub kept : (f : Fault) → r ≡ Err f → out' ≡ out

-- The words of document 01 that the demands use, as facts about the numbers of a scene: its points, vertices, faces, solids and records,
-- the edges of a solid, an edge that pierces a face, and a vertex that is enclosed; and how a function's arguments are written. Assumes
-- nothing.
use Rattle.std.specs.Prelude.{◌≡◌, ◌⊎◌, true, List, ℕ, ◌+◌, ◌≤◌, ◌<◌}
use Rattle.scene.specs.Records.{verts_a, faces_in_a, verts, faces, last_record}
use Rattle.scene.specs.View.{view_of}
use Rattle.scene.specs.Tables.{tables_of, row, face}
use Rattle.scene.specs.Faces.{Corner}
use Rattle.rules.specs.Rules.{Between}
use Rattle.pierce.specs.Formula.{pierced}
use Rattle.questions.specs.Answers.{is_enclosed}

-- "Solid numbers are 1 (A) and 2 (B)"
abbrev pub SolidNumber : ℕ → Type 0
SolidNumber k = Between 1 2 k

-- two of the points are the same
abbrev pub TwoAlike : (a b c d : ℕ) → Type 0
TwoAlike a b c d = (a ≡ b) ⊎ (a ≡ c) ⊎ (a ≡ d) ⊎ (b ≡ c) ⊎ (b ≡ d) ⊎ (c ≡ d)

module _ (s : List ℕ) where
  -- "A's vertices 1 to a, B's a+1 to a+b, the far point a+b+1"
  abbrev pub VertexOfA : ℕ → Type 0
  VertexOfA i = Between 1 (verts_a s) i

  abbrev pub VertexOfB : ℕ → Type 0
  VertexOfB i = Between (verts_a s + 1) (verts s) i

  abbrev pub Vertex : ℕ → Type 0
  Vertex i = Between 1 (verts s) i

  abbrev pub far_point : ℕ
  far_point = verts s + 1

  abbrev pub Point : ℕ → Type 0
  Point i = Between 1 far_point i

  -- "Face numbers: A's first, then B's, from 1"
  abbrev pub FaceOfA : ℕ → Type 0
  FaceOfA f = Between 1 (faces_in_a s) f

  abbrev pub FaceOfB : ℕ → Type 0
  FaceOfB f = Between (faces_in_a s + 1) (faces s) f

  abbrev pub FaceNumber : ℕ → Type 0
  FaceNumber f = Between 1 (faces s) f

  -- "Records are numbered from 0"
  abbrev pub RecordNumber : ℕ → Type 0
  RecordNumber k = k ≤ last_record s

  -- i is a vertex of solid k
  abbrev pub VertexOf : (k i : ℕ) → Type 0
  VertexOf k i = ((k ≡ 1) × VertexOfA i) ⊎ ((k ≡ 2) × VertexOfB i)

  -- i is a corner of the scene's face f
  abbrev pub CornerOf : (i f : ℕ) → Type 0
  CornerOf i f = Corner i (face (tables_of s) f)

  -- "An edge is a pair of corners of one face, lower point number first"
  pub record Edge (Face : ℕ → Type 0) (u v : ℕ) : Type 0 where
    pub lower_first : u < v
    pub on : (f : ℕ) × Face f × CornerOf u f × CornerOf v f

  -- the edge from u to v pierces the face f
  abbrev pub Pierces : (u v f : ℕ) → Type 0
  Pierces u v f = pierced far_point (row (tables_of s)) u v (face (tables_of s) f) ≡ true

  -- the vertex i is enclosed by the other solid
  abbrev pub Enclosed : ℕ → Type 0
  Enclosed i = is_enclosed (view_of s) i ≡ true

  -- ---- the numbers that a question is asked with, and those that must differ and are the same (refusals 11 and 12)

  abbrev pub FourPoints : (a b c d : ℕ) → Type 0
  FourPoints a b c d = Point a × Point b × Point c × Point d

  abbrev pub EdgeAndFace : (u v f : ℕ) → Type 0
  EdgeAndFace u v f = Point u × Point v × FaceNumber f

  abbrev pub AlikeOrCorner : (u v f : ℕ) → Type 0
  AlikeOrCorner u v f = (u ≡ v) ⊎ CornerOf u f ⊎ CornerOf v f

  abbrev pub EdgeAndSolid : (u v k : ℕ) → Type 0
  EdgeAndSolid u v k = Point u × Point v × SolidNumber k

  abbrev pub AlikeOrVertex : (u v k : ℕ) → Type 0
  AlikeOrVertex u v k = (u ≡ v) ⊎ VertexOf k u ⊎ VertexOf k v

-- ---- the arguments of a function, one behind the other and `tt` behind the last, as its contract takes them

infixr 4 ◌▸◌
abbrev pub ◌▸◌ : {A B : Type 0} → A → B → A × B
x ▸ y = (x, y)

-- No second answer. For each function that another crate can call, and of the very relation that its contract names: what is asked has no
-- second answer, nor second contents of a lent place. Bytes that are shown are said by what they hold, an array is as long as its type
-- says, and the words of a mask are below 2 ^ 64 as theirs says. The tables lent to a survey are determined up to the edges that it counts.
-- `limits_agree` answers nothing. Assumes nothing.
use Rattle.std.specs.Prelude.{◌≡◌, Bool, List, ℕ, ◌*◌, ◌^◌, ◌<◌, ℤ, length, get_or, Ok, Err}
use Rattle.std.specs.Int.Count.{ones}
use Rattle.laws.specs.Unique.{Once}
use Rattle.scene.specs.Limits.{within}
use Rattle.scene.specs.Refusal.{number_of, place_of}
use Rattle.scene.specs.Bytes.{byte_at, two_at}
use Rattle.scene.specs.Records.{counts_of}
use Rattle.scene.specs.Tables.{tables_of, row, face}
use Rattle.scene.specs.View.{view_of, verts, points, faces, solid}
use Rattle.scene.specs.Arrays.{row_in, face_in}
use Rattle.scene.specs.Faces.{is_corner}
use Rattle.scene.specs.declared.Refusal.{Refusal}
use Rattle.scene.specs.declared.Scene.{Scene}
use Rattle.scene.specs.declared.Row.{Row}
use Rattle.scene.specs.declared.Face.{Face}
use Rattle.judge.specs.Judge.{judged}
use Rattle.judge.specs.Judge.{Judged}
use Rattle.record.specs.Shown.{refusal, shown}
use Rattle.orient.specs.Terms.{positive_at, terms_at}
use Rattle.orient.specs.declared.Terms.{Terms}
use Rattle.scene.specs.declared.Solid.{Solid}
use Rattle.pierce.specs.Formula.{pierced}
use Rattle.pierce_masks.specs.Faces.{value_of, is_odd, has_face, first_face}
use Rattle.pierce.specs.Against.{mask_against}
use Rattle.pierce_masks.specs.declared.Mask.{Mask}
use Rattle.pierce_plain.specs.Five.{five_signs}
use Rattle.survey.specs.declared.SolidSurvey.{SolidSurvey}
use Rattle.survey_first.specs.declared.FirstOrEnclosed.{FirstOrEnclosed}
use Rattle.questions.specs.Types.{Enclosing}
use Rattle.questions.specs.Answers.{is_point, sign_of, pierces_of, said_mask, masked_of, enclosed_of, counted_of}
use Rattle.questions.specs.Answers.{verdict_of, IsListed, IsPart, inside_of}
use Rattle.questions.specs.Answers.{verdict_in, listing_in}
use Rattle.survey_scene.specs.Facts.{IsSurvey}
use Rattle.questions.specs.Listings.{PouredIf}
use Rattle.survey_scene.specs.Surveys.{SurveyIs, FirstOrEnclosedIs}
use Rattle.questions.specs.Types.{Signed}
use Rattle.questions.specs.Types.{Answer}
use Rattle.questions.specs.Types.{Masked}
use Rattle.questions.specs.Types.{Counted}
use Rattle.questions.specs.Types.{Concluded}
use Rattle.questions.specs.declared.Verdict.{Verdict}
use Rattle.questions.specs.Types.{Listed}
use Rattle.questions.specs.Types.{Surveyed}

-- the same, among answers that are lists of one length
abbrev pub OnceOfLength : {A B : Type 0} → (A → List B → Type 0) → Type 0
OnceOfLength {A} {B} R = (a : A) (b c : List B) → length b ≡ length c → R a b → R a c → b ≡ c

-- the same, among answers whose masks have words of 64 bits
abbrev pub OnceOfWords : {A B : Type 0} → (B → Type 0) → (A → B → Type 0) → Type 0
OnceOfWords {A} {B} P R = (a : A) (b c : B) → P b → P c → R a b → R a c → b ≡ c

abbrev pub Words : Mask → Type 0
Words m = (m.low < 2 ^ 64) × (m.high < 2 ^ 64)

abbrev pub WordsSaid : Masked → Type 0
WordsSaid (Err r) = Unit {0}
WordsSaid (Ok (m, n)) = Words m

-- what a survey leaves of one solid: its part of the answer, and the table of its edges
pub record Table : Type 0 where
  pub part : SolidSurvey
  pub ends : List ℕ
  pub masks : List ℕ

-- its masks have words of 64 bits
abbrev pub WordsHeld : Table → Type 0
WordsHeld x = (i : ℕ) → get_or x.masks i 0 < 2 ^ 64

-- these are left of A and of B by a survey of the scene s
abbrev pub Left : List ℕ → (a b : Table) → Type 0
Left s a b = SurveyIs (view_of s) a.ends a.masks b.ends b.masks (record { a = a.part; b = b.part })

-- the same part, and the same places up to its edges, two to each
pub record Alike (x y : Table) : Type 0 where
  pub part : x.part ≡ y.part
  pub ends : (i : ℕ) → i < 2 * x.part.edges → get_or x.ends i 0 ≡ get_or y.ends i 0
  pub masks : (i : ℕ) → i < 2 * x.part.edges → get_or x.masks i 0 ≡ get_or y.masks i 0

pub record SceneOnce : Type 0 where
  pub number : Once (λ (r : Refusal) (n : ℕ). n ≡ number_of r)
  pub place : Once (λ (r : Refusal) (n : ℕ). n ≡ place_of r)
  pub read_byte : (i : ℕ) → Once (λ (s : List ℕ) (r : ℕ). (r ≡ byte_at s i) × (r < 256))
  pub read_two : (i : ℕ) → Once (λ (s : List ℕ) (r : ℕ). (r ≡ two_at s i) × (r < 65536))
  pub read_counts : Once (λ (s : List ℕ) (r : Scene). r ≡ counts_of s)
  pub read_vertices : Once (λ (s : List ℕ) (r : ℕ). (r ≡ verts (view_of s)) × (r < 511))
  pub read_points : Once (λ (s : List ℕ) (r : ℕ). (r ≡ points (view_of s)) × (r < 512))
  pub read_faces : Once (λ (s : List ℕ) (r : ℕ). (r ≡ faces (view_of s)) × (r < 511))
  pub read_solid : (k : ℕ) → Once (λ (s : List ℕ) (r : Solid). r ≡ solid (view_of s) k)
  pub is_within : (low high : ℕ) → Once (λ (n : ℕ) (r : Bool). r ≡ within low high n)
  pub read_row : (i : ℕ) → Once (λ (s : List ℕ) (r : Row). r ≡ row (tables_of s) i)
  pub read_corners : (k : ℕ) → Once (λ (s : List ℕ) (r : Face). r ≡ face (tables_of s) k)
  pub decode_rows : OnceOfLength (λ (s : List ℕ) (r : List ℤ). row_in r ≡ row (tables_of s))
  pub decode_faces : OnceOfLength (λ (s r : List ℕ). face_in r ≡ face (tables_of s))
  pub decode_face_in : (k : ℕ) → Once (λ (corners : List ℕ) (r : Face). r ≡ face_in corners k)

pub record JudgeOnce : Type 0 where
  pub judge : Once (λ (s : List ℕ) (r : Judged). r ≡ judged s)

pub record RecordOnce : Type 0 where
  pub record_refusal : (k : ℕ) → Once (λ (s : List ℕ) (r : Judged). r ≡ refusal s k)
  pub record_shown : (k : ℕ) → Once (λ (s r : List ℕ). r ≡ shown s k)

pub record OrientOnce : Type 0 where
  pub positive_at_law : (a b c d : ℕ) → Once (λ (rows : List ℤ) (r : Bool). r ≡ positive_at (row_in rows) a b c d)
  pub terms_at_law : (a b c d : ℕ) → Once (λ (rows : List ℤ) (r : Terms). r ≡ terms_at (row_in rows) a b c d)

pub record EdgesOnce : Type 0 where
  pub is_corner_law : (i : ℕ) → Once (λ (f : Face) (r : Bool). r ≡ is_corner i f)

-- `pierce`, `plain` and `engine`, by either engine
pub record PierceOnce : Type 0 where
  pub mask : (corners : List ℕ) (n u v first count : ℕ) →
      OnceOfWords Words (λ (rows : List ℤ) (r : Mask). value_of r ≡ mask_against n (row_in rows) (face_in corners) u v first count)
  pub pierces : (n u v : ℕ) (f : Face) → Once (λ (rows : List ℤ) (r : Bool). r ≡ pierced n (row_in rows) u v f)
  pub plain_pierces : (u v : ℕ) (f : Face) → Once (λ (rows : List ℤ) (r : Bool). r ≡ five_signs (row_in rows) u v f)
  pub ones_of : Once (λ (m : Mask) (r : ℕ). r ≡ ones (value_of m))
  pub is_odd : Once (λ (m : Mask) (r : Bool). r ≡ is_odd (value_of m))
  pub has_face_law : Once (λ (m : Mask) (r : Bool). r ≡ has_face (value_of m))
  pub first_face_law : Once (λ (m : Mask) (r : ℕ). r ≡ first_face (value_of m))

pub record KernelOnce : Type 0 where
  pub is_point_law : (i : ℕ) → Once (λ (s : List ℕ) (r : Bool). r ≡ is_point (view_of s) i)
  pub sign : (a b c d : ℕ) → Once (λ (s : List ℕ) (r : Signed). r ≡ sign_of s a b c d)
  pub pierces : (u v f : ℕ) → Once (λ (s : List ℕ) (r : Answer). r ≡ pierces_of s u v f)
  pub mask : (u v k : ℕ) → OnceOfWords WordsSaid (λ (s : List ℕ) (r : Masked). said_mask r ≡ masked_of s u v k)
  pub enclosed : (i : ℕ) → Once (λ (s : List ℕ) (r : Answer). r ≡ enclosed_of s i)
  pub count : Once (λ (s : List ℕ) (r : Counted). r ≡ counted_of s)
  pub inside : (k : ℕ) → Once (λ (s : List ℕ) (r : Enclosing). r ≡ inside_of s k)
  pub verdict_of_law : Once (λ (s : List ℕ) (r : Concluded). r ≡ verdict_of s)
  pub listing : (s : List ℕ) → Once (λ (out : List ℕ) (left : List ℕ × Listed). IsListed s out left.0 left.1)
  pub listing_part : (s : List ℕ) (from : ℕ) → Once (λ (out : List ℕ) (left : List ℕ × Listed). IsPart s from out left.0 left.1)

-- `kernel::surveys` and `kernel::facts`: what is surveyed once, and what is read off it
pub record SurveysOnce : Type 0 where
  pub survey_of : (s : List ℕ) (a b c d : Table) → WordsHeld a → WordsHeld b → WordsHeld c → WordsHeld d → Left s a b → Left s c d →
      Alike a c × Alike b d
  pub first_or_enclosed : Once (λ (s : List ℕ) (r : FirstOrEnclosed). FirstOrEnclosedIs (view_of s) r)
  pub verdict_by : Once (λ (s : List ℕ) (r : Verdict). r ≡ verdict_in (view_of s))
  pub verdict_read : Once (λ (s : List ℕ) (r : Verdict). r ≡ verdict_in (view_of s))
  pub write_read : (s : List ℕ) (from : ℕ) (all : Bool) →
      Once (λ (out : List ℕ) (left : List ℕ × ℕ). PouredIf (listing_in (view_of s)) from all out left.0 left.1)
  pub survey : (s : List ℕ) → Once (λ (out : List ℕ) (left : List ℕ × Surveyed). IsSurvey s out left.0 left.1)

pub record NoSecondAnswer : Type 0 where
  pub of_scene_law : SceneOnce
  pub of_judge : JudgeOnce
  pub of_record : RecordOnce
  pub of_orient : OrientOnce
  pub of_edges : EdgesOnce
  pub of_pierce : PierceOnce
  pub of_kernel : KernelOnce
  pub of_surveys : SurveysOnce

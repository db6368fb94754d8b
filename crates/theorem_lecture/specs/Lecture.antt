-- The theorem of the lecture, of the bytes of two accepted scenes s and t. Where s is clean and each row of t is that of s times a table
-- whose determinant is not zero, of either sign, t is clean, and every question about it but that for a sign is answered as of s. Where
-- rows of nonzero weight are multiplied by positive whole numbers, clean or not, no sign changes, and so none of these. 14 never occurs
-- for an image. Two wrong answers that are ruled out: a mask of t that is refused where that of s is answered; a list that t leaves as it
-- was where s fills it. Proved in `LectureProof` and `FourteenProof`. Assumes nothing.
use Rattle.std.specs.Prelude.{◌≡◌, ◌≢◌, ◌↔◌, ◌⊎◌, Bool, List, ◌++◌, ℕ, ◌≤◌, ℤ, pos, ◌*ℤ◌, length, drop, true, Ok, Err}
use Rattle.std.proofs.Common.{inl, inr}
use Rattle.scene.specs.Records.{verts_a, verts_b, faces_in_a, faces_in_b}
use Rattle.scene.specs.Refusal.{number_of}
use Rattle.scene.specs.View.{view_of, points}
use Rattle.scene.specs.declared.Refusal.{Refusal}
use Rattle.scene.specs.declared.Row.{Row}
use Rattle.judge.specs.Judge.{judged}
use Rattle.rules.specs.Rules.{Zeros}
use Rattle.orient.specs.Signs.{Upto}
use Rattle.questions.specs.Answers.{sign_of, pierces_of, masked_of, enclosed_of, counted_of, inside_of, verdict_of, listing_in, IsListed, IsPart}
use Rattle.questions.specs.Types.{Listed}
use Rattle.questions.specs.Types.{Signed}
use Rattle.clean.specs.Answers.{clean_of}
use Rattle.map_image.specs.declared.Map.{Map}
use Rattle.map_image.specs.Mapped.{mapped, determinant_of}
use Rattle.map_image.specs.Image.{image_bytes, IsImage, fault_number}
use Rattle.map_image.specs.declared.Fault.{Fault}

-- ---- two scenes

abbrev pub rows_of : List ℕ → ℕ → Row
rows_of s = (view_of s).row

-- the far point is the last
abbrev pub points_of : List ℕ → ℕ
points_of s = points (view_of s)

-- the same counts and the same faces
pub record SameShape (s t : List ℕ) : Type 0 where
  pub verts_a_law : verts_a t ≡ verts_a s
  pub verts_b_law : verts_b t ≡ verts_b s
  pub faces_a_law : faces_in_a t ≡ faces_in_a s
  pub faces_b_law : faces_in_b t ≡ faces_in_b s
  pub faces : (k : ℕ) → (view_of t).face k ≡ (view_of s).face k

-- "verdict, masks and listing are the same as before", and what else is asked: whatever numbers a question is asked with, it is answered
-- as before, or refused as before, with the same number and place; d' is what a lent list holds after the listing, or a part of it
pub record SameAnswers (s t : List ℕ) : Type 0 where
  pub verdict : verdict_of t ≡ verdict_of s
  pub masks : (u v k : ℕ) → masked_of t u v k ≡ masked_of s u v k
  pub listing : listing_in (view_of t) ≡ listing_in (view_of s)
  pub listed : (d d' : List ℕ) (r : Listed) → IsListed t d d' r ↔ IsListed s d d' r
  pub part : (from : ℕ) (d d' : List ℕ) (r : Listed) → IsPart t from d d' r ↔ IsPart s from d d' r
  pub pierces : (u v f : ℕ) → pierces_of t u v f ≡ pierces_of s u v f
  pub enclosed : (i : ℕ) → enclosed_of t i ≡ enclosed_of s i
  pub inside : (k : ℕ) → inside_of t k ≡ inside_of s k
  pub counted : counted_of t ≡ counted_of s

-- ---- "each row (x, y, z, w) multiplied from the right"

pub record MappedBy (m : Map) (s t : List ℕ) : Type 0 where
  pub shape : SameShape s t
  pub rows : (i : ℕ) → Upto (points_of s) i → rows_of t i ≡ mapped m (rows_of s i)

pub record SameMapped (s t : List ℕ) : Type 0 where
  pub clean : clean_of t ≡ Ok true
  pub answers : SameAnswers s t

abbrev pub Lecture : Type 0
Lecture =
    (m : Map) (s t : List ℕ) → judged s ≡ Ok tt → judged t ≡ Ok tt → MappedBy m s t → clean_of s ≡ Ok true →
    determinant_of m ≢ pos 0 → SameMapped s t

-- ---- the image that is written into a lent buffer d: an accepted scene of the same shape, and where s is clean with the same answers

pub record ImageOf (s : List ℕ) (m : Map) (d d' : List ℕ) (n : ℕ) : Type 0 where
  pub held : d' ≡ image_bytes m s ++ drop (length s) d
  pub long : n ≡ length s
  pub accepted : judged (image_bytes m s) ≡ Ok tt
  pub mapped : MappedBy m s (image_bytes m s)
  pub same : clean_of s ≡ Ok true → SameMapped s (image_bytes m s)

abbrev pub Image : Type 0
Image = (s : List ℕ) (m : Map) (d d' : List ℕ) (n : ℕ) → IsImage s m d d' (Ok n) → ImageOf s m d d' n

-- ---- "14 never occurs for an image": the far point's four numbers are not all 0; bytes with the image's rows are accepted, or refused
-- with another number; and so is what `image` answers

pub record NeverFourteen (m : Map) (s : List ℕ) : Type 0 where
  pub somewhere : ¬ Zeros (mapped m (rows_of s (points_of s)))
  pub judged_so : (t : List ℕ) → MappedBy m s t → (r : Refusal) → judged t ≡ Err r → number_of r ≢ 14
  pub refused : (d d' : List ℕ) (f : Fault) → IsImage s m d d' (Err f) → fault_number f ≢ 14

abbrev pub Fourteen : Type 0
Fourteen = (m : Map) (s : List ℕ) → judged s ≡ Ok tt → determinant_of m ≢ pos 0 → NeverFourteen m s

-- ---- "Multiplying any rows of nonzero weight by positive whole numbers": that of point i by k i

-- a row of weight w may be multiplied by k: k is positive, and 1 where the weight is 0
pub record Factor (k : ℕ) (w : ℤ) : Type 0 where
  pub positive : 1 ≤ k
  pub weightless : w ≡ pos 0 → k ≡ 1

abbrev pub times : ℕ → Row → Row
times k r = record { x = pos k *ℤ r.x; y = pos k *ℤ r.y; z = pos k *ℤ r.z; w = pos k *ℤ r.w }

abbrev pub ScaledRow : (k : ℕ) (r r' : Row) → Type 0
ScaledRow k r r' = Factor k r.w × (r' ≡ times k r)

pub record ScaledBy (k : ℕ → ℕ) (s t : List ℕ) : Type 0 where
  pub shape : SameShape s t
  pub rows : (i : ℕ) → Upto (points_of s) i → ScaledRow (k i) (rows_of s i) (rows_of t i)

-- the sign without its terms, which take the factors: a refusal, or whether it is positive
abbrev pub sign_alone : Signed → Refusal ⊎ Bool
sign_alone (Err r) = inl r
sign_alone (Ok (terms, positive)) = inr positive

pub record SameScaled (s t : List ℕ) : Type 0 where
  pub signs : (a b c d : ℕ) → sign_alone (sign_of t a b c d) ≡ sign_alone (sign_of s a b c d)
  pub answers : SameAnswers s t

abbrev pub Multiplied : Type 0
Multiplied = (k : ℕ → ℕ) (s t : List ℕ) → judged s ≡ Ok tt → judged t ≡ Ok tt → ScaledBy k s t → SameScaled s t

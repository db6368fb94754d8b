-- The points of a scene numbered in another way: point i of s is point `to i` of t, in the same solid, and the faces keep their numbers.
-- Where no tie is broken in s, as where s is clean, t has the same masks and refusals, as many enclosed vertices and pairs, the same pairs
-- with the ends' other numbers, and the same word as its verdict. Proved in `NumberedProof`. Assumes nothing.
use Rattle.std.specs.Prelude.{◌≡◌, cond, List, ℕ, ltb, Ok}
use Rattle.laws.specs.Lists.{Some}
use Rattle.scene.specs.Records.{verts_a, verts_b, faces_in_a, faces_in_b}
use Rattle.scene.specs.View.{view_of}
use Rattle.judge.specs.Judge.{judged}
use Rattle.questions.specs.Hits.{Hit}
use Rattle.questions.specs.Answers.{masked_of, enclosed_of, inside_of, counted_of, listing_in, verdict_number, verdict_of}
use Rattle.theorem_demands.specs.Words.{VertexOfA, VertexOfB, Point, FaceNumber, far_point}
use Rattle.theorem_lecture.specs.Lecture.{rows_of}
use Rattle.theorem_lecture.specs.Renumbered.{renamed}
use Rattle.theorem_lecture.specs.Exchange.{NoTies}

pub record NumberedBy (to : ℕ → ℕ) (s t : List ℕ) : Type 0 where
  pub verts_a_law : verts_a t ≡ verts_a s
  pub verts_b_law : verts_b t ≡ verts_b s
  pub faces_a_law : faces_in_a t ≡ faces_in_a s
  pub faces_b_law : faces_in_b t ≡ faces_in_b s
  pub of_a : (i : ℕ) → VertexOfA s i → VertexOfA s (to i)
  pub of_b : (i : ℕ) → VertexOfB s i → VertexOfB s (to i)
  pub far : to (far_point s) ≡ far_point s
  pub rows : (i : ℕ) → Point s i → rows_of t (to i) ≡ rows_of s i
  pub faces : (f : ℕ) → FaceNumber s f → (view_of t).face f ≡ renamed to ((view_of s).face f)

-- and back
pub record Numbered (to back : ℕ → ℕ) (s t : List ℕ) : Type 0 where
  pub there : NumberedBy to s t
  pub again : NumberedBy back t s
  pub back_to : (i : ℕ) → Point s i → back (to i) ≡ i
  pub to_back : (i : ℕ) → Point s i → to (back i) ≡ i

-- the listing has the pair
abbrev pub InListing : List ℕ → Hit → Type 0
InListing s h = Some (λ k. k ≡ h) (listing_in (view_of s))

-- a pair with the ends' other numbers, the lower first
unfoldable pub carried : (ℕ → ℕ) → Hit → Hit
carried to h =
    cond (ltb (to h.low) (to h.high))
    (record { low = to h.low; high = to h.high; face = h.face })
    (record { low = to h.high; high = to h.low; face = h.face })

pub record SameNumbered (to back : ℕ → ℕ) (s t : List ℕ) : Type 0 where
  pub masks : (u v k : ℕ) → Point s u → Point s v → masked_of t (to u) (to v) k ≡ masked_of s u v k
  pub enclosed : (i : ℕ) → Point s i → enclosed_of t (to i) ≡ enclosed_of s i
  pub pairs : (h : Hit) → InListing s h → InListing t (carried to h)
  pub pairs_back_law : (h : Hit) → InListing t h → InListing s (carried back h)
  pub inside : (k : ℕ) → inside_of t k ≡ inside_of s k
  pub counted : counted_of t ≡ counted_of s
  pub verdict : verdict_number (verdict_of t) ≡ verdict_number (verdict_of s)

abbrev pub AnyNumbers : Type 0
AnyNumbers =
    (to back : ℕ → ℕ) (s t : List ℕ) → judged s ≡ Ok tt → judged t ≡ Ok tt → Numbered to back s t → NoTies s →
    SameNumbered to back s t

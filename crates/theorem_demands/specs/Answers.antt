-- Demand 1. "Every question takes the scene's bytes, so a scene refusal (1 to 9, and 14) always comes before the question's own (10 to
-- 12)", "11 comes before 12", and "Each number carries its place and nothing else": for each question, the refusals that it can give and
-- for each of them exactly when, nothing earlier in the order being at fault. The statement is `Answers`; its proof is
-- `Answers.Proof.answers`. In numbers and places it is `Numbers`. Assumes nothing.
use Rattle.std.specs.Prelude.{◌≡◌, ◌⊎◌, ◌↔◌, List, [], ℕ, ◌*◌, ◌<◌, length, Err}
use Rattle.scene.specs.Limits.{limits}
use Rattle.scene.specs.Refusal.{number_of}
use Rattle.scene.specs.declared.Refusal.{Refusal}
use Rattle.scene.specs.declared.Refusal.TheVariants.{ListTooShort, NoSuchNumber, NotDistinct, BufferTooShort}
use Rattle.rules.specs.Rules.{Between, FileOk}
use Rattle.rules.specs.Grounds.{Grounds}
use Rattle.record.specs.Shown.{refusal, shown}
use Rattle.scene.specs.View.{view_of}
use Rattle.questions.specs.Answers.{sign_of, pierces_of, masked_of, refused, enclosed_of, counted_of, verdict_of}
use Rattle.questions.specs.Answers.{IsListed, IsPart, listing_in, inside_of}
use Rattle.questions.specs.Types.{Listed}
use Rattle.theorem_demands.specs.Words.{Vertex, RecordNumber, FourPoints, TwoAlike, EdgeAndFace, AlikeOrCorner}
use Rattle.theorem_demands.specs.Words.{EdgeAndSolid, AlikeOrVertex, SolidNumber}

abbrev pub Never : Type 0
Never = ⊥

abbrev pub Always : Type 0
Always = Unit {0}

abbrev pub NoList : ℕ → Type 0
NoList n = Never

-- the count is n, and the lent list d has fewer than 3 × n places
abbrev pub TooShort : (s d : List ℕ) → ℕ → Type 0
TooShort s d n = (n ≡ length (listing_in (view_of s))) × (length d < 3 * n)

-- the numbers of a scene's own refusals
abbrev pub OfScene : ℕ → Type 0
OfScene n = Between 1 9 n ⊎ (n ≡ 14)

-- a question with numbers that the scene has (Has) or lacks, with points that must differ and are the same (Alike) or not, and with a lent
-- list that may be too short for n pairs (Short n): 1 to 9 and 14 exactly where the scene is refused so; 13 never; and, of a scene that
-- keeps the rules, 10 where the list is too short, 11 where the scene lacks a number, and 12 where it has them all and points are the same
pub record Refusals (s : List ℕ) (Refuses : Refusal → Type 0) (Short : ℕ → Type 0) (Has Alike : Type 0) : Type 0 where
  pub scene : (r : Refusal) → OfScene (number_of r) → Refuses r ↔ Grounds limits s r
  pub room : (n : ℕ) → Refuses (ListTooShort n) ↔ (FileOk limits s × Short n)
  pub buffer : (n : ℕ) → ¬ Refuses (BufferTooShort n)
  pub lacking : Refuses NoSuchNumber ↔ (FileOk limits s × ¬ Has)
  pub same : Refuses NotDistinct ↔ (FileOk limits s × Has × Alike)

pub record Answers (s : List ℕ) : Type 0 where
  -- four points, which must differ
  pub sign : (a b c d : ℕ) →
      Refusals s (λ r. sign_of s a b c d ≡ Err r) NoList (FourPoints s a b c d) (TwoAlike a b c d)
  -- two points, which must differ, neither of them a corner of the face
  pub pierces : (u v f : ℕ) →
      Refusals s (λ r. pierces_of s u v f ≡ Err r) NoList (EdgeAndFace s u v f) (AlikeOrCorner s u v f)
  -- two points, which must differ, neither of them a vertex of the solid
  pub mask : (u v k : ℕ) →
      Refusals s (λ r. masked_of s u v k ≡ refused r) NoList (EdgeAndSolid s u v k) (AlikeOrVertex s u v k)
  -- a vertex, not the far point
  pub enclosed : (i : ℕ) → Refusals s (λ r. enclosed_of s i ≡ Err r) NoList (Vertex s i) Never
  -- a record; "Under refusals 1 to 9 and 11 the part shown has length 0", and under 14
  pub record_shown : (k : ℕ) → Refusals s (λ r. refusal s k ≡ Err r) NoList (RecordNumber s k) Never
  pub shown_none : (k : ℕ) (r : Refusal) → refusal s k ≡ Err r → shown s k ≡ []
  pub verdict : Refusals s (λ r. verdict_of s ≡ Err r) NoList Always Never
  pub counts : Refusals s (λ r. counted_of s ≡ Err r) NoList Always Never
  -- a solid
  pub inside : (k : ℕ) → Refusals s (λ r. inside_of s k ≡ Err r) NoList (SolidNumber k) Never
  -- the listing, with the lent list d, afterwards d'; a refusal leaves every lent place as it was
  pub listing : (d d' : List ℕ) (x : Listed) → IsListed s d d' x → Refusals s (λ r. x ≡ Err r) (TooShort s d) Always Never
  pub listing_kept : (d d' : List ℕ) (x : Listed) → IsListed s d d' x → (r : Refusal) → x ≡ Err r → d' ≡ d
  -- the listing from one of its pairs on, as far as there is room
  pub part : (from : ℕ) (d d' : List ℕ) (x : Listed) → IsPart s from d d' x → Refusals s (λ r. x ≡ Err r) NoList Always Never
  pub part_kept : (from : ℕ) (d d' : List ℕ) (x : Listed) → IsPart s from d d' x → (r : Refusal) → x ≡ Err r → d' ≡ d

-- What the change requests left as it was: scenes accepted before, by what the definitions were, are accepted still, with the same answers.
-- Assumes nothing.
pub mod Before
use Rattle.std.specs.Prelude.{◌≡◌, Bool, List, ℕ, ◌+◌, ◌≤◌, ◌<◌, ℤ, pos, ◌+ℤ◌, ◌-ℤ◌, ◌*ℤ◌, length, Ok, Err}
use Rattle.laws.specs.Lists.{Number}
use Rattle.scene.specs.Limits.{limits, limits_before}
use Rattle.scene.specs.Records.{faces_in_a, verts, faces, last_record}
use Rattle.scene.specs.Tables.{row_at, face_at, tables_of, row}
use Rattle.scene.specs.View.{view_of}
use Rattle.scene.specs.Faces.{Both, Sides}
use Rattle.scene.specs.declared.Face.{Face}
use Rattle.scene.specs.declared.Refusal.TheVariants.{Counts}
use Rattle.judge.specs.Judge.{judged_at, judged}
use Rattle.rules.specs.Rules.{CountsOk, HeaderOk, MarkOk, CoordinatesOk, WeightIn, CornersOk, RecordsOk, AllUsed, SidesOk}
use Rattle.laws.specs.Sign.{sign, ◌or◌}
use Rattle.orient.specs.Terms.{Numbered, Powers, powers, is_plus, positive_at, terms_at}
use Rattle.pierce.specs.Beside.{Beside}
use Rattle.pierce.specs.Formula.{pierces, pierced}
use Rattle.questions.specs.WritePairs.{part_in}
use Rattle.questions.specs.Answers.{sign_in, pierces_in, masked_in, enclosed_in, counts_in, enclosing_in, verdict_in, listing_in, listed_in, held_in}
use Rattle.questions.specs.Answers.{sign_of, pierces_of, masked_of, enclosed_of, counted_of, inside_of, verdict_of, IsListed, IsPart}
use Rattle.questions.specs.Types.{Listed}
use Rattle.theorem_demands.specs.Words.{FourPoints}
use Rattle.theorem_demands.specs.Kept.Before.{judged_before}
use Rattle.theorem_demands.specs.Witnesses.{printed}

-- ---- the answers about a scene that is accepted: those of what its bytes denote, whatever rules accepted it

module _ (s : List ℕ) where
  pub record Answers : Type 0 where
    pub sign : (a b c d : ℕ) → sign_of s a b c d ≡ sign_in (view_of s) a b c d
    pub pierces : (u v f : ℕ) → pierces_of s u v f ≡ pierces_in (view_of s) u v f
    pub mask : (u v k : ℕ) → masked_of s u v k ≡ masked_in (view_of s) u v k
    pub enclosed : (i : ℕ) → enclosed_of s i ≡ enclosed_in (view_of s) i
    pub counts : counted_of s ≡ Ok (counts_in (view_of s))
    pub inside : (k : ℕ) → inside_of s k ≡ enclosing_in (view_of s) k
    pub verdict : verdict_of s ≡ Ok (verdict_in (view_of s))
    pub listing : (d d' : List ℕ) (r : Listed) → IsListed s d d' r → (r ≡ listed_in (view_of s) d) × (d' ≡ held_in (view_of s) d)
    pub part : (from : ℕ) (d d' : List ℕ) (r : Listed) → IsPart s from d d' r →
        (r ≡ Ok (length (listing_in (view_of s)))) × (d' ≡ part_in (listing_in (view_of s)) from d)

  pub record Still : Type 0 where
    pub accepted : judged s ≡ Ok tt
    pub answers : Answers

  -- ---- before two blocks might share an edge: each side of the file's face i was an edge in exactly two faces of its solid

  pub record InTwo (i : ℕ) : Type 0 where
    pub of_a : i < faces_in_a s → Sides (λ v w. Number (Both v w) (tables_of s).a.faces 2) (face_at s i)
    pub of_b : faces_in_a s ≤ i → Sides (λ v w. Number (Both v w) (tables_of s).b.faces 2) (face_at s i)

  pub record RulesOfTwo : Type 0 where
    pub header : HeaderOk limits s
    pub records : RecordsOk limits s
    pub used : AllUsed s
    pub sides : (i : ℕ) → i < faces s → InTwo i

  -- ---- before larger models: the same rules at the limits of that time

  pub record SmallerLimits : Type 0 where
    pub judged_alike : CountsOk limits_before s → judged_at limits_before s ≡ judged s
    pub accepted_still : judged_at limits_before s ≡ Ok tt → Still
    pub refused_then : judged s ≡ Ok tt → ¬ CountsOk limits_before s → judged_at limits_before s ≡ Err Counts

  -- ---- before the far point might have weight 0: every weight was from 1 to its limit in size, and there was no 14

  pub record RecordOfWeights (k : ℕ) : Type 0 where
    pub mark : MarkOk s k
    pub coordinates : CoordinatesOk limits s k
    pub weight : (j : ℕ) → j ≤ verts s → k ≡ j + 1 → WeightIn 1 limits (row_at s j)
    pub corners : CornersOk s k

  pub record RulesOfWeights : Type 0 where
    pub header : HeaderOk limits s
    pub records : (k : ℕ) → 1 ≤ k → k ≤ last_record s → RecordOfWeights k
    pub used : AllUsed s
    pub sides : (i : ℕ) → i < faces s → SidesOk s i

  -- the factor of the shift was the weight itself
  abbrev pub by_weight : ℕ → Numbered ℤ
  by_weight i = let r = row (tables_of s) i in record { x = r.x; y = r.y; z = r.z; w = r.w; k = r.w; i = pos i }

  abbrev pub terms_by_weight : (a b c d : ℕ) → Powers ℤ
  terms_by_weight a b c d = powers (pos 0) ◌+ℤ◌ ◌-ℤ◌ ◌*ℤ◌ (by_weight a) (by_weight b) (by_weight c) (by_weight d)

  abbrev pub sign_by_weight : (a b c d : ℕ) → Bool
  sign_by_weight a b c d = let t = terms_by_weight a b c d in is_plus (sign t.e0 or (sign t.e1 or sign t.e2 or sign t.e3))

  -- the terms and the sign
  pub record SameTerms (a b c d : ℕ) : Type 0 where
    pub t0 : (terms_at (row (tables_of s)) a b c d).c0 ≡ (terms_by_weight a b c d).e0
    pub t1 : (terms_at (row (tables_of s)) a b c d).c1 ≡ (terms_by_weight a b c d).e1
    pub t2 : (terms_at (row (tables_of s)) a b c d).c2 ≡ (terms_by_weight a b c d).e2
    pub t3 : (terms_at (row (tables_of s)) a b c d).c3 ≡ (terms_by_weight a b c d).e3
    pub positive : positive_at (row (tables_of s)) a b c d ≡ sign_by_weight a b c d

  -- and piercing, of an edge and a face of five different points: by it all that is asked of edges, faces and vertices is told (`Exact`)
  pub record AllWeighted : Type 0 where
    pub still : Still
    pub terms : (a b c d : ℕ) → FourPoints s a b c d → SameTerms a b c d
    pub pierces : (u v : ℕ) (f : Face) → Beside (verts s + 1) u v f →
        pierced (verts s + 1) (row (tables_of s)) u v f ≡ pierces (verts s + 1) sign_by_weight u v f

abbrev pub SharedEdges : Type 0
SharedEdges = (s : List ℕ) → RulesOfTwo s → Still s

abbrev pub LargerModels : Type 0
LargerModels = (s : List ℕ) → SmallerLimits s

abbrev pub FarAtInfinity : Type 0
FarAtInfinity = (s : List ℕ) → RulesOfWeights s → AllWeighted s

-- ---- before all of them: what the judge of document 01 accepted, its printed scene among it

pub record FirstKernel : Type 0 where
  pub kept : (s : List ℕ) → judged_before s ≡ Ok tt → AllWeighted s
  pub printed_scene : judged_before printed ≡ Ok tt

-- The demands speak of the code (`Promised`), of the functions too that survey a scene once and read answers off its tables: what each
-- one's own contract says, in the demands' words. Arguments are written as in `Promised`. The statement is `Surveys`, at the end; its
-- proof is `Surveys.Proof.surveys`. Assumes nothing.
use Rattle.std.specs.Prelude.{◌≡◌, ◌↔◌, Bool, true, cond, ◌&&◌, List, [], ◌∷◌, ℕ, ◌+◌, ◌/◌, ◌^◌, ◌<◌, ltb, length, Ok}
use Rattle.std.specs.declared.option.Option.TheVariants as option
use Rattle.laws.specs.Lists.{Some}
use Rattle.laws.specs.Mask.{test_bit}
use Rattle.laws.specs.Rising.{Less, Rising}
use Rattle.scene.specs.Records.{verts_a, verts_b}
use Rattle.scene.specs.View.{view_of, solid}
use Rattle.judge.specs.Judge.{judged}
use Rattle.questions.specs.Hits.{Hit}
use Rattle.questions.specs.First.{first_of}
use Rattle.questions.specs.WritePairs.{part_in}
use Rattle.survey_edges.specs.Table.{Entry, entries_in}
use Rattle.survey.specs.Survey.{pairs_of}
use Rattle.survey.specs.declared.Survey.{Survey}
use Rattle.survey_first.specs.declared.FirstOrEnclosed.{FirstOrEnclosed}
use Rattle.questions.specs.Answers.{mask_in, verdict_of, listing_in}
use Rattle.survey_scene.proofs.survey_of.Reads as survey_of
use Rattle.survey_scene.proofs.first_or_enclosed.Reads as first_or_enclosed
use Rattle.survey_scene.proofs.verdict_by.Reads as verdict_by
use Rattle.survey_scene.proofs.verdict_read.Reads as verdict_read
use Rattle.survey_scene.proofs.write_read.Reads as write_read
use Rattle.theorem_demands.specs.Words.{FaceOfA, FaceOfB, Edge, Enclosed, ◌▸◌}

-- ---- what a survey leaves

-- the word w of the n vertices above low has a bit for each, set exactly when the other solid encloses it
pub record IsWord (s : List ℕ) (low n w : ℕ) : Type 0 where
  pub small : w < 2 ^ n
  pub bits : (j : ℕ) → j < n → (test_bit w j ≡ true) ↔ Enclosed s (low + 1 + j)

-- the words of A's and of B's enclosed vertices
abbrev pub AreWords : List ℕ → (a b : ℕ) → Type 0
AreWords s a b = IsWord s 0 (verts_a s) a × IsWord s (verts_a s) (verts_b s) b

-- a table of edges: those of the solid with the faces Own, each once, rising, with its mask against solid k
abbrev pub Earlier : Entry → Entry → Type 0
Earlier x y = Less (x.low ∷ x.high ∷ []) (y.low ∷ y.high ∷ [])

pub record EdgesAre (s : List ℕ) (Own : ℕ → Type 0) (k : ℕ) (l : List Entry) : Type 0 where
  pub rising : Rising Earlier l
  pub members : (e : Entry) → Some (λ x. x ≡ e) l ↔ (Edge s Own e.low e.high × (e.mask ≡ mask_in (view_of s) e.low e.high k))

-- the words of enclosed vertices; the edges of each solid with their masks against the other; and the pairs of both, which are the listing
pub record TablesAre (s ends-a masks-a ends-b masks-b : List ℕ) (t : Survey) : Type 0 where
  pub inside : AreWords s t.a.inside t.b.inside
  pub of_a : EdgesAre s (FaceOfA s) 2 (entries_in ends-a masks-a t.a.edges)
  pub of_b : EdgesAre s (FaceOfB s) 1 (entries_in ends-b masks-b t.b.edges)
  pub pairs : pairs_of t (solid (view_of s) 1).other0 (solid (view_of s) 2).other0 ends-a masks-a ends-b masks-b ≡ listing_in (view_of s)

-- the first pair; where there is none the words, and where there is one 0
pub record FirstOrWords (s : List ℕ) (t : FirstOrEnclosed) : Type 0 where
  pub first : t.first ≡ first_of (listing_in (view_of s))
  pub none : t.first ≡ option.None → AreWords s t.a t.b
  pub some : (u v f : ℕ) → t.first ≡ option.Some (u, v, f) → (t.a ≡ 0) × (t.b ≡ 0)

-- the part of the hits l from the one numbered `from` on; where all are asked for and have no room, what the list held
pub record PartPoured (l : List Hit) (from : ℕ) (all : Bool) (d d' : List ℕ) (r : ℕ) : Type 0 where
  pub count : r ≡ length l
  pub held : d' ≡ cond (all && ltb (length d / 3) (length l)) d (part_in l from d)

-- ---- each function; the tables are lent to `survey_of`, and the list out to `pour_read`

pub record Surveys : Type 2 where
  pub survey_of_is : (E L C a A b B c D κs engine s aends amasks bends bmasks r engine' s' aends' amasks' bends' bmasks' : _) →
      survey_of.Post E L C a A b B c D κs (engine ▸ s ▸ aends ▸ amasks ▸ bends ▸ bmasks ▸ tt) r
      (engine' ▸ s' ▸ aends' ▸ amasks' ▸ bends' ▸ bmasks' ▸ tt) → judged s.now ≡ Ok tt →
      TablesAre s.now aends'.now amasks'.now bends'.now bmasks'.now r
  pub first_or_enclosed_is : (E L C a A b B c D κs engine s r e : _) → first_or_enclosed.Post E L C a A b B c D κs (engine ▸ s ▸ tt) r e →
      FirstOrWords s.now r
  -- of an accepted scene, the question's verdict
  pub verdict_by_is : (κs s t r e : _) → verdict_by.Post κs (s ▸ t ▸ tt) r e → judged s.now ≡ Ok tt → Ok r ≡ verdict_of s.now
  pub verdict_read_is : (κs t s aends amasks bends bmasks r e : _) →
      verdict_read.Post κs (t ▸ s ▸ aends ▸ amasks ▸ bends ▸ bmasks ▸ tt) r e → judged s.now ≡ Ok tt → Ok r ≡ verdict_of s.now
  pub write_read_is : (κs t s aends amasks bends bmasks from all out r t' s' aends' amasks' bends' bmasks' from' all' out' : _) →
      write_read.Post κs (t ▸ s ▸ aends ▸ amasks ▸ bends ▸ bmasks ▸ from ▸ all ▸ out ▸ tt) r
      (t' ▸ s' ▸ aends' ▸ amasks' ▸ bends' ▸ bmasks' ▸ from' ▸ all' ▸ out' ▸ tt) →
      PartPoured (listing_in (view_of s.now)) from all out.now out'.now r

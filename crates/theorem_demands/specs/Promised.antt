-- The demands speak of the code. For each public function of the judge, of a record shown and of the questions: what its contract states,
-- of the very relation between arguments, answer and lent places that the function is proved to meet, is the definition that `Answers`,
-- `Exact`, `Parity` and `Once` are about. A contract that says less does not give it. The arguments are in the function's own order and by
-- its own names, those with ' as they are at the exit; κs are its lifetimes, r is the answer, and e stands for all arguments at the exit.
-- E is the type of the engine, any that is one, with what is known of it (as in `Engines.OneAnswer`).
-- The statement is `Contracts`, at the end; its proof is `Promised.Proof.contracts`. Assumes nothing.
use Rattle.std.specs.Prelude.{◌≡◌, true, List, ◌↔◌, ℕ, Ok, Err}
use Rattle.scene.specs.declared.Refusal.{Refusal}
use Rattle.judge.specs.Judge.{judged}
use Rattle.judge.proofs.judge.Reads as judge
use Rattle.record.specs.Shown.{refusal, shown}
use Rattle.record.proofs.record.Reads as record_shown
use Rattle.record.proofs.record_refusal.Reads as record_refusal
use Rattle.questions.specs.Answers.{sign_of, pierces_of, said_mask, masked_of, enclosed_of, counted_of, inside_of, verdict_of, IsListed, IsPart}
use Rattle.questions.specs.declared.Facts.{Facts}
use Rattle.questions.specs.Types.{Listed}
use Rattle.kernel.proofs.points.is_point.Reads as is_point_law
use Rattle.kernel.proofs.points.sign.Reads as sign
use Rattle.kernel.proofs.points.pierces.Reads as pierces
use Rattle.kernel.proofs.masks.mask.Reads as mask
use Rattle.kernel.proofs.masks.enclosed.Reads as enclosed
use Rattle.kernel.proofs.counts.count.Reads as count
use Rattle.kernel.proofs.inside.inside.Reads as inside
use Rattle.kernel.proofs.verdict.verdict_of.Reads as verdict
use Rattle.kernel.proofs.lists.listing.Reads as listing
use Rattle.kernel.proofs.lists.listing_part.Reads as listing_part
use Rattle.kernel.proofs.facts.survey.Reads as survey
use Rattle.theorem_demands.specs.Words.{Point, ◌▸◌}
use Rattle.theorem_demands.specs.Said.{Said}
use Rattle.theorem_demands.specs.Surveys.{AreWords}

-- everything at once, of an accepted scene: what each question alone answers and leaves
pub record AtOnce (s d d' : List ℕ) (f : Facts) : Type 0 where
  pub verdict : Ok f.verdict ≡ verdict_of s
  pub counts : Ok f.counts ≡ counted_of s
  pub inside : AreWords s f.a_inside f.b_inside
  pub listed : (l : Listed) × IsListed s d d' l

pub record Contracts : Type 2 where
  pub judge_is : (κs s r e : _) → judge.Post κs (s ▸ tt) r e → r ≡ judged s.now
  pub record_refusal_is : (κs s k r e : _) → record_refusal.Post κs (s ▸ k ▸ tt) r e → r ≡ refusal s.now k
  pub record_is : (κs s k r e : _) → record_shown.Post κs (s ▸ k ▸ tt) r e → r.now ≡ shown s.now k
  pub is_point_is : (κs s i r e : _) → is_point_law.Post κs (s ▸ i ▸ tt) r e → (r ≡ true) ↔ Point s.now i
  pub sign_is : (κs s a b c d r e : _) → sign.Post κs (s ▸ a ▸ b ▸ c ▸ d ▸ tt) r e → r ≡ sign_of s.now a b c d
  -- nothing depends on the engine
  pub pierces_is : (E L C b B c D κs engine s u v f r e : _) → pierces.Post E L C b B c D κs (engine ▸ s ▸ u ▸ v ▸ f ▸ tt) r e →
      r ≡ pierces_of s.now u v f
  pub mask_is : (E L C b B c D κs engine s u v k r e : _) → mask.Post E L C b B c D κs (engine ▸ s ▸ u ▸ v ▸ k ▸ tt) r e →
      said_mask r ≡ masked_of s.now u v k
  pub enclosed_is : (E L C b B c D κs engine s i r e : _) → enclosed.Post E L C b B c D κs (engine ▸ s ▸ i ▸ tt) r e →
      r ≡ enclosed_of s.now i
  pub count_is : (E L C a A b B c D κs engine s r e : _) → count.Post E L C a A b B c D κs (engine ▸ s ▸ tt) r e → r ≡ counted_of s.now
  pub inside_is : (E L C a A b B c D κs engine s k r e : _) → inside.Post E L C a A b B c D κs (engine ▸ s ▸ k ▸ tt) r e →
      r ≡ inside_of s.now k
  pub verdict_is : (E L C a A b B c D κs engine s r e : _) → verdict.Post E L C a A b B c D κs (engine ▸ s ▸ tt) r e → r ≡ verdict_of s.now
  -- out is the lent list
  pub listing_is : (E L C a A b B c D κs engine s out r engine' s' out' : _) →
      listing.Post E L C a A b B c D κs (engine ▸ s ▸ out ▸ tt) r (engine' ▸ s' ▸ out' ▸ tt) → IsListed s.now out.now out'.now r
  pub listing_part_is : (E L C a A b B c D κs engine s from out r engine' s' from' out' : _) →
      listing_part.Post E L C a A b B c D κs (engine ▸ s ▸ from ▸ out ▸ tt) r (engine' ▸ s' ▸ from' ▸ out' ▸ tt) →
      IsPart s.now from out.now out'.now r
  pub survey_refused : (E L C a A b B c D κs engine s out r engine' s' out' : _) →
      survey.Post E L C a A b B c D κs (engine ▸ s ▸ out ▸ tt) r (engine' ▸ s' ▸ out' ▸ tt) → (q : Refusal) → judged s.now ≡ Err q →
      (r ≡ Err q) × (out'.now ≡ out.now)
  pub survey_told : (E L C a A b B c D κs engine s out r engine' s' out' : _) →
      survey.Post E L C a A b B c D κs (engine ▸ s ▸ out ▸ tt) r (engine' ▸ s' ▸ out' ▸ tt) → judged s.now ≡ Ok tt →
      (f : Facts) × (r ≡ Ok f) × AtOnce s.now out.now out'.now f

-- each of these is an equation of answers: so what an answer says, its number and its values, is what the definition's says
abbrev pub SaysSame : Type 1
SaysSame = (A : Type 0) (says : A → Said) (r x : A) → r ≡ x → says r ≡ says x

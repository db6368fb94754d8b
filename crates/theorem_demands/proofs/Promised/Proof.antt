-- What is asked of each contract is what it says, or follows at once. Assumes nothing.
use Rattle.std.specs.Prelude.{◌≡◌, List, ℕ, Ok, Err}
use Rattle.std.proofs.Math.Path.{refl, ap}
use Rattle.std.proofs.Common.{◌∙◌}
use Rattle.scene.specs.View.{View, view_of}
use Rattle.scene.specs.declared.Refusal.{Refusal}
use Rattle.judge.specs.Judge.{judged}
use Rattle.judge.specs.Tests.{within_iff}
use Rattle.judge.specs.Judge.{Judged}
use Rattle.questions.specs.Answers.{or_refuse, is_point, verdict_in, verdict_of, counts_in, counted_of, listed_in, held_in}
use Rattle.questions.specs.Laws.{answered_so}
use Rattle.questions.specs.declared.Facts.{Facts}
use Rattle.questions.specs.Types.{Surveyed}
use Rattle.survey_scene.specs.Facts.{facts_in, IsSurvey}
use Rattle.theorem_demands.specs.Promised.{AtOnce, Contracts, SaysSame}
use Rattle.theorem_demands.proofs.Surveys.Inside.{are_words}

-- ---- everything at once

module _ (s d d' : List ℕ) {r : Surveyed} (x : IsSurvey s d d' r) where
  abbrev v : View
  v = view_of s

  refused : (q : Refusal) → judged s ≡ Err q → (r ≡ Err q) × (d' ≡ d)
  unfolding or_refuse
  refused q f = (
    x.answer ∙ ap (λ (j : Judged). or_refuse Err j (Ok (facts_in v))) f,
    x.held ∙ ap (λ (j : Judged). or_refuse (λ _. d) j (held_in v d)) f,
  )

  told : judged s ≡ Ok tt → (f : Facts) × (r ≡ Ok f) × AtOnce s d d' f
  unfolding facts_in verdict_of counted_of or_refuse
  told ok = (
    facts_in v,
    x.answer ∙ ap (λ (j : Judged). or_refuse Err j (Ok (facts_in v))) ok,
    record {
      verdict = answered_so Err (Ok (verdict_in v)) refl ok refl;
      counts = answered_so Err (Ok (counts_in v)) refl ok refl;
      inside = are_words s refl refl;
      listed = (or_refuse Err (judged s) (listed_in v d), record { answer = refl; held = x.held });
    },
  )

pub contracts : Contracts
unfolding is_point
contracts =
    record {
      judge_is = λ κs s r e x. x;
      record_refusal_is = λ κs s k r e x. x;
      record_is = λ κs s k r e x. x;
      is_point_is = λ κs s i r e x. rw x (within_iff 1 _ _);
      sign_is = λ κs s a b c d r e x. x;
      pierces_is = λ E L C b B c D κs engine s u v f r e x. x;
      mask_is = λ E L C b B c D κs engine s u v k r e x. x;
      enclosed_is = λ E L C b B c D κs engine s i r e x. x;
      count_is = λ E L C a A b B c D κs engine s r e x. x;
      inside_is = λ E L C a A b B c D κs engine s k r e x. x;
      verdict_is = λ E L C a A b B c D κs engine s r e x. x;
      listing_is = λ E L C a A b B c D κs engine s out r engine' s' out' x. x;
      listing_part_is = λ E L C a A b B c D κs engine s from out r engine' s' from' out' x. x;
      survey_refused = λ E L C a A b B c D κs engine s out r engine' s' out' x. refused s.now out.now out'.now x;
      survey_told = λ E L C a A b B c D κs engine s out r engine' s' out' x. told s.now out.now out'.now x;
    }

pub says_same : SaysSame
says_same A says r x e = ap says e

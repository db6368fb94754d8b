-- Everything that is asked of a whole scene, in one answer. Assumes nothing.
use Rattle.std.specs.Prelude.{◌≡◌, List, ℕ, Ok, Err}
use Rattle.std.proofs.Common.{sym, ◌∙◌}
use Rattle.std.proofs.Math.Path.{ap}
use Rattle.std.specs.Result.{IsErrAnd}
use Rattle.laws.specs.Exits.{exits}
use Rattle.scene.specs.View.{View, view_of, solid}
use Rattle.scene.specs.declared.Refusal.{Refusal}
use Rattle.judge.specs.Judge.{judged}
use Rattle.judge.specs.Judge.{Judged}
use Rattle.survey_enclosed.specs.Walk.{inside_word}
use Rattle.questions.specs.Answers.{or_refuse, pierce_view, verdict_in, counts_in, held_in}
use Rattle.questions.specs.declared.Facts.{Facts}
use Rattle.questions.specs.Types.{Surveyed}

unfoldable pub facts_in : View → Facts
facts_in v =
    record {
      verdict = verdict_in v;
      counts = counts_in v;
      a_inside = inside_word (pierce_view v) (solid v 1);
      b_inside = inside_word (pierce_view v) (solid v 2);
    }

-- d is what the lent list held, d' what it holds afterwards: the listing in front, or what it held where there is no room
pub record Gathered (v : View) (d d' : List ℕ) (r : Facts) : Type 0 where
  pub facts : r ≡ facts_in v
  pub held : d' ≡ held_in v d

pub record IsSurvey (s d d' : List ℕ) (r : Surveyed) : Type 0 where
  pub answer : r ≡ or_refuse Err (judged s) (Ok (facts_in (view_of s)))
  pub held : d' ≡ or_refuse (λ _. d) (judged s) (held_in (view_of s) d)

-- by the judge's answer o
module _ (s d : List ℕ) {o : Judged} (e : o ≡ judged s) where
  pub survey_refused : {r : Refusal} {x : Surveyed} → o ≡ Err r → IsErrAnd x (λ y. y ≡ r) → IsSurvey s d d x
  unfolding or_refuse
  survey_refused q h =
      record {
        answer = exits h (ap (λ (j : Judged). or_refuse Err j (Ok (facts_in (view_of s)))) (sym q ∙ e));
        held = ap (λ (j : Judged). or_refuse (λ _. d) j (held_in (view_of s) d)) (sym q ∙ e);
      }

  pub survey_told : {d₁ : List ℕ} {f : Facts} → o ≡ Ok tt → Gathered (view_of s) d d₁ f → IsSurvey s d d₁ (Ok f)
  unfolding or_refuse
  survey_told q g =
      record {
        answer = ap Ok g.facts
            ∙ ap (λ (j : Judged). or_refuse Err j (Ok (facts_in (view_of s)))) (sym q ∙ e);
        held = g.held ∙ ap (λ (j : Judged). or_refuse (λ _. d) j (held_in (view_of s) d)) (sym q ∙ e);
      }

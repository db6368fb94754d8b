-- Both engines are the test of five signs: an accepted scene's points have weights, so their signs keep the rules. Assumes nothing.
use Rattle.std.specs.Prelude.{◌≡◌, List, ℕ, ◌+◌, ◌≤◌, Ok, Err}
use Rattle.std.proofs.Common.{sym, ap, ◌∙◌, arith}
use Rattle.scene.specs.Limits.{limits}
use Rattle.scene.specs.Records.{verts}
use Rattle.scene.specs.Tables.{tables_of, row}
use Rattle.judge.specs.Judge.{judged}
use Rattle.rules.proofs.Given.{counts}
use Rattle.orient.proofs.Rules.{rules}
use Rattle.orient.specs.Signs.{Upto, Rules}
use Rattle.pierce.specs.Five.{any_helper, by_helper}
use Rattle.pierce.specs.Formula.{pierces}
use Rattle.pierce_plain.specs.Five.{five_pierce}
use Rattle.survey_scene.specs.Ready.{scene_weighted}
use Rattle.questions.specs.Answers.{or_refuse, pierces_of, masked_of, enclosed_of, counted_of, inside_of, verdict_of, listed_in, held_in}
use Rattle.scene.specs.View.{view_of}
use Rattle.theorem_demands.specs.Engines.{sign_in, SameEngines, AnyHelper, OneAnswer}

module _ (s : List ℕ) (ok : judged s ≡ Ok tt) where
  six : 6 ≤ verts s + 1
  six = let c = counts limits s ok in omega (arith, c.vertices_a_law, c.vertices_b_law)

  signs : Rules (Upto (verts s + 1)) (sign_in s)
  signs = rules (verts s + 1) (row (tables_of s)) (scene_weighted s ok)

pub same_engines : SameEngines
same_engines s ok u v f d = five_pierce (verts s + 1) (row (tables_of s)) (scene_weighted s ok) u v f (six s ok) d

pub any_helper_alike : AnyHelper
unfolding pierces
any_helper_alike s ok u v h f d =
    any_helper (verts s + 1) (sign_in s) (signs s ok) u v h f.p f.q f.r d
    ∙ sym (by_helper (verts s + 1) (sign_in s) (signs s ok) u v f h d)

-- each contract is an equation with one definition, in which no engine stands
pub one_answer : OneAnswer
one_answer =
    record {
      pierces = λ E L C b B c D E' L' C' b' B' c' D' κs λs g h s t u v f r q e d p x y. x ∙ ap (λ (z : List ℕ). pierces_of z u v f) p ∙ sym y;
      mask = λ E L C b B c D E' L' C' b' B' c' D' κs λs g h s t u v k r q e d p x y. x ∙ ap (λ (z : List ℕ). masked_of z u v k) p ∙ sym y;
      enclosed = λ E L C b B c D E' L' C' b' B' c' D' κs λs g h s t i r q e d p x y. x ∙ ap (λ (z : List ℕ). enclosed_of z i) p ∙ sym y;
      counts = λ E L C a A b B c D E' L' C' a' A' b' B' c' D' κs λs g h s t r q e d p x y. x ∙ ap counted_of p ∙ sym y;
      inside = λ E L C a A b B c D E' L' C' a' A' b' B' c' D' κs λs g h s t k r q e d p x y. x ∙ ap (λ (z : List ℕ). inside_of z k) p ∙ sym y;
      verdict = λ E L C a A b B c D E' L' C' a' A' b' B' c' D' κs λs g h s t r q e d p x y. x ∙ ap verdict_of p ∙ sym y;
      listing = λ E L C a A b B c D E' L' C' a' A' b' B' c' D' κs λs g h s t out list r q g' h' s' t' out' list' p o x y. (
        x.answer ∙ (λ i. or_refuse Err (judged (p i)) (listed_in (view_of (p i)) (o i))) ∙ sym y.answer,
        x.held ∙ (λ i. or_refuse (λ _. o i) (judged (p i)) (held_in (view_of (p i)) (o i))) ∙ sym y.held,
      );
    }

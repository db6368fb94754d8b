-- What the functions that survey a scene leave and answer, from what their contracts say. Assumes nothing.
use Rattle.std.specs.Prelude.{◌≡◌, refl, Bool, cond, List, ℕ, length, Ok, Err}
use Rattle.std.proofs.Common.{ap, ◌∙◌}
use Rattle.scene.specs.View.{view_of, solid}
use Rattle.judge.specs.Judge.{judged}
use Rattle.questions.specs.Hits.{Hit}
use Rattle.questions.specs.PairsWritten.{pairs_written_part}
use Rattle.questions.specs.Types.{Found}
use Rattle.survey_enclosed.specs.Walk.{inside_word}
use Rattle.survey.specs.Laws.{surveyed_pairs}
use Rattle.survey.specs.declared.Survey.{Survey}
use Rattle.survey_first.specs.FindFirst.{unless_pair}
use Rattle.survey_first.specs.declared.FirstOrEnclosed.{FirstOrEnclosed}
use Rattle.questions.specs.Answers.{pierce_view, verdict_in, verdict_of, listing_in}
use Rattle.questions.specs.Laws.{answered_so}
use Rattle.questions.specs.Listings.{PouredIf, lacks_room}
use Rattle.questions.specs.declared.Verdict.{Verdict}
use Rattle.survey_scene.specs.Ready.{sound}
use Rattle.survey_scene.specs.Surveys.{SurveyIs, FirstOrEnclosedIs, sought_settles}
use Rattle.theorem_demands.specs.Surveys.{TablesAre, FirstOrWords, PartPoured, Surveys}
use Rattle.theorem_demands.proofs.Surveys.Edges.{edges_of_a, edges_of_b}
use Rattle.theorem_demands.proofs.Surveys.Inside.{are_words}

tables_are : (s ends-a masks-a ends-b masks-b : List ℕ) {t : Survey} → SurveyIs (view_of s) ends-a masks-a ends-b masks-b t →
    judged s ≡ Ok tt → TablesAre s ends-a masks-a ends-b masks-b t
unfolding listing_in
tables_are s ends-a masks-a ends-b masks-b {t} x ok =
    let v = view_of s in
    record {
      inside = are_words s x.of_a.inside x.of_b.inside;
      of_a = rw x.of_a.edges (edges_of_a s ok);
      of_b = rw x.of_b.edges (edges_of_b s ok);
      pairs =
          surveyed_pairs (pierce_view v) (solid v 1) (solid v 2) t ends-a masks-a ends-b masks-b (sound s ok 1) (sound s ok 2) x.of_a
          x.of_b;
    }

first_or_words : (s : List ℕ) {t : FirstOrEnclosed} → FirstOrEnclosedIs (view_of s) t → FirstOrWords s t
first_or_words s {t} x =
    let v = view_of s in
    let word : (k : ℕ) → Found → ℕ = λ k y. unless_pair y (inside_word (pierce_view v) (solid v k)) in
    let h = sought_settles x in
    record {
      first = x.first;
      none = λ n. are_words s (h.a_inside_law n) (h.b_inside_law n);
      some = λ u v f p. (x.a_inside_law ∙ ap (word 1) p, x.b_inside_law ∙ ap (word 2) p);
    }

asked : (s : List ℕ) {r : Verdict} → r ≡ verdict_in (view_of s) → judged s ≡ Ok tt → Ok r ≡ verdict_of s
unfolding verdict_of
asked s e ok = answered_so Err (Ok (verdict_in (view_of s))) refl ok (ap Ok e)

part_poured : (l : List Hit) (from : ℕ) (all : Bool) (d d' : List ℕ) {r : ℕ} → PouredIf l from all d d' r → PartPoured l from all d d' r
unfolding lacks_room
part_poured l from all d d' x =
    record {
      count = x.count;
      held = x.held ∙ ap (cond (lacks_room all (length l) (length d)) d) (pairs_written_part l d from);
    }

pub surveys : Surveys
surveys =
    record {
      survey_of_is =
          λ E L C a A b B c D κs engine s aends amasks bends bmasks r engine' s' aends' amasks' bends' bmasks' x.
          tables_are s.now aends'.now amasks'.now bends'.now bmasks'.now x;
      first_or_enclosed_is = λ E L C a A b B c D κs engine s r e x. first_or_words s.now x;
      verdict_by_is = λ κs s t r e x. asked s.now x;
      verdict_read_is = λ κs t s aends amasks bends bmasks r e x. asked s.now x;
      write_read_is =
          λ κs t s aends amasks bends bmasks from all out r t' s' aends' amasks' bends' bmasks' from' all' out' x.
          part_poured (listing_in (view_of s.now)) from all out.now out'.now x;
    }

-- The head of a report, of what is read off a survey. Assumes nothing.
use Rattle.std.specs.Prelude.{ℕ, ◌≡◌, List, length, Ok}
use Rattle.std.specs.Int.Count.{ones}
use Rattle.scene.specs.Records.{counts_of}
use Rattle.scene.specs.View.{view_of}
use Rattle.scene.specs.declared.Scene.{Scene}
use Rattle.judge.specs.Judge.{judged}
use Rattle.print.specs.Text.{text}
use Rattle.print.specs.Put.{Put}
use Rattle.survey.specs.Survey.{pairs_of}
use Rattle.survey.specs.declared.Survey.{Survey}
use Rattle.questions.specs.Answers.{verdict_in}
use Rattle.questions.specs.declared.Verdict.{Verdict}
use Rattle.survey_scene.specs.Readings.{counts_read}
use Rattle.survey_scene.specs.Surveys.{SurveyIs}
use Rattle.print_lines.specs.Report.{head_lines, IsHead, head_told}

pub head_read : (s : List ℕ) {l m : List ℕ} {e : ℕ} → judged s ≡ Ok tt →
    {ends-a masks-a ends-b masks-b : List ℕ} {t : Survey} → SurveyIs (view_of s) ends-a masks-a ends-b masks-b t →
    {h : Scene} {v : Verdict} {n p q : ℕ} → h ≡ counts_of s → v ≡ verdict_in (view_of s) →
    ((a b : ℕ) (e f : List ℕ) → n ≡ length (pairs_of t a b e masks-a f masks-b)) → p ≡ ones t.a.inside → q ≡ ones t.b.inside →
    Put l 0 (text (head_lines h (Ok v) (record { pairs = n; a_in_b = p; b_in_a = q }))) m e → IsHead s l m (record { end = e; rows = n })
head_read s ok x is-h is-v pairs inside_a inside_b y = head_told s ok is-h is-v (counts_read s ok x inside_a inside_b pairs) y

-- An accepted scene, decoded into arrays, gives all that its survey asks for: each solid is closed and apart from the other. What is
-- surveyed is then the scene's own. Assumes nothing.
use Rattle.std.specs.Prelude.{◌≡◌, List, ℕ, ◌+◌, ℤ, Ok, None}
use Rattle.std.proofs.Common.{ap, ◌∙◌, arith}
use Rattle.std.specs.Int.Count.{ones}
use Rattle.laws.specs.Lists.{run}
use Rattle.scene.specs.Limits.{limits}
use Rattle.scene.specs.Records.{verts_a, verts}
use Rattle.scene.specs.View.{View, view_of, solid, solid_a, solid_b}
use Rattle.scene.specs.View.Laws.{either_solid}
use Rattle.scene.specs.declared.Solid.{Solid}
use Rattle.judge.specs.Judge.{judged}
use Rattle.rules.proofs.Given.{counts, each_of_a, each_of_b, edges_of_a, edges_of_b}
use Rattle.pierce.specs.Parity as parity
use Rattle.pierce.specs.Parity.{solid_by_edges}
use Rattle.questions.specs.Hits.{view_in, enclosed_count}
use Rattle.questions.specs.First.{first_of}
use Rattle.questions.specs.Types.{Found}
use Rattle.survey_enclosed.specs.Ready.{Ready}
use Rattle.survey_enclosed.specs.Walk.{inside_word}
use Rattle.survey.specs.Survey.{Surveyed}
use Rattle.survey.specs.Inside.{inside_ones}
use Rattle.survey_first.specs.FindFirst.{IsFirstOrEnclosed, unless_pair}
use Rattle.survey_first.specs.declared.FirstOrEnclosed.{FirstOrEnclosed}
use Rattle.survey.specs.declared.SolidSurvey.{SolidSurvey}
use Rattle.survey.specs.declared.Survey.{Survey}
use Rattle.questions.specs.Answers.{pierce_view, listing_in, inside_in}
use Rattle.survey_scene.specs.Ready.{sound_a, sound_b, Decoded, seen_is, found}

module _ (s : List ℕ) (ok : judged s ≡ Ok tt) where
  abbrev v : View
  v = view_of s

  closed_a : parity.Solid (pierce_view v).points 0 (verts_a s) (run v.face 1 v.faces_in_a)
  closed_a = solid_by_edges _ (omega arith) (each_of_a limits s ok) (edges_of_a limits s ok)

  closed_b : parity.Solid (pierce_view v).points (verts_a s) (verts s) (run v.face (v.faces_in_a + 1) v.faces_in_b)
  closed_b = solid_by_edges _ (omega arith) (each_of_b limits s ok) (edges_of_b limits s ok)

  of_a : Ready (pierce_view v) (solid_a v)
  of_a =
      let c = counts limits s ok in
      record {
        within = record { sound = sound_a s ok; few = omega (arith, c.faces_a_law); closed = closed_a.closed };
        low = verts_a s;
        high = verts s;
        closed = closed_b;
        apart = λ u h w. omega arith;
        far = λ w. omega arith;
        before = omega arith;
      }

  of_b : Ready (pierce_view v) (solid_b v)
  of_b =
      let c = counts limits s ok in
      record {
        within = record { sound = sound_b s ok; few = omega (arith, c.faces_b_law); closed = closed_b.closed };
        low = 0;
        high = verts_a s;
        closed = closed_a;
        apart = λ u h w. omega arith;
        far = λ w. omega arith;
        before = omega arith;
      }

  surveyable : (k : ℕ) → Ready (pierce_view v) (solid v k)
  surveyable = either_solid v (Ready (pierce_view v)) of_a of_b

module _ {s : List ℕ} {n : ℕ} {rows : List ℤ} {corners : List ℕ} (d : Decoded s n rows corners) where
  pub to_survey : {o : Solid} (k : ℕ) → o ≡ solid (view_of s) k → judged s ≡ Ok tt → Ready (view_in n rows corners) o
  to_survey k e ok = rw (seen_is d, e) (surveyable s ok k)

-- ---- the tables of both solids are the scene's

pub record SurveyIs (v : View) (ends-a masks-a ends-b masks-b : List ℕ) (t : Survey) : Type 0 where
  pub of_a : Surveyed (pierce_view v) (solid v 1) ends-a masks-a t.a
  pub of_b : Surveyed (pierce_view v) (solid v 2) ends-b masks-b t.b

pub survey_is : {s : List ℕ} {n : ℕ} {rows : List ℤ} {corners : List ℕ} (d : Decoded s n rows corners) {a b : Solid} →
    a ≡ solid (view_of s) 1 → b ≡ solid (view_of s) 2 →
    {ends-a masks-a ends-b masks-b : List ℕ} {t : Survey} → Surveyed (view_in n rows corners) a ends-a masks-a t.a →
    Surveyed (view_in n rows corners) b ends-b masks-b t.b → SurveyIs (view_of s) ends-a masks-a ends-b masks-b t
survey_is d ea eb p q = record { of_a = rw (seen_is d, ea) at p; of_b = rw (seen_is d, eb) at q }

-- of one solid alone
pub inside_is : {s : List ℕ} {n : ℕ} {rows : List ℤ} {corners : List ℕ} (d : Decoded s n rows corners) {o : Solid} (k : ℕ) →
    o ≡ solid (view_of s) k →
    {ends masks : List ℕ} {p : SolidSurvey} → Surveyed (view_in n rows corners) o ends masks p → {c : ℕ} → c ≡ ones p.inside →
    c ≡ inside_in (view_of s) k
unfolding inside_in
inside_is d k e t h = found d k e enclosed_count (h ∙ inside_ones _ _ t.inside)

-- ---- what a verdict asks: the first pair of the listing, and where there is none the words of enclosed vertices

pub record FirstOrEnclosedIs (v : View) (t : FirstOrEnclosed) : Type 0 where
  pub first : t.first ≡ first_of (listing_in v)
  pub a_inside_law : t.a ≡ unless_pair t.first (inside_word (pierce_view v) (solid v 1))
  pub b_inside_law : t.b ≡ unless_pair t.first (inside_word (pierce_view v) (solid v 2))

pub sought_is : {s : List ℕ} {n : ℕ} {rows : List ℤ} {corners : List ℕ} (d : Decoded s n rows corners) {a b : Solid} →
    a ≡ solid (view_of s) 1 → b ≡ solid (view_of s) 2 →
    {t : FirstOrEnclosed} → IsFirstOrEnclosed (view_in n rows corners) a b t → FirstOrEnclosedIs (view_of s) t
unfolding listing_in
sought_is d ea eb h = let g = rw (seen_is d, ea, eb) at h in record { first = g.first; a_inside_law = g.a_inside_law; b_inside_law = g.b_inside_law }

-- what a verdict needs of it: where there is a pair the words are not read, and those of a survey will do
pub record EnoughForVerdict (v : View) (t : FirstOrEnclosed) : Type 0 where
  pub first : t.first ≡ first_of (listing_in v)
  pub a_inside_law : t.first ≡ None → t.a ≡ inside_word (pierce_view v) (solid v 1)
  pub b_inside_law : t.first ≡ None → t.b ≡ inside_word (pierce_view v) (solid v 2)

pub sought_settles : {v : View} {t : FirstOrEnclosed} → FirstOrEnclosedIs v t → EnoughForVerdict v t
sought_settles {v} h =
    let words : (k : ℕ) → Found → ℕ = λ k x. unless_pair x (inside_word (pierce_view v) (solid v k)) in
    record { first = h.first; a_inside_law = λ n. h.a_inside_law ∙ ap (words 1) n; b_inside_law = λ n. h.b_inside_law ∙ ap (words 2) n }

-- What is read off a survey is the scene's answer. Assumes nothing.
use Rattle.std.specs.Prelude.{◌≡◌, Bool, true, false, List, ℕ, ◌+◌, ◌*◌, ◌≤◌, ◌<◌, length, Ok, Some, None}
use Rattle.std.proofs.Math.Path.{ap}
use Rattle.std.proofs.Common.{◌∙◌, arith}
use Rattle.std.specs.Int.Count.{ones}
use Rattle.scene.specs.Limits.{limits}
use Rattle.scene.specs.View.{View, view_of, verts, solid}
use Rattle.scene.specs.declared.Solid.{Solid}
use Rattle.judge.specs.Judge.{judged}
use Rattle.questions.specs.Hits.{Hit, lowest_enclosed}
use Rattle.questions.specs.First.{first_of}
use Rattle.questions.specs.WritePairs.{WritesPairs}
use Rattle.questions.specs.PairsWritten.{writes_same}
use Rattle.questions.specs.Types.{Found}
use Rattle.survey.specs.Survey.{Fits, pairs_of}
use Rattle.survey.specs.Laws.{surveyed_pairs}
use Rattle.survey.specs.Inside.{lowest_of_word, inside_ones, inside_lowest}
use Rattle.survey.specs.declared.Survey.{Survey}
use Rattle.survey_first.specs.declared.FirstOrEnclosed.{FirstOrEnclosed}
use Rattle.questions.specs.Answers.{pierce_view, listing_in, inside_in, counts_in, verdict_in}
use Rattle.questions.specs.Both.{counts_are, cross_is, none_cross, a_in_b_law, b_in_a_law, all_apart}
use Rattle.survey_scene.specs.Facts.{Gathered, facts_in}
use Rattle.questions.specs.Listings.{lacks_room, PouredIf, poured_none, poured_some}
use Rattle.questions.proofs.Listings.{poured_held}
use Rattle.survey_scene.specs.Ready.{sound}
use Rattle.survey_scene.specs.Surveys.{SurveyIs, EnoughForVerdict}
use Rattle.questions.specs.declared.Counts.{Counts}
use Rattle.questions.specs.declared.Verdict.{Verdict}
use Rattle.questions.specs.declared.Verdict.TheVariants.{Cross, AInB, BInA, Apart}

pub other_fits : (s : List ℕ) → judged s ≡ Ok tt → {o : Solid} (k : ℕ) → o ≡ solid (view_of s) k → o.other0 ≤ 2 * limits.most_faces
other_fits s ok k e = rw e (let h = (sound s ok k).other.0 in omega arith)

pub fits : {v : View} {ends-a masks-a ends-b masks-b : List ℕ} {t : Survey} → SurveyIs v ends-a masks-a ends-b masks-b t → Fits t
fits x = (x.of_a.fits, x.of_b.fits)

module _ (s : List ℕ) (ok : judged s ≡ Ok tt) {ends-a masks-a ends-b masks-b : List ℕ} {t : Survey}
    (x : SurveyIs (view_of s) ends-a masks-a ends-b masks-b t) where
  abbrev v : View
  v = view_of s

  -- ---- the counts

  -- however the faces are numbered, and whatever the ends
  abbrev Pairs : ℕ → Type 0
  Pairs n = (a b : ℕ) (e f : List ℕ) → n ≡ length (pairs_of t a b e masks-a f masks-b)

  listed_so : pairs_of t (solid v 1).other0 (solid v 2).other0 ends-a masks-a ends-b masks-b ≡ listing_in v
  unfolding listing_in
  listed_so =
      surveyed_pairs (pierce_view v) (solid v 1) (solid v 2) t ends-a masks-a ends-b masks-b (sound s ok 1) (sound s ok 2) x.of_a
      x.of_b

  pairs_are : {n : ℕ} → Pairs n → n ≡ length (listing_in v)
  pairs_are h = h _ _ _ _ ∙ ap length listed_so

  module _ {p q : ℕ} (ones-a : p ≡ ones t.a.inside) (ones-b : q ≡ ones t.b.inside) where
    counts_so : {n : ℕ} → n ≡ length (listing_in v) → ◌≡◌ {A = Counts} (record { pairs = n; a_in_b = p; b_in_a = q }) (counts_in v)
    unfolding inside_in
    counts_so e =
        counts_are v e (ones-a ∙ inside_ones (pierce_view v) (solid v 1) x.of_a.inside)
        (ones-b ∙ inside_ones (pierce_view v) (solid v 2) x.of_b.inside)

    pub counts_read : {n : ℕ} → Pairs n → ◌≡◌ {A = Counts} (record { pairs = n; a_in_b = p; b_in_a = q }) (counts_in v)
    counts_read h = counts_so (pairs_are h)

    -- with the listing in the lent list d, where that has room, and the verdict r
    pub gathered : {n : ℕ} {r : Verdict} (d : List ℕ) {d₁ : List ℕ} → PouredIf (listing_in v) 0 true d d₁ n → r ≡ verdict_in v →
        Gathered v d d₁ (record {
          verdict = r;
          counts = record { pairs = n; a_in_b = p; b_in_a = q };
          a_inside = t.a.inside;
          b_inside = t.b.inside;
        })
    unfolding facts_in
    gathered d h e =
        let c = counts_so h.count in
        record {
          facts = λ i. record { verdict = e i; counts = c i; a_inside = x.of_a.inside i; b_inside = x.of_b.inside i };
          held = poured_held v d h;
        }

  -- ---- the listing and the verdict, by the solids a and b

  module _ {a b : Solid} (is-a : a ≡ solid v 1) (is_b : b ≡ solid v 2) where
    abbrev both : List Hit
    both = pairs_of t a.other0 b.other0 ends-a masks-a ends-b masks-b

    listed : both ≡ listing_in v
    listed = rw (is-a, is_b) listed_so

    pub some_read : {n : ℕ} → Pairs n → (from : ℕ) (all : Bool) (d : List ℕ) {c : Bool} → c ≡ lacks_room all n (length d) → c ≡ false →
        {d₁ : List ℕ} {r : ℕ} → WritesPairs both from 0 d d₁ r → PouredIf (listing_in v) from all d d₁ r
    some_read h from all d e f p = poured_some (listing_in v) from all d (pairs_are h) e f (writes_same listed p)

    pub sought_read : {o : Found} → o ≡ first_of both → EnoughForVerdict v (record { first = o; a = t.a.inside; b = t.b.inside })
    sought_read e = record { first = e ∙ ap first_of listed; a_inside_law = λ n. x.of_a.inside; b_inside_law = λ n. x.of_b.inside }

  pub none_read : {n : ℕ} → Pairs n → (from : ℕ) (all : Bool) (d : List ℕ) {c : Bool} → c ≡ lacks_room all n (length d) → c ≡ true →
      PouredIf (listing_in v) from all d d n
  none_read h from all d e f = poured_none (listing_in v) from all d (pairs_are h) e f

-- ---- the verdict, by the first pair and the words

module _ (s : List ℕ) (ok : judged s ≡ Ok tt) {t : FirstOrEnclosed} (h : EnoughForVerdict (view_of s) t) where
  pub cross_told : {u w f : ℕ} → t.first ≡ Some (u, w, f) → Cross u w f ≡ verdict_in (view_of s)
  cross_told = cross_is (view_of s) h.first

  module _ (none : t.first ≡ None) {a : Solid} (is-a : a ≡ solid (view_of s) 1) {p : ℕ}
      (lowest_a : p ≡ lowest_of_word t.a a.vert0 a.verts) where
    lowest_in_a : p ≡ lowest_enclosed (pierce_view (view_of s)) (solid (view_of s) 1)
    lowest_in_a =
        (rw is-a at lowest_a)
        ∙ inside_lowest (pierce_view (view_of s)) (solid (view_of s) 1) (h.a_inside_law none) (omega (arith, (sound s ok 1).vertices.0))

    verts_a_law : a.verts ≡ (view_of s).verts_a
    unfolding solid
    verts_a_law = ap (λ (o : Solid). o.verts) is-a

    pub a_in_b_told : p ≤ a.verts → AInB p ≡ verdict_in (view_of s)
    a_in_b_told l = none_cross (view_of s) h.first none (a_in_b_law (view_of s) lowest_in_a verts_a_law l)

    module _ (more : a.verts < p) {b : Solid} (is_b : b ≡ solid (view_of s) 2) {q : ℕ}
        (lowest_b : q ≡ lowest_of_word t.b b.vert0 b.verts) where
      lowest_in_b : q ≡ lowest_enclosed (pierce_view (view_of s)) (solid (view_of s) 2)
      lowest_in_b =
          (rw is_b at lowest_b)
          ∙ inside_lowest (pierce_view (view_of s)) (solid (view_of s) 2) (h.b_inside_law none) (omega (arith, (sound s ok 2).vertices.0))

      verts_b_law : b.vert0 + b.verts ≡ verts (view_of s)
      unfolding solid
      verts_b_law = ap (λ (o : Solid). o.vert0 + o.verts) is_b

      pub b_in_a_told : q ≤ b.vert0 + b.verts → BInA q ≡ verdict_in (view_of s)
      b_in_a_told l = none_cross (view_of s) h.first none (b_in_a_law (view_of s) lowest_in_a verts_a_law more lowest_in_b verts_b_law l)

      pub apart_told : b.vert0 + b.verts < q → Apart ≡ verdict_in (view_of s)
      apart_told l = none_cross (view_of s) h.first none (all_apart (view_of s) lowest_in_a verts_a_law more lowest_in_b verts_b_law l)

-- No second answer: an equation with a definition has none, a mask is its number, the arrays of a scene are read at every place, and those
-- of edges at every place up to their count. Assumes nothing.
use Rattle.std.specs.Prelude.{◌≡◌, List, ℕ, zero, suc, ◌+◌, ◌*◌, ◌/◌, ◌%◌, ◌<◌, ℤ, pos, length, get_or, Ok, Err}
use Rattle.std.proofs.Math.Path.{sym}
use Rattle.std.proofs.Common.{ap, ◌∙◌, arith, ext_get_or}
use Rattle.laws.specs.Unique.{once}
use Rattle.laws.specs.Parts.{parts_once}
use Rattle.laws.specs.Runs.{run_once}
use Rattle.scene.specs.Arrays.{row_in, face_in}
use Rattle.scene.specs.View.{View, solid}
use Rattle.scene.specs.declared.Row.{Row}
use Rattle.scene.specs.declared.Face.{Face}
use Rattle.pierce_masks.specs.Faces.{value_of}
use Rattle.pierce_masks.specs.declared.Mask.{Mask}
use Rattle.scene.specs.declared.Solid.{Solid}
use Rattle.questions.specs.Hits.{PierceView}
use Rattle.questions.specs.Types.{Found}
use Rattle.survey_edges.specs.Table.{Entry, entry_in, entries_in}
use Rattle.survey_enclosed.specs.Walk.{inside_word}
use Rattle.survey.specs.Survey.{Surveyed}
use Rattle.survey_first.specs.FindFirst.{unless_pair}
use Rattle.survey_first.specs.declared.FirstOrEnclosed.{FirstOrEnclosed}
use Rattle.questions.specs.Answers.{said_mask, pierce_view}
use Rattle.survey_scene.specs.Surveys.{FirstOrEnclosedIs}
use Rattle.questions.specs.Types.{Masked}
use Rattle.theorem_demands.specs.Once.{Words, WordsSaid, SceneOnce, JudgeOnce, RecordOnce, OrientOnce, EdgesOnce, PierceOnce}
use Rattle.theorem_demands.specs.Once.{KernelOnce}
use Rattle.theorem_demands.specs.Once.{Table, WordsHeld, Alike, SurveysOnce, NoSecondAnswer}

-- ---- a mask is its number

same_mask : (m o : Mask) → Words m → Words o → value_of m ≡ value_of o → m ≡ o
unfolding value_of
same_mask m o p q e =
    let h = parts_once 64 m.low m.high o.low o.high p.0 q.0 e in
    λ i. record { low = h.0 i; high = h.1 i }

same_said : (a b : Masked) → WordsSaid a → WordsSaid b → said_mask a ≡ said_mask b → a ≡ b
same_said (Err q) (Err r) x y e = cc
same_said (Err q) (Ok (o, n)) x y e = cc
same_said (Ok (m, k)) (Err r) x y e = cc
same_said (Ok (m, k)) (Ok (o, n)) x y e =
    let d : value_of m ≡ value_of o = cc in let f : k ≡ n = cc in let g : m ≡ o = same_mask m o x y d in cc

-- ---- the arrays of a scene

same_rows : (a b : List ℤ) → length a ≡ length b → row_in a ≡ row_in b → a ≡ b
same_rows a b l e = ext_get_or (pos 0) a b l (λ i h. at i (i / 4) (i % 4) (omega arith) (omega arith))
  where
    at : (i q m : ℕ) → i ≡ 4 * q + m → m < 4 → get_or a i (pos 0) ≡ get_or b i (pos 0)
    at i q zero h k = let j : i ≡ 4 * q = omega arith in rw j (ap (λ (f : ℕ → Row). (f q).x) e)
    at i q (suc zero) h k = rw h (ap (λ (f : ℕ → Row). (f q).y) e)
    at i q (suc (suc zero)) h k = rw h (ap (λ (f : ℕ → Row). (f q).z) e)
    at i q (suc (suc (suc zero))) h k = rw h (ap (λ (f : ℕ → Row). (f q).w) e)
    at i q (suc (suc (suc (suc m)))) h k = absurd (omega arith)

same_faces_law : (a b : List ℕ) → length a ≡ length b → face_in a ≡ face_in b → a ≡ b
same_faces_law a b l e = ext_get_or 0 a b l (λ i h. at i (i / 3) (i % 3) (omega arith) (omega arith))
  where
    at : (i q m : ℕ) → i ≡ 3 * q + m → m < 3 → get_or a i 0 ≡ get_or b i 0
    at i q zero h k = let j : i ≡ 3 * q = omega arith in rw j (ap (λ (f : ℕ → Face). (f q).p) e)
    at i q (suc zero) h k = rw h (ap (λ (f : ℕ → Face). (f q).q) e)
    at i q (suc (suc zero)) h k = rw h (ap (λ (f : ℕ → Face). (f q).r) e)
    at i q (suc (suc (suc m))) h k = absurd (omega arith)

-- ---- what is sought, and a table of edges

same_sought : (v : View) (b c : FirstOrEnclosed) → FirstOrEnclosedIs v b → FirstOrEnclosedIs v c → b ≡ c
same_sought v b c p q =
    let first : b.first ≡ c.first = p.first ∙ sym q.first in
    λ i. record {
      first = first i;
      a = (p.a_inside_law ∙ ap (word 1) first ∙ sym q.a_inside_law) i;
      b = (p.b_inside_law ∙ ap (word 2) first ∙ sym q.b_inside_law) i;
    }
  where
    word : ℕ → Found → ℕ
    word k x = unless_pair x (inside_word (pierce_view v) (solid v k))

module _ {s : PierceView} {k : Solid} (x y : Table) (in_x : WordsHeld x) (in_y : WordsHeld y)
    (p : Surveyed s k x.ends x.masks x.part) (q : Surveyed s k y.ends y.masks y.part) where
  run : (x.part.edges ≡ y.part.edges) ×
      ((j : ℕ) → j < x.part.edges → entry_in x.ends x.masks j ≡ entry_in y.ends y.masks j)
  unfolding entries_in
  run = run_once (entry_in x.ends x.masks) (entry_in y.ends y.masks) x.part.edges y.part.edges (p.edges ∙ sym q.edges)

  -- by the two places of each edge
  both : (l m : List ℕ) →
      ((j : ℕ) → j < x.part.edges → (get_or l (2 * j) 0 ≡ get_or m (2 * j) 0) × (get_or l (2 * j + 1) 0 ≡ get_or m (2 * j + 1) 0)) →
      (i : ℕ) → i < 2 * x.part.edges → get_or l i 0 ≡ get_or m i 0
  both l m h i b = at (i / 2) (i % 2) (omega arith) (omega arith)
    where
      at : (j r : ℕ) → i ≡ 2 * j + r → r < 2 → get_or l i 0 ≡ get_or m i 0
      at j zero e c = let d : i ≡ 2 * j = omega arith in rw d (h j (omega arith)).0
      at j (suc zero) e c = rw e (h j (omega arith)).1
      at j (suc (suc r)) e c = absurd (omega arith)

  alike : Alike x y
  alike =
      let mask : Entry → ℕ = λ e. e.mask in
      record {
        part = λ i. record { edges = run.0 i; inside = (p.inside ∙ sym q.inside) i };
        ends = both x.ends y.ends (λ j h. (ap (λ (e : Entry). e.low) (run.1 j h), ap (λ (e : Entry). e.high) (run.1 j h)));
        masks = both x.masks y.masks (λ j h. parts_once 64 _ _ _ _ (in_x (2 * j)) (in_y (2 * j)) (ap mask (run.1 j h)));
      }

-- ---- by crate

of_scene_law : SceneOnce
of_scene_law =
    record {
      number = once _;
      place = once _;
      read_byte = λ i s b c p q. p.0 ∙ sym q.0;
      read_two = λ i s b c p q. p.0 ∙ sym q.0;
      read_counts = once _;
      read_vertices = λ s b c p q. p.0 ∙ sym q.0;
      read_points = λ s b c p q. p.0 ∙ sym q.0;
      read_faces = λ s b c p q. p.0 ∙ sym q.0;
      read_solid = λ k. once _;
      is_within = λ low high. once _;
      read_row = λ i. once _;
      read_corners = λ k. once _;
      decode_rows = λ s b c l p q. same_rows b c l (p ∙ sym q);
      decode_faces = λ s b c l p q. same_faces_law b c l (p ∙ sym q);
      decode_face_in = λ k. once _;
    }

of_judge : JudgeOnce
of_judge = record { judge = once _ }

of_record : RecordOnce
of_record = record { record_refusal = λ k. once _; record_shown = λ k. once _ }

of_orient : OrientOnce
of_orient = record { positive_at_law = λ a b c d. once _; terms_at_law = λ a b c d. once _ }

of_edges : EdgesOnce
of_edges = record { is_corner_law = λ i. once _ }

of_pierce : PierceOnce
of_pierce =
    record {
      mask = λ corners n u v first count rows b c x y p q. same_mask b c x y (p ∙ sym q);
      pierces = λ n u v f. once _;
      plain_pierces = λ u v f. once _;
      ones_of = once _;
      is_odd = once _;
      has_face_law = once _;
      first_face_law = once _;
    }

of_kernel : KernelOnce
of_kernel =
    record {
      is_point_law = λ i. once _;
      sign = λ a b c d. once _;
      pierces = λ u v f. once _;
      mask = λ u v k s b c x y p q. same_said b c x y (p ∙ sym q);
      enclosed = λ i. once _;
      count = once _;
      inside = λ k. once _;
      verdict_of_law = once _;
      listing = λ s out b c p q i. ((p.held ∙ sym q.held) i, (p.answer ∙ sym q.answer) i);
      listing_part = λ s from out b c p q i. ((p.held ∙ sym q.held) i, (p.answer ∙ sym q.answer) i);
    }

of_surveys : SurveysOnce
of_surveys =
    record {
      survey_of = λ s a b c d wa wb wc wd p q. (alike a c wa wc p.of_a q.of_a, alike b d wb wd p.of_b q.of_b);
      first_or_enclosed = λ s. same_sought _;
      verdict_by = once _;
      verdict_read = once _;
      write_read = λ s from all out b c p q i. ((p.held ∙ sym q.held) i, (p.count ∙ sym q.count) i);
      survey = λ s out b c p q i. ((p.held ∙ sym q.held) i, (p.answer ∙ sym q.answer) i);
    }

pub no_second_answer : NoSecondAnswer
no_second_answer =
    record {
      of_scene_law = of_scene_law;
      of_judge = of_judge;
      of_record = of_record;
      of_orient = of_orient;
      of_edges = of_edges;
      of_pierce = of_pierce;
      of_kernel = of_kernel;
      of_surveys = of_surveys;
    }

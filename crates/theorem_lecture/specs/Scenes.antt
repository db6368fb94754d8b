-- Two accepted scenes of one shape, whose rows differ, but with which the same edges pierce the same faces: every question about them has
-- the same answer, or the same refusal. Assumes nothing.
use Rattle.std.specs.Prelude.{◌≡◌, ◌↔◌, ℕ, leb, Ok, Err}
use Rattle.std.proofs.Math.Path.{refl, sym, ap, ap₂}
use Rattle.std.proofs.Common.{◌∙◌}
use Rattle.std.proofs.Math.Bool.{cond}
use mathlib.Core.List.{List, ◌++◌}
use Rattle.std.specs.Int.Count.{ones}
use Rattle.std.proofs.Math.ListN.{length}
use Rattle.scene.specs.View.{View, view_of, verts, points, solid}
use Rattle.scene.specs.declared.Refusal.{Refusal}
use Rattle.judge.specs.Judge.{judged}
use Rattle.judge.specs.Judge.{Judged}
use Rattle.pierce_masks.specs.Faces.{is_odd}
use Rattle.questions.specs.Hits.{Hit, solid_hits, lowest_enclosed}
use Rattle.questions.specs.First.{first_of}
use Rattle.questions.specs.WritePairs.{part_in}
use Rattle.questions.specs.Answers.{or_refuse, pierce_view, is_point, is_vertex, is_face, is_vertex_of, edge_and_face, pierces_fault}
use Rattle.questions.specs.Answers.{pierces_in}
use Rattle.questions.specs.Answers.{pierces_of, edge_and_solid, ends_off_solid, mask_fault, mask_in, refused, faces_are, masked_in, masked_of}
use Rattle.questions.specs.Answers.{other_solid, is_enclosed, enclosed_fault, enclosed_in, enclosed_of, listing_in, inside_in, counts_in}
use Rattle.questions.specs.Answers.{inside_fault, enclosing_in, inside_of, counted_of, cross_or, enclosure_in, verdict_in, verdict_of}
use Rattle.questions.specs.Answers.{list_fault, listed_in, held_in, IsListed, IsPart}
use Rattle.questions.specs.Asked.{Outside, mask_outside, enclosed_vertex_law, far_outside}
use Rattle.questions.specs.Types.{Listed}
use Rattle.questions.specs.declared.Verdict.{Verdict}
use Rattle.questions.specs.declared.Verdict.TheVariants as verdict
use Rattle.survey_scene.specs.Ready.{outside_beside, pierces_fit, sound}
use Rattle.theorem_lecture.specs.Alike.{SamePierced, masks_same, hits_same, counts_same, lowests_same}
use Rattle.theorem_lecture.specs.Lecture.{rows_of, points_of, SameShape, SameAnswers}

-- the same is at fault, and where nothing is, the same is answered
pub answered_same : {X : Type 0} (refuse : Refusal → X) {x y : X} {i j : Judged} → i ≡ j → (j ≡ Ok tt → x ≡ y) →
    or_refuse refuse i x ≡ or_refuse refuse j y
unfolding or_refuse
answered_same refuse {x} {y} {j} e h = ap (λ (k : Judged). or_refuse refuse k x) e ∙ by j h
  where
    by : (j : Judged) → (j ≡ Ok tt → x ≡ y) → or_refuse refuse j x ≡ or_refuse refuse j y
    by (Ok _) h = h refl
    by (Err r) h = refl

module _ (s t : List ℕ) (ok : judged s ≡ Ok tt) (ok' : judged t ≡ Ok tt) (shape : SameShape s t)
    (same : SamePierced (points_of s) (rows_of s) (rows_of t)) where
  abbrev v : View
  v = view_of s

  -- what t denotes has the counts and the faces of s
  abbrev w : View
  w = record { verts_a = v.verts_a; faces_in_a = v.faces_in_a; verts_b = v.verts_b; faces_in_b = v.faces_in_b; row = rows_of t; face = v.face }

  view_is : view_of t ≡ w
  view_is =
      λ i.
      record {
        verts_a = shape.verts_a_law i;
        faces_in_a = shape.faces_a_law i;
        verts_b = shape.verts_b_law i;
        faces_in_b = shape.faces_b_law i;
        row = rows_of t;
        face = λ k. shape.faces k i;
      }

  pub points_are : points_of t ≡ points_of s
  points_are = ap points view_is

  -- asked of the bytes: both are accepted, so it is as it is of the views
  of_bytes : {X : Type 0} (refuse : Refusal → X) (ask : View → X) → ask w ≡ ask v →
      or_refuse refuse (judged t) (ask (view_of t)) ≡ or_refuse refuse (judged s) (ask v)
  of_bytes refuse ask e = answered_same refuse (ok' ∙ sym ok) (λ _. ap ask view_is ∙ e)

  -- ---- an edge and a face

  pierces_same : (u x f : ℕ) → pierces_in w u x f ≡ pierces_in v u x f
  unfolding pierces_in pierces_fault edge_and_face is_point is_face
  pierces_same u x f =
      answered_same Err refl (λ e. ap Ok (sym (same u x (v.face f) (pierces_fit s ok f e refl refl refl).1.1)))

  -- ---- masks

  mask_same : (u x k : ℕ) → Outside v u x k → mask_in w u x k ≡ mask_in v u x k
  unfolding mask_in solid
  mask_same u x k h =
      sym (masks_same (points v) v.row w.row v.face same u x (solid v k).face0 (solid v k).faces
      (outside_beside s ok h refl refl refl))

  masked_same : (u x k : ℕ) → masked_in w u x k ≡ masked_in v u x k
  unfolding masked_in mask_fault edge_and_solid ends_off_solid is_point is_vertex_of solid
  masked_same u x k =
      answered_same refused refl (λ e. ap (λ (m : ℕ). faces_are m (ones m)) (mask_same u x k (mask_outside v u x k e)))

  enclosed_same : (i : ℕ) → enclosed_in w i ≡ enclosed_in v i
  unfolding enclosed_in enclosed_fault is_vertex is_enclosed other_solid
  enclosed_same i =
      answered_same Err refl
      (λ e. ap (λ (m : ℕ). Ok (is_odd m)) (mask_same i (points v) (other_solid v i) (far_outside v i (enclosed_vertex_law v i e) refl refl)))

  -- ---- the solids: pairs, and enclosed vertices

  hits : (k : ℕ) → solid_hits (pierce_view w) (solid w k) ≡ solid_hits (pierce_view v) (solid v k)
  unfolding solid
  hits k = sym (hits_same (points v) v.row w.row v.face same (solid v k) (sound s ok k))

  inside : (k : ℕ) → inside_in w k ≡ inside_in v k
  unfolding inside_in solid
  inside k = sym (counts_same (points v) v.row w.row v.face same (solid v k) (sound s ok k))

  lowest : (k : ℕ) → lowest_enclosed (pierce_view w) (solid w k) ≡ lowest_enclosed (pierce_view v) (solid v k)
  unfolding solid
  lowest k = sym (lowests_same (points v) v.row w.row v.face same (solid v k) (sound s ok k))

  listing_same : listing_in w ≡ listing_in v
  unfolding listing_in
  listing_same = ap₂ ◌++◌ (hits 1) (hits 2)

  enclosing_same : (k : ℕ) → enclosing_in w k ≡ enclosing_in v k
  unfolding enclosing_in
  enclosing_same k = ap (λ (n : ℕ). or_refuse Err (inside_fault k) (Ok n)) (inside k)

  counts_are : counts_in w ≡ counts_in v
  unfolding counts_in
  counts_are = λ i. record { pairs = length (listing_same i); a_in_b = inside 1 i; b_in_a = inside 2 i }

  enclosure_same : enclosure_in w ≡ enclosure_in v
  unfolding enclosure_in
  enclosure_same =
      ap₂ (λ (p q : ℕ). cond (leb p v.verts_a) (verdict.AInB p) (cond (leb q (verts v)) (verdict.BInA q) verdict.Apart)) (lowest 1)
      (lowest 2)

  verdict_same : verdict_in w ≡ verdict_in v
  unfolding verdict_in
  verdict_same = ap₂ (λ (l : List Hit) (rest : Verdict). cross_or (first_of l) rest) listing_same enclosure_same

  -- ---- the listing, into a lent list d

  list_same : (d : List ℕ) → listed_in w d ≡ listed_in v d
  unfolding listed_in list_fault
  list_same d = rw listing_same

  held_same : (d : List ℕ) → held_in w d ≡ held_in v d
  unfolding held_in list_fault
  held_same d = rw listing_same

  listed_so : (d d' : List ℕ) (r : Listed) → IsListed t d d' r ↔ IsListed s d d' r
  listed_so d d' r =
      let a = of_bytes Err (λ z. listed_in z d) (list_same d) in
      let h = of_bytes (λ _. d) (λ z. held_in z d) (held_same d) in (
        λ x. record { answer = x.answer ∙ a; held = x.held ∙ h },
        λ x. record { answer = x.answer ∙ sym a; held = x.held ∙ sym h },
      )

  part_so : (from : ℕ) (d d' : List ℕ) (r : Listed) → IsPart t from d d' r ↔ IsPart s from d d' r
  part_so from d d' r =
      let a = of_bytes Err (λ z. Ok (length (listing_in z)))
      (ap (λ (l : List Hit). Ok (length l)) listing_same) in
      let h = of_bytes (λ _. d) (λ z. part_in (listing_in z) from d) (ap (λ (l : List Hit). part_in l from d) listing_same) in (
        λ x. record { answer = x.answer ∙ a; held = x.held ∙ h },
        λ x. record { answer = x.answer ∙ sym a; held = x.held ∙ sym h },
      )

  -- ---- all of them

  pub same_answers : SameAnswers s t
  unfolding verdict_of masked_of pierces_of enclosed_of inside_of counted_of
  same_answers =
      record {
        verdict = of_bytes Err (λ z. Ok (verdict_in z)) (ap Ok verdict_same);
        masks = λ u x k. of_bytes refused (λ z. masked_in z u x k) (masked_same u x k);
        listing = ap listing_in view_is ∙ listing_same;
        listed = listed_so;
        part = part_so;
        pierces = λ u x f. of_bytes Err (λ z. pierces_in z u x f) (pierces_same u x f);
        enclosed = λ i. of_bytes Err (λ z. enclosed_in z i) (enclosed_same i);
        inside = λ k. of_bytes Err (λ z. enclosing_in z k) (enclosing_same k);
        counted = of_bytes Err (λ z. Ok (counts_in z)) (ap Ok counts_are);
      }

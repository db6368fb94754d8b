-- The theorem of the lecture is proved. Assumes nothing.
use Rattle.std.specs.Prelude.{◌≡◌, ◌⊎◌, Bool, false, not, ◌&&◌, List, ℕ, ◌≤◌, length, Ok, Err}
use Rattle.std.proofs.Math.Path.{refl, ap}
use Rattle.std.proofs.Common.{sym, subst, ◌∙◌, inr, arith}
use Rattle.std.proofs.Math.Logic.{inl}
use Rattle.laws.specs.Bools.{◌⊕◌, all, ◌≐◌, law}
use Rattle.laws.specs.Sign.{sign}
use Rattle.scene.specs.Limits.{limits, within}
use Rattle.scene.specs.View.{view_of}
use Rattle.scene.specs.declared.Refusal.{Refusal}
use Rattle.scene.specs.declared.Refusal.TheVariants.{NoSuchNumber, NotDistinct}
use Rattle.judge.specs.Judge.{refuse_unless, judged}
use Rattle.judge.specs.Judge.{Judged}
use Rattle.rules.proofs.Given.{counts}
use Rattle.orient.specs.Signs.{Upto, Four}
use Rattle.orient.specs.Terms.{is_plus, positive_at, terms_at}
use Rattle.orient.specs.declared.Terms.{Terms}
use Rattle.questions.specs.Answers.{or_refuse, is_point, are_points, differ, sign_fault, sign_in, sign_of}
use Rattle.questions.specs.Asked.{sign_four}
use Rattle.clean.specs.Answers.{clean_exactly}
use Rattle.clean.specs.Clean.{Clean}
use Rattle.map_image.specs.Mapped.{determinant_of}
use Rattle.map_image.specs.Image.{image_bytes}
use Rattle.map_image.proofs.Faults.{wrote, regular_is}
use Rattle.theorem_lecture.specs.Turned.{pierced_turned}
use Rattle.theorem_lecture.specs.Signs.{image_clean, image_turned}
use Rattle.theorem_lecture.proofs.Scaled.{sign_scaled}
use Rattle.theorem_lecture.specs.Lecture.{rows_of, points_of, sign_alone, Lecture, Image, Multiplied}
use Rattle.theorem_lecture.specs.Imaged.{image_accepted, image_mapped}
use Rattle.theorem_lecture.specs.Scenes.{answered_same, points_are, same_answers}

six : (s : List ℕ) → judged s ≡ Ok tt → 6 ≤ points_of s
six s ok = let c = counts limits s ok in omega (arith, c.vertices_a_law, c.vertices_b_law)

pub lecture : Lecture
lecture m s t ok ok' h is-clean regular =
    let clean = (clean_exactly s ok).0 is-clean in
    let turned = image_turned (points_of s) m (rows_of s) (rows_of t) h.rows clean regular in
    let same = pierced_turned (points_of s) (not (is_plus (sign (determinant_of m)))) (rows_of s) (rows_of t) turned (six s ok) in
    record {
      clean =
          (clean_exactly t ok').1
          (subst (λ (n : ℕ). Clean n (rows_of t)) (sym (points_are s t ok ok' h.shape same))
          (image_clean (points_of s) m (rows_of s) (rows_of t) h.rows clean regular));
      answers = same_answers s t ok ok' h.shape same;
    }

-- ---- rows multiplied

-- positive or not, in place of a refusal
abbrev told : Bool → Refusal ⊎ Bool
told = inr

module _ (a b c d : ℕ) where
  -- the sign alone, by what is at fault
  by_fault : (s : List ℕ) → judged s ≡ Ok tt →
      sign_alone (sign_of s a b c d) ≡ or_refuse inl (sign_fault (view_of s) a b c d) (told (positive_at (rows_of s) a b c d))
  unfolding sign_of sign_in or_refuse
  by_fault s ok = rw ok (by (sign_fault (view_of s) a b c d) (terms_at (rows_of s) a b c d) (positive_at (rows_of s) a b c d))
    where
      by : (j : Judged) (x : Terms) (p : Bool) → sign_alone (or_refuse Err j (Ok (x, p))) ≡ or_refuse inl j (told p)
      by (Ok _) x p = refl
      by (Err r) x p = refl

  fault_same : (s t : List ℕ) → points_of t ≡ points_of s → sign_fault (view_of t) a b c d ≡ sign_fault (view_of s) a b c d
  unfolding sign_fault are_points is_point
  fault_same s t e =
      ap
      (λ (n : ℕ). refuse_unless (within 1 n a && (within 1 n b && (within 1 n c && within 1 n d))) NoSuchNumber
      (refuse_unless (differ a b c d) NotDistinct (Ok tt))) e

pub multiplied : Multiplied
multiplied k s t ok ok' h =
    let signs : (a b c d : ℕ) → Four (Upto (points_of s)) a b c d → positive_at (rows_of t) a b c d ≡ positive_at (rows_of s) a b c d =
    λ a b c d f.
    sign_scaled (rows_of s) (rows_of t) a b c d (k a) (k b) (k c) (k d) (h.rows a f.a_in) (h.rows b f.b_in) (h.rows c f.c_in)
    (h.rows d f.d_in) in
    record {
      signs =
          λ a b c d.
          by_fault a b c d t ok'
          ∙ answered_same inl (fault_same a b c d s t (omega (arith, h.shape.verts_a_law, h.shape.verts_b_law)))
          (λ e. ap told (signs a b c d (sign_four (view_of s) a b c d e)))
          ∙ sym (by_fault a b c d s ok);
      answers =
          same_answers s t ok ok' h.shape
          (pierced_turned (points_of s) false (rows_of s) (rows_of t)
          (λ a b c d f. rw (signs a b c d f) (law (all λ x. x ≐ x ⊕ false) tt _)) (six s ok));
    }

pub image : Image
image s m d d' n h =
    let w = wrote s m d d' n h in
    let p = w.passed in
    let accepted = image_accepted s m (length d) p in
    let mapped = image_mapped s m (length d) p in
    record {
      held = w.held;
      long = w.long;
      accepted = accepted;
      mapped = mapped;
      same = λ clean. lecture m s (image_bytes m s) p.scene accepted mapped clean (regular_is (determinant_of m) p.regular);
    }

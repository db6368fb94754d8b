-- What was found is the scene's own answer. Assumes nothing.
use Rattle.std.specs.Prelude.{◌≡◌, ℕ, ◌≤◌, ◌<◌, length, Some, None}
use Rattle.std.proofs.Math.Path.{sym, ap}
use Rattle.std.proofs.Common.{◌∙◌}
use borrow.Author.Tests.{le-leb, lt-leb}
use Rattle.scene.specs.View.{View, verts, solid}
use Rattle.questions.specs.Hits.{lowest_enclosed}
use Rattle.questions.specs.First.{first_of}
use Rattle.questions.specs.Types.{Found}
use Rattle.questions.specs.Answers.{pierce_view, listing_in, inside_in, counts_in, cross_or, enclosure_in, verdict_in}
use Rattle.questions.specs.declared.Counts.{Counts}
use Rattle.questions.specs.declared.Verdict.{Verdict}
use Rattle.questions.specs.declared.Verdict.TheVariants.{Cross, AInB, BInA, Apart}

module _ (v : View) where
  pub counts_are : {n x y : ℕ} → n ≡ length (listing_in v) → x ≡ inside_in v 1 → y ≡ inside_in v 2 →
      ◌≡◌ {A = Counts} (record { pairs = n; a_in_b = x; b_in_a = y }) (counts_in v)
  unfolding counts_in
  counts_are e p q = λ i. record { pairs = e i; a_in_b = p i; b_in_a = q i }

  -- x is the first pair
  module _ {x : Found} (first : x ≡ first_of (listing_in v)) where
    pub cross_is : {u w f : ℕ} → x ≡ Some (u, w, f) → Cross u w f ≡ verdict_in v
    unfolding verdict_in
    cross_is e = ap (λ (o : Found). cross_or o (enclosure_in v)) (sym e ∙ first)

    pub none_cross : {r : Verdict} → x ≡ None → r ≡ enclosure_in v → r ≡ verdict_in v
    unfolding verdict_in
    none_cross e p = p ∙ ap (λ (o : Found). cross_or o (enclosure_in v)) (sym e ∙ first)

  -- p is the lowest vertex of A enclosed, q of B
  module _ {p n : ℕ} (lowest_a : p ≡ lowest_enclosed (pierce_view v) (solid v 1)) (is-n : n ≡ v.verts_a) where
    pub a_in_b_law : p ≤ n → AInB p ≡ enclosure_in v
    unfolding enclosure_in
    a_in_b_law h = sym (rw (← lowest_a, ← is-n, le-leb p n h))

    module _ {q m : ℕ} (more : n < p) (lowest_b : q ≡ lowest_enclosed (pierce_view v) (solid v 2)) (is_m : m ≡ verts v) where
      pub b_in_a_law : q ≤ m → BInA q ≡ enclosure_in v
      unfolding enclosure_in
      b_in_a_law h = sym (rw (← lowest_a, ← lowest_b, ← is_m, ← is-n, lt-leb p n more, le-leb q m h))

      pub all_apart : m < q → Apart ≡ enclosure_in v
      unfolding enclosure_in
      all_apart h = sym (rw (← lowest_a, ← lowest_b, ← is_m, ← is-n, lt-leb p n more, lt-leb q m h))

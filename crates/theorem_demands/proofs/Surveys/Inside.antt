-- The words of enclosed vertices, in the demands' words: a bit for each, set where it is enclosed. Assumes nothing.
use Rattle.std.specs.Prelude.{◌≡◌, Bool, List, ℕ, ◌+◌}
use Rattle.std.proofs.Common.{sym, ◌∙◌, arith}
use Rattle.laws.specs.Mask.{mask_lt, mask_test}
use Rattle.scene.specs.View.{view_of, solid}
use Rattle.scene.specs.declared.Solid.{Solid}
use Rattle.questions.specs.Hits.{enclosed_vertex}
use Rattle.survey_enclosed.specs.Walk.{inside_word}
use Rattle.questions.specs.Answers.{pierce_view}
use Rattle.theorem_demands.proofs.Words.Solids.{InWords, a_worded, b_worded}
use Rattle.theorem_demands.specs.Surveys.{IsWord, AreWords}

word_in : (s : List ℕ) {k : Solid} {n : ℕ} {Of Own Other : ℕ → Type 0} → InWords s k n Of Own Other →
    IsWord s k.vert0 k.verts (inside_word (pierce_view (view_of s)) k)
unfolding inside_word
word_in s {k} w =
    let g : ℕ → Bool = λ m. enclosed_vertex (pierce_view (view_of s)) k (k.vert0 + 1 + m) in
    record {
      small = mask_lt g k.verts;
      bits = λ j b.
          let e = mask_test g k.verts j b ∙ w.inside (k.vert0 + 1 + j) ((w.vertices (k.vert0 + 1 + j)).0 (omega arith, omega arith))
          in
          (λ t. sym e ∙ t, λ t. e ∙ t);
    }

pub are_words : (s : List ℕ) {a b : ℕ} → a ≡ inside_word (pierce_view (view_of s)) (solid (view_of s) 1) →
    b ≡ inside_word (pierce_view (view_of s)) (solid (view_of s) 2) → AreWords s a b
unfolding solid
are_words s d e = (rw d (word_in s (a_worded s)), rw e (word_in s (b_worded s)))

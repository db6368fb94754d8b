-- The first pair of both solids, and where there is none what is enclosed. Assumes nothing.
use Rattle.std.specs.Prelude.{◌≡◌, refl, List, [], ◌++◌, ℕ, Some, None}
use Rattle.std.proofs.Common.{sym, ◌∙◌}
use Rattle.scene.specs.declared.Solid.{Solid}
use Rattle.questions.specs.Hits.{PierceView, Hit, solid_hits}
use Rattle.questions.specs.First.{first_of, empty_next, first_left, first_right}
use Rattle.questions.specs.Types.{Found}
use Rattle.survey_enclosed.specs.Walk.{inside_word}
use Rattle.survey_first.specs.FirstLook.{FirstIfFound, glimpsed_pair}
use Rattle.survey_first.specs.declared.FirstOrEnclosed.{FirstOrEnclosed}

-- a word is told where there is no pair, and is 0 where there is one
abbrev pub unless_pair : Found → ℕ → ℕ
unless_pair None w = w
unless_pair (Some (u, v, f)) w = 0

pub record IsFirstOrEnclosed (s : PierceView) (a b : Solid) (r : FirstOrEnclosed) : Type 0 where
  pub first : r.first ≡ first_of (solid_hits s a ++ solid_hits s b)
  pub a_inside_law : r.a ≡ unless_pair r.first (inside_word s a)
  pub b_inside_law : r.b ≡ unless_pair r.first (inside_word s b)

-- what is answered of a pair
abbrev pub crossed_by : (u v f : ℕ) → FirstOrEnclosed
crossed_by u v f = record { first = Some (u, v, f); a = 0; b = 0 }

pub none_first : (l : List Hit) {o : Found} → o ≡ first_of l → o ≡ None → [] ≡ l
none_first l p q = empty_next {l = []} l refl p q

module _ (s : PierceView) (a b : Solid) {r : FirstOrEnclosed} {x : Found} {u v f : ℕ} (pair : x ≡ Some (u, v, f)) (is-r : r ≡ crossed_by u v f)
  where
    sought_pair : Some (u, v, f) ≡ first_of (solid_hits s a ++ solid_hits s b) → IsFirstOrEnclosed s a b r
    sought_pair e = rw is-r (record { first = e; a_inside_law = refl; b_inside_law = refl })

    pub sought_in_a : x ≡ first_of (solid_hits s a) → IsFirstOrEnclosed s a b r
    sought_in_a e = sought_pair (first_left (solid_hits s a) (solid_hits s b) e pair)

    pub sought_early : FirstIfFound (solid_hits s a) x → IsFirstOrEnclosed s a b r
    sought_early g = sought_in_a (glimpsed_pair (solid_hits s a) x pair g)

    pub sought_in_b : {y : Found} → y ≡ first_of (solid_hits s a) → y ≡ None → x ≡ first_of (solid_hits s b) → IsFirstOrEnclosed s a b r
    sought_in_b of_a none-a e = sought_pair (first_right (solid_hits s a) (solid_hits s b) of_a none-a (sym pair ∙ e))

pub sought_none : (s : PierceView) (a b : Solid) {x y : Found} {p q : ℕ} → x ≡ first_of (solid_hits s a) → x ≡ None →
    y ≡ first_of (solid_hits s b) → y ≡ None → p ≡ inside_word s a → q ≡ inside_word s b →
    IsFirstOrEnclosed s a b (record { first = None; a = p; b = q })
sought_none s a b of_a none-a of_b none-b e f = record {
  first = first_right (solid_hits s a) (solid_hits s b) of_a none-a (sym none-b ∙ of_b);
  a_inside_law = e;
  b_inside_law = f;
}

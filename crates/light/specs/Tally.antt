-- How often a colour is answered over any calls, and what they leave of the counts; one scene has one colour. That each count grows by how
-- often its colour was answered stands in `TallyProof`. Assumes nothing.
use Rattle.std.specs.Prelude.{◌≡◌, refl, Bool, List, [], ◌∷◌, ℕ, ◌+◌, eqb, Ok, Err}
use Rattle.std.proofs.Math.Path.{sym, ap}
use Rattle.std.proofs.Common.{◌∙◌}
use Rattle.std.proofs.Math.Bool.{true, false, cond}
use Rattle.questions.specs.Answers.{verdict_of}
use Rattle.light.specs.Light.{light_number, colour_of, is_full, light_of, left_of, IsLight}
use Rattle.light.specs.Light.{Lit}
use Rattle.light.specs.declared.LightError.TheVariants.{Uncounted}

-- ---- one call

-- 1 where the light's number is k
abbrev pub one : ℕ → Lit → ℕ
one k r = cond (eqb (light_number r) k) 1 0

module _ (s l : List ℕ) where
  pub full_light : is_full l ≡ true → light_of s l ≡ Err Uncounted
  unfolding light_of
  full_light h = ap (λ (b : Bool). cond b (Err Uncounted) (Ok (colour_of (verdict_of s)))) h

  pub open_light : is_full l ≡ false → light_of s l ≡ Ok (colour_of (verdict_of s))
  unfolding light_of
  open_light h = ap (λ (b : Bool). cond b (Err Uncounted) (Ok (colour_of (verdict_of s)))) h

-- ---- many calls

-- the counts after calls on the scenes ss, in turn, and how often k was answered
abbrev pub after : List (List ℕ) → List ℕ → List ℕ
after [] l = l
after (s ∷ ss) l = after ss (left_of s l)

abbrev pub times : ℕ → List (List ℕ) → List ℕ → ℕ
times k [] l = 0
times k (s ∷ ss) l = one k (light_of s l) + times k ss (left_of s l)

abbrev pub zeros : List ℕ
zeros = 0 ∷ 0 ∷ 0 ∷ 0 ∷ 0 ∷ 0 ∷ 0 ∷ 0 ∷ 0 ∷ 0 ∷ 0 ∷ 0 ∷ 0 ∷ 0 ∷ 0 ∷ 0 ∷ []

-- ---- no second answer

pub one_answer : (s l m n : List ℕ) (r q : Lit) → IsLight s l m r → IsLight s l n q → (r ≡ q) × (m ≡ n)
one_answer s l m n r q a b = (a.answer ∙ sym b.answer, a.held ∙ sym b.held)

-- whatever the counts, a scene that is answered with a colour is answered with the same colour
pub one_colour : (s l m : List ℕ) → (light_of s l ≡ Err Uncounted → ⊥) → (light_of s m ≡ Err Uncounted → ⊥) → light_of s l ≡ light_of s m
one_colour s l m a b = shown l a ∙ sym (shown m b)
  where
    shown : (l : List ℕ) → (light_of s l ≡ Err Uncounted → ⊥) → light_of s l ≡ Ok (colour_of (verdict_of s))
    shown l h = go (is_full l) refl
      where
        go : (b : Bool) → is_full l ≡ b → light_of s l ≡ Ok (colour_of (verdict_of s))
        go true p = absurd (h (full_light s l p))
        go false p = open_light s l p

-- The first of a run of hits. Assumes nothing.
use Rattle.std.specs.Prelude.{◌≡◌, ℕ, ◌+◌, ◌≤◌, ◌<◌, ◌-◌, List, [], ◌∷◌, ◌++◌, Some, None}
use Rattle.std.proofs.Math.Path.{refl}
use Rattle.std.proofs.Common.{sym, ap, ◌∙◌, arith}
use Rattle.laws.specs.Runs.{up_to, up_to_more, up_to_join}
use Rattle.questions.specs.Hits.{Hit}
use Rattle.questions.specs.Types.{Found}

unfoldable pub first_of : List Hit → Found
first_of [] = None
first_of (h ∷ l) = Some (h.low, h.high, h.face)

-- ---- runs one after another: where those so far are empty the first of the next is the first of all

pub first_none : {l : List Hit} → [] ≡ l → None ≡ first_of l
unfolding first_of
first_none e = ap first_of e

pub first_next : {l : List Hit} (m : List Hit) {o : Found} {a b f : ℕ} → [] ≡ l → o ≡ first_of m → o ≡ Some (a, b, f) → (n : List Hit) →
    Some (a, b, f) ≡ first_of ((l ++ m) ++ n)
unfolding first_of
first_next [] e p q n = cc
first_next (h ∷ m) e p q n = rw (← e) (sym q ∙ p)

pub empty_next : {l : List Hit} (m : List Hit) {o : Found} → [] ≡ l → o ≡ first_of m → o ≡ None → [] ≡ l ++ m
unfolding first_of
empty_next [] e p q = rw (← e)
empty_next (h ∷ m) e p q = cc

-- ---- a loop over runs: nothing so far

module _ (g : ℕ → List Hit) where
  pub first_start : [] ≡ up_to g 0
  unfolding up_to
  first_start = refl

  pub first_more : (i : ℕ) {o : Found} → [] ≡ up_to g i → o ≡ first_of (g i) → o ≡ None → [] ≡ up_to g (i + 1)
  first_more i e p q = empty_next (g i) e p q ∙ sym (up_to_more g i)

  pub first_found : (i n : ℕ) {o : Found} {a b f : ℕ} → i < n → [] ≡ up_to g i → o ≡ first_of (g i) → o ≡ Some (a, b, f) →
      Some (a, b, f) ≡ first_of (up_to g n)
  first_found i n h e p q =
      let m : ℕ = n - (i + 1) in
      let d : n ≡ i + 1 + m = omega arith in
      first_next (g i) e p q (up_to (λ j. g (i + 1 + j)) m)
      ∙ ap first_of
      (ap (λ (l : List Hit). l ++ up_to (λ j. g (i + 1 + j)) m) (sym (up_to_more g i)) ∙ sym (up_to_join g (i + 1) m) ∙ ap (up_to g) (sym d))

  pub first_end : {i n : ℕ} → i ≤ n → n ≤ i → [] ≡ up_to g i → None ≡ first_of (up_to g n)
  first_end {i} {n} a b e = let d : i ≡ n = omega arith in first_none (rw d at e)

-- ---- the first of two runs

pub first_left : (l m : List Hit) {o : Found} {a b f : ℕ} → o ≡ first_of l → o ≡ Some (a, b, f) → Some (a, b, f) ≡ first_of (l ++ m)
unfolding first_of
first_left [] m p q = cc
first_left (h ∷ l) m p q = sym q ∙ p

pub first_right : (l m : List Hit) {o r : Found} → o ≡ first_of l → o ≡ None → r ≡ first_of m → r ≡ first_of (l ++ m)
unfolding first_of
first_right [] m p q e = e
first_right (h ∷ l) m p q e = cc

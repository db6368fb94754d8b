-- What a call from C answers: numbers, 0 where there is nothing to say. Assumes nothing.
use Rattle.std.specs.Prelude.{◌≡◌, refl, List, ℕ, length, Result, Ok, Err}
use Rattle.std.proofs.Common.{sym, ap, ◌∙◌}
use Rattle.scene.specs.Refusal.{number_of, place_of}
use Rattle.scene.specs.View.{view_of}
use Rattle.scene.specs.declared.Refusal.{Refusal}
use Rattle.judge.specs.Judge.{judged}
use Rattle.judge.specs.Judge.{Judged}
use Rattle.questions.specs.Answers as kernel
use Rattle.questions.specs.Answers.{or_refuse, listing_in, inside_fault, inside_in, enclosing_in, list_fault, listed_in, held_in}
use Rattle.questions.specs.Types.{Listed}
use Rattle.questions.specs.Types.{Enclosing}

-- the number or the place of a refusal, 0 where there is none
abbrev pub of_refusal : {T F : Type 0} → (F → ℕ) → Result T F → ℕ
of_refusal f (Ok _) = 0
of_refusal f (Err e) = f e

abbrev pub refusal_number : Judged → ℕ
refusal_number j = of_refusal number_of j

abbrev pub refusal_place : Judged → ℕ
refusal_place j = of_refusal place_of j

-- the number of pierced pairs
unfoldable pub pairs_of : List ℕ → ℕ
pairs_of s = or_refuse (λ _. 0) (judged s) (length (listing_in (view_of s)))

-- the number of vertices of solid k that the other one encloses
unfoldable pub inside_of : List ℕ → ℕ → ℕ
inside_of s k = or_refuse (λ _. 0) (judged s) (or_refuse (λ _. 0) (inside_fault k) (inside_in (view_of s) k))

-- the number of pairs; d, what the lent list held, is kept where the scene is refused or there is no room, and else d' has the listing in
-- front
pub record IsListing (s d d' : List ℕ) (r : ℕ) : Type 0 where
  pub answer : r ≡ pairs_of s
  pub held : d' ≡ or_refuse (λ _. d) (judged s) (held_in (view_of s) d)

-- ---- from the kernel's answers

-- a call's answer o, which is j, by the case x that it came out as
pub by_case : {A : Type 0} (f : A → ℕ) {o j x : A} {n : ℕ} → o ≡ j → o ≡ x → n ≡ f x → n ≡ f j
by_case f e q p = p ∙ ap f (sym q ∙ e)

-- the number of a call's answer o, which is j
pub by_answer : {A : Type 0} (f : A → ℕ) {o j : A} {n : ℕ} → o ≡ j → n ≡ f o → n ≡ f j
by_answer f e p = p ∙ ap f e

abbrev pub counted : Listed → ℕ
counted (Ok n) = n
counted (Err r) = 0

abbrev pub enclosed : Enclosing → ℕ
enclosed (Ok n) = n
enclosed (Err r) = 0

-- the number of an answer that says nothing where it is refused
number_of_law : {A : Type 0} (f : A → ℕ) (refuse : Refusal → A) → ((r : Refusal) → f (refuse r) ≡ 0) → (j : Judged) (x : A) →
    f (or_refuse refuse j x) ≡ or_refuse (λ _. 0) j (f x)
unfolding or_refuse
number_of_law f refuse h (Ok _) x = refl
number_of_law f refuse h (Err r) x = h r

pub pairs_are : (s : List ℕ) {o x : Listed} {n : ℕ} →
    o ≡ or_refuse Err (judged s) (Ok (length (listing_in (view_of s)))) → o ≡ x → n ≡ counted x →
    n ≡ pairs_of s
unfolding pairs_of
pairs_are s e q p =
    by_case counted e q p ∙ number_of_law counted Err (λ r. refl) (judged s) (Ok (length (listing_in (view_of s))))

pub inside_is : (s : List ℕ) (k : ℕ) {o x : Enclosing} {n : ℕ} → o ≡ kernel.inside_of s k → o ≡ x → n ≡ enclosed x → n ≡ inside_of s k
unfolding inside_of kernel.inside_of enclosing_in
inside_is s k e q p =
    by_case enclosed e q p ∙ number_of_law enclosed Err (λ r. refl) (judged s) (enclosing_in (view_of s) k)
    ∙ ap (or_refuse (λ _. 0) (judged s))
    (number_of_law enclosed Err (λ r. refl) (inside_fault k) (Ok (inside_in (view_of s) k)))

-- a listing that was not refused is of an accepted scene
pub listed_are : (s d : List ℕ) {o : Listed} {n : ℕ} → o ≡ or_refuse Err (judged s) (listed_in (view_of s) d) →
    o ≡ Ok n → n ≡ pairs_of s
unfolding or_refuse pairs_of listed_in
listed_are s d {n} e q = go (judged s) (list_fault (view_of s) d) (sym q ∙ e)
  where
    go : (j k : Judged) →
        Ok n ≡ or_refuse Err j (or_refuse Err k (Ok (length (listing_in (view_of s))))) →
        n ≡ or_refuse (λ _. 0) j (length (listing_in (view_of s)))
    go (Ok _) (Ok _) p = ap counted p
    go (Ok _) (Err r) p = cc
    go (Err r) k p = cc

-- Over any calls each count grows by how often its colour was answered; from sixteen zeros it is how often. The first million calls are
-- answered with a colour, and those after them with 16. Assumes nothing.
use Rattle.std.specs.Prelude.{◌≡◌, refl, ◌⊎◌, Bool, not, ◌||◌, List, [], ◌∷◌, ℕ, zero, suc, ◌+◌, ◌*◌, ◌≤◌, ◌<◌, eqb, leb, ltb, length, Ok, Err}
use Rattle.std.proofs.Math.Path.{sym, ap, subst}
use Rattle.std.proofs.Common.{◌∙◌, inl, inr, add-zero, zero-add, add_assoc, arith, eqb→eq, ltb→lt, nltb→le, eq-eqb, ne_eqb, le-leb, leb-true, leb-false}
use Rattle.std.proofs.Math.Bool.{true, false, cond}
use Rattle.std.proofs.Math.Dec.{T, T_not}
use Rattle.std.proofs.lemmas.Bool.{lt-leb}
use Rattle.questions.specs.Answers.{verdict_of}
use Rattle.light.specs.Light.{light_number, colour_of, count_of, more, total, is_full, light_of, left_of}
use Rattle.light.specs.Cases.{colour_lt}
use Rattle.light.specs.Words.{put_length, word_put, word_other}
use Rattle.light.specs.Light.{Lit}
use Rattle.light.specs.declared.LightError.TheVariants.{Uncounted}
use Rattle.light.specs.Tally.{one, after, times, zeros, full_light, open_light}

-- ---- one more of a colour

-- a count is at most the total
part : (l : List ℕ) (k : ℕ) → k < 4 → total l < 1000000 → count_of l k + 1 < 4294967296
part l zero h t = omega arith
part l (suc zero) h t = omega arith
part l (suc (suc zero)) h t = omega arith
part l (suc (suc (suc zero))) h t = omega arith
part l (suc (suc (suc (suc k)))) h t = absurd (many k h)
  where
    many : (k : ℕ) → suc (suc (suc (suc k))) < 4 → ⊥
    many k h = omega arith

beside : (k c : ℕ) → (c ≡ k → ⊥) → (4 * k + 4 ≤ 4 * c) ⊎ (4 * c + 4 ≤ 4 * k)
beside k c h = go (ltb k c) (ltb→lt k c) (nltb→le k c)
  where
    go : (b : Bool) → (T b → k < c) → (T (not b) → c ≤ k) → (4 * k + 4 ≤ 4 * c) ⊎ (4 * c + 4 ≤ 4 * k)
    go true y n = inl (omega (arith, y tt))
    go false y n = inr (omega (arith, n tt))

-- 1 where the two are the same
abbrev same : ℕ → ℕ → ℕ
same k c = cond (eqb c k) 1 0

module _ (l : List ℕ) (c : ℕ) (small : c < 4) (e : length l ≡ 16) (t : total l < 1000000) where
  more_count : (k : ℕ) → count_of (more l c) k ≡ count_of l k + same k c
  unfolding more
  more_count k = go (eqb c k) (eqb→eq c k) (λ (f : T (not (eqb c k))) (p : c ≡ k). T_not (eqb c k) f (subst T (sym (eq-eqb c k p)) tt))
    where
      go : (b : Bool) → (T b → c ≡ k) → (T (not b) → c ≡ k → ⊥) → count_of (more l c) k ≡ count_of l k + cond b 1 0
      go true y n =
          subst (λ (j : ℕ). count_of (more l c) j ≡ count_of l j + 1) (y tt)
          (word_put l (4 * c) (count_of l c + 1) (omega arith) (part l c small t))
      go false y n = word_other l (4 * c) (count_of l c + 1) (4 * k) (beside k c (n tt)) ∙ sym (add-zero (count_of l k))

  more_length : length (more l c) ≡ 16
  unfolding more
  more_length = put_length l (4 * c) (count_of l c + 1) ∙ e

once : (c : ℕ) → c < 4 → same 0 c + same 1 c + same 2 c + same 3 c ≡ 1
once zero h = refl
once (suc zero) h = refl
once (suc (suc zero)) h = refl
once (suc (suc (suc zero))) h = refl
once (suc (suc (suc (suc c)))) h = absurd (omega arith)

more_total : (l : List ℕ) (c : ℕ) → c < 4 → length l ≡ 16 → total l < 1000000 → total (more l c) ≡ total l + 1
more_total l c small e t =
    let a = more_count l c small e t 0 in
    let b = more_count l c small e t 1 in
    let d = more_count l c small e t 2 in
    let f = more_count l c small e t 3 in
    let o = once c small in
    omega arith

-- ---- one call

sixteen : (k : ℕ) → k < 4 → 16 ≡ k → ⊥
sixteen k h e = omega arith

-- sixteen bytes are full exactly at the total
full_is : (l : List ℕ) → length l ≡ 16 → is_full l ≡ leb 1000000 (total l)
unfolding is_full
full_is l e = ap (λ (b : Bool). not b || leb 1000000 (total l)) (eq-eqb (length l) 16 e)

module _ (s l : List ℕ) where
  abbrev c : ℕ
  c = light_number (Ok (colour_of (verdict_of s)))

  full_left : is_full l ≡ true → left_of s l ≡ l
  unfolding left_of
  full_left h = ap (λ (b : Bool). cond b l (more l c)) h

  open_left : is_full l ≡ false → left_of s l ≡ more l c
  unfolding left_of
  open_left h = ap (λ (b : Bool). cond b l (more l c)) h

  module _ (e : length l ≡ 16) where
    below : is_full l ≡ false → total l < 1000000
    below h = leb-false 1000000 (total l) (sym (full_is l e) ∙ h)

    step : (k : ℕ) → k < 4 → (count_of (left_of s l) k ≡ count_of l k + one k (light_of s l)) × (length (left_of s l) ≡ 16)
    step k small = go (is_full l) refl
      where
        go : (b : Bool) → is_full l ≡ b → (count_of (left_of s l) k ≡ count_of l k + one k (light_of s l)) × (length (left_of s l) ≡ 16)
        go true h = (
          ap (λ (m : List ℕ). count_of m k) (full_left h) ∙ sym (add-zero (count_of l k))
              ∙ ap (λ (b : Bool). count_of l k + cond b 1 0) (sym (ne_eqb 16 k (sixteen k small)))
              ∙ ap (λ (r : Lit). count_of l k + one k r) (sym (full_light s l h)),
          ap length (full_left h) ∙ e,
        )
        go false h = (
          ap (λ (m : List ℕ). count_of m k) (open_left h) ∙ more_count l c (colour_lt (verdict_of s)) e (below h) k
              ∙ ap (λ (r : Lit). count_of l k + one k r) (sym (open_light s l h)),
          ap length (open_left h) ∙ more_length l c (colour_lt (verdict_of s)) e (below h),
        )

    grows : is_full l ≡ false → total (left_of s l) ≡ total l + 1
    grows h = ap total (open_left h) ∙ more_total l c (colour_lt (verdict_of s)) e (below h)

-- ---- many calls

pub tallied : (k : ℕ) → k < 4 → (ss : List (List ℕ)) (l : List ℕ) → length l ≡ 16 → count_of (after ss l) k ≡ count_of l k + times k ss l
tallied k h [] l e = sym (add-zero (count_of l k))
tallied k h (s ∷ ss) l e =
    let p = step s l e k h in
    tallied k h ss (left_of s l) p.1 ∙ ap (λ (n : ℕ). n + times k ss (left_of s l)) p.0
    ∙ add_assoc (count_of l k) (one k (light_of s l)) (times k ss (left_of s l))

after_length : (ss : List (List ℕ)) (l : List ℕ) → length l ≡ 16 → length (after ss l) ≡ 16
after_length [] l e = e
after_length (s ∷ ss) l e = after_length ss (left_of s l) (step s l e 0 (omega arith)).1

open_at : (l : List ℕ) → length l ≡ 16 → total l < 1000000 → is_full l ≡ false
open_at l e h = full_is l e ∙ lt-leb 1000000 (total l) h

full_at : (l : List ℕ) → length l ≡ 16 → 1000000 ≤ total l → is_full l ≡ true
full_at l e h = full_is l e ∙ le-leb 1000000 (total l) h

each_counted : (ss : List (List ℕ)) (l : List ℕ) → length l ≡ 16 → total l + length ss ≤ 1000000 → total (after ss l) ≡ total l + length ss
each_counted [] l e h = sym (add-zero (total l))
each_counted (s ∷ ss) l e h =
    let g = grows s l e (open_at l e (omega arith)) in
    let i = each_counted ss (left_of s l) (step s l e 0 (omega arith)).1 (omega arith) in
    omega arith

filled : (ss : List (List ℕ)) (l : List ℕ) → length l ≡ 16 → total l ≤ 1000000 → 1000000 ≤ total l + length ss →
    total (after ss l) ≡ 1000000
filled [] l e h g = omega arith
filled (s ∷ ss) l e h g = go (is_full l) refl (filled ss)
  where
    go : (b : Bool) → is_full l ≡ b
        → ((m : List ℕ) → length m ≡ 16 → total m ≤ 1000000 → 1000000 ≤ total m + length ss → total (after ss m) ≡ 1000000)
        → total (after ss (left_of s l)) ≡ 1000000
    go true p rest =
        ap (λ (m : List ℕ). total (after ss m)) (full_left s l p)
        ∙ rest l e h (let k = leb-true 1000000 (total l) (sym (full_is l e) ∙ p) in omega arith)
    go false p rest =
        let k = below s l e p in
        let j = grows s l e p in
        rest (left_of s l) (step s l e 0 (omega arith)).1 (omega arith) (omega arith)

nought : (k : ℕ) → k < 4 → count_of zeros k ≡ 0
nought zero h = refl
nought (suc zero) h = refl
nought (suc (suc zero)) h = refl
nought (suc (suc (suc zero))) h = refl
nought (suc (suc (suc (suc k)))) h = absurd (omega arith)

-- from sixteen zeros and over any calls, each count is how often its colour was answered
pub from_zeros : (k : ℕ) → k < 4 → (ss : List (List ℕ)) → count_of (after ss zeros) k ≡ times k ss zeros
from_zeros k h ss = tallied k h ss zeros refl ∙ ap (λ (n : ℕ). n + times k ss zeros) (nought k h) ∙ zero-add (times k ss zeros)

-- fewer than a million calls leave room for one more; from the millionth on there is none
pub first_million : (ss : List (List ℕ)) (s : List ℕ) → length ss < 1000000 → light_of s (after ss zeros) ≡ Ok (colour_of (verdict_of s))
first_million ss s h =
    let t = each_counted ss zeros refl (omega arith) in
    open_light s (after ss zeros) (open_at (after ss zeros) (after_length ss zeros refl) (omega arith))

pub then_none : (ss : List (List ℕ)) (s : List ℕ) → 1000000 ≤ length ss →
    (light_of s (after ss zeros) ≡ Err Uncounted) × (left_of s (after ss zeros) ≡ after ss zeros)
then_none ss s h =
    let t = filled ss zeros refl (omega arith) (omega arith) in
    let f = full_at (after ss zeros) (after_length ss zeros refl) (omega arith) in
    (full_light s (after ss zeros) f, full_left s (after ss zeros) f)

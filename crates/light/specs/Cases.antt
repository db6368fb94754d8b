-- What the tests of a call say, and a colour's number. What a call answers and leaves by them stands in `CasesProof`. Assumes nothing.
use Rattle.std.specs.Prelude.{◌≡◌, refl, Bool, true, false, not, ◌||◌, List, ℕ, ◌<◌, eqb, leb, length, Err, Ok}
use Rattle.std.proofs.Common.{sym, ◌∙◌, arith, eq-eqb, ne_eqb, eqb-true}
use Rattle.std.proofs.Math.Path.{ap}
use Rattle.questions.specs.Answers.{verdict_of}
use Rattle.questions.specs.Types.{Concluded}
use Rattle.questions.specs.declared.Verdict.TheVariants as verdict
use Rattle.light.specs.Light.{light_number, colour_of, total, is_full}
use Rattle.light.specs.declared.Light.{Light}

-- a call's answer o, which is j, by the case x that it came out as
pub by_case : {A B : Type 0} (f : A → B) {o j x : A} {y : B} → o ≡ j → o ≡ x → y ≡ f x → y ≡ f j
by_case f e q p = p ∙ ap f (sym q ∙ e)

pub wrong_length : (l : List ℕ) → (length l ≡ 16 → ⊥) → true ≡ is_full l
unfolding is_full
wrong_length l h = ap (λ (b : Bool). not b || leb 1000000 (total l)) (sym (ne_eqb (length l) 16 h))

pub by_sum : (l : List ℕ) {b : Bool} {n : ℕ} → length l ≡ 16 → n ≡ total l → b ≡ leb 1000000 n → b ≡ is_full l
unfolding is_full
by_sum l h e p = p ∙ ap (λ (k : ℕ). leb 1000000 k) e ∙ ap (λ (b : Bool). not b || leb 1000000 (total l)) (sym (eq-eqb (length l) 16 h))

-- counts that are not full are sixteen bytes
pub sixteen : (l : List ℕ) {b : Bool} → b ≡ is_full l → b ≡ false → length l ≡ 16
unfolding is_full
sixteen l e p = go (eqb (length l) 16) (eqb-true (length l) 16) (sym e ∙ p)
  where
    go : (b : Bool) → (b ≡ true → length l ≡ 16) → (not b || leb 1000000 (total l)) ≡ false → length l ≡ 16
    go true f h = f refl
    go false f h = let k : ◌≡◌ {A = ℕ} 0 1 = cc in absurd (omega arith)

-- a verdict's colour is one of four
pub colour_lt : (v : Concluded) → light_number (Ok (colour_of v)) < 4
colour_lt (Ok (verdict.Cross u v f)) = omega arith
colour_lt (Ok (verdict.AInB p)) = omega arith
colour_lt (Ok (verdict.BInA p)) = omega arith
colour_lt (Ok verdict.Apart) = omega arith
colour_lt (Err r) = omega arith

pub counts_one : (s l : List ℕ) {b : Bool} {r : Light} {k : ℕ} → b ≡ is_full l → b ≡ false → r ≡ colour_of (verdict_of s) → k ≡ light_number (Ok r) →
    (length l ≡ 16) × (k < 4)
counts_one s l e p q n = (sixteen l e p, rw (n, q) (colour_lt (verdict_of s)))

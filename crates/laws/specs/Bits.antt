-- Laws of the bit operations that `lib.Bits` lacks: and is associative, and what is in a word is in it or another. Assumes nothing.
use Rattle.std.specs.Prelude.{◌≡◌, refl, ℕ, ◌+◌, ◌*◌, ◌/◌, ◌%◌, min, max}
use Rattle.std.proofs.Common.{sym, ap, ap₂, ◌∙◌, div-add-mod', arith}
use Rattle.std.proofs.Math.Arith.{bin_ind}
use Rattle.std.specs.Int.Bits.{bit_and, bit_or, and_step, or_step, and_zero_r}
use Rattle.std.proofs.lemmas.Nat.{and_shr, or_shr}

-- the lowest digit
and_digit : (a b : ℕ) → bit_and a b % 2 ≡ min (a % 2) (b % 2)
and_digit a b = omega (arith, and_step a b)

or_digit : (a b : ℕ) → bit_or a b % 2 ≡ max (a % 2) (b % 2)
or_digit a b = omega (arith, or_step a b)

joined : {q r x y : ℕ} → q ≡ r → x ≡ y → q * 2 + x ≡ r * 2 + y
joined p q = ap₂ (λ (a b : ℕ). a * 2 + b) p q

pub and_assoc : (a b c : ℕ) → bit_and (bit_and a b) c ≡ bit_and a (bit_and b c)
and_assoc =
    bin_ind (λ (n : ℕ). (b c : ℕ) → bit_and (bit_and n b) c ≡ bit_and n (bit_and b c)) (λ b c. refl)
    (λ n before b c.
    and_step (bit_and n b) c
    ∙ joined
    (ap (λ (x : ℕ). bit_and x (c / 2)) (and_shr n b 1) ∙ before (b / 2) (c / 2) ∙ ap (bit_and (n / 2)) (sym (and_shr b c 1)))
    (omega (arith, and_digit n b, and_digit b c))
    ∙ sym (and_step n (bit_and b c)))

pub and_or : (a b : ℕ) → bit_and (bit_or a b) a ≡ a
and_or =
    bin_ind (λ (n : ℕ). (b : ℕ) → bit_and (bit_or n b) n ≡ n) (λ b. and_zero_r b)
    (λ n before b.
    and_step (bit_or n b) n
    ∙ joined (ap (λ (x : ℕ). bit_and x (n / 2)) (or_shr n b 1) ∙ before (b / 2)) (omega (arith, or_digit n b))
    ∙ div-add-mod' n 2)

-- What one turn of a loop that renders adds: a word's next byte, a decimal's digit before those that stand; and the whole. Assumes nothing.
use Rattle.std.specs.Prelude.{ℕ, ◌+◌, ◌/◌, ◌%◌, ◌≤◌, ◌<◌, min, ◌≡◌, List, [], ◌∷◌, ℤ, pos, negsuc, take, get_or}
use Rattle.std.proofs.Common.{sym, ◌∙◌, subst, add-one, arith, SFits, take-suc, take_all}
use Rattle.std.proofs.Math.Path.{ap, ap₂}
use Rattle.std.proofs.Math.Bool.{true, false}
use Rattle.std.proofs.Math.Dec.{T, ltb→lt}
use Rattle.std.proofs.Math.IntN.{nat_abs}
use Rattle.std.specs.Int.Signed.{lt_z}
use Rattle.std.specs.Int.{w64}
use Rattle.std.proofs.lemmas.Int.{to_z-of_z}
use Rattle.std.proofs.Math.ListN.{length, set}
use Rattle.print.specs.Put.{put, behind, Put, puts, put_length, end_to_end, put_last}
use Rattle.print.specs.Size.{reread, plain, cast_size}
use Rattle.print.specs.Text.{digit, decimal, signed_decimal}
use Rattle.print.specs.Decimal.{decimal_small, decimal_more, decimal_length_more}

module _ {l : List ℕ} {at : ℕ} (w : List ℕ) (i : ℕ) {m : List ℕ} {p : ℕ} (so_far : Put l at (take i w) m p) where
  pub word_more : i < length w → {n : List ℕ} {q : ℕ} → Put m p (get_or w i 0 ∷ []) n q → Put l at (take (i + 1) w) n q
  word_more h {n} {q} x =
      subst (λ (t : List ℕ). Put l at t n q) (sym (take-suc w i 0 h) ∙ ap (λ (k : ℕ). take k w) (sym (add-one i))) (end_to_end so_far x)

  pub word_all : length w ≤ i → Put l at w m p
  word_all h = subst (λ (t : List ℕ). Put l at t m p) (take_all i w h) so_far

module _ (l : List ℕ) (at n : ℕ) (i : ℕ) {m : List ℕ} {b : ℕ} where
  pub digit_more : 10 ≤ n → i + 1 ≡ length (decimal n) → b ≡ digit (n % 10) → m ≡ set l (at + i) b →
      put m at (decimal (n / 10)) ≡ put l at (decimal n)
  digit_more h k e d =
      let j : i ≡ length (decimal (n / 10)) = omega (arith, decimal_length_more n h) in
      ap (λ (x : List ℕ). put x at (decimal (n / 10))) (d ∙ ap₂ (λ (x y : ℕ). set l (at + x) y) j e)
      ∙ put_last l at (decimal (n / 10)) (digit (n % 10)) ∙ ap (put l at) (sym (decimal_more n h))

  pub digit_first : n < 10 → b ≡ digit n → m ≡ set l (at + 0) b → m ≡ put l at (decimal n)
  unfolding put
  digit_first h e d = d ∙ ap₂ (λ (x y : ℕ). set l x y) (omega arith) e ∙ ap (put l at) (sym (decimal_small n h))

-- a number's last digit behind the others
module _ {l : List ℕ} {at : ℕ} (n : ℕ) {b : ℕ} {m : List ℕ} {p : ℕ} where
  pub one_digit : n < 10 → b ≡ digit n → Put l at (b ∷ []) m p → Put l at (decimal n) m p
  one_digit h e x = rw (decimal_small n h, ← e) x

  pub digit_behind : 10 ≤ n → b ≡ digit (n % 10) → Put l at (decimal (n / 10)) m p → {k : List ℕ} {q : ℕ} → Put m p (b ∷ []) k q →
      Put l at (decimal n) k q
  digit_behind h e x y = rw (decimal_more n h, ← e) (end_to_end x y)

-- the whole of a number, and one with its sign
module _ {l : List ℕ} {at : ℕ} where
  pub number_put : (n : ℕ) {m : List ℕ} {k j r : ℕ} → m ≡ put l at (decimal n) → k ≡ length (decimal n) → j ≡ length m →
      r ≡ min (at + k) j → Put l at (decimal n) m r
  unfolding behind
  number_put n h e d x = let f = ap length h ∙ put_length l at (decimal n) in puts h (omega arith)

  module _ {z : ℤ} (fits : SFits w64 z) {k : ℕ} (size : k ≡ nat_abs (reread z)) where
    pub minus_put : lt_z (reread z) (pos 0) ≡ true → {m n : List ℕ} {p q : ℕ} → Put l at (45 ∷ []) m p → Put m p (decimal k) n q →
        Put l at (signed_decimal z) n q
    unfolding signed_decimal
    minus_put t {n} {q} x y = go z (plain fits t) (size ∙ cast_size fits)
      where
        go : (z : ℤ) → lt_z z (pos 0) ≡ true → k ≡ nat_abs z → Put l at (signed_decimal z) n q
        go (pos n) t e = absurd (omega (arith, ltb→lt n 0 (subst T (sym t) tt)))
        go (negsuc n) t e = rw (← e) (end_to_end x y)

    pub plus_put : lt_z (reread z) (pos 0) ≡ false → {m : List ℕ} {p : ℕ} → Put l at (decimal k) m p → Put l at (signed_decimal z) m p
    unfolding signed_decimal
    plus_put t {m} {p} x = go z (plain fits t) (size ∙ cast_size fits)
      where
        go : (z : ℤ) → lt_z z (pos 0) ≡ false → k ≡ nat_abs z → Put l at (signed_decimal z) m p
        go (pos n) t e = rw (← e) x
        go (negsuc n) t e = absurd (subst T t tt)

  -- a signed number that is handed on is read again from its bits
  pub signed_put : {z : ℤ} → SFits w64 z → {m : List ℕ} {p : ℕ} → Put l at (signed_decimal (reread z)) m p → Put l at (signed_decimal z) m p
  signed_put {z} fits {m} {p} x = subst (λ (y : ℤ). Put l at (signed_decimal y) m p) (to_z-of_z w64 z fits) x

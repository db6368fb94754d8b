-- What there is room for is copied; the rest of the word, if any, finds the buffer full.
use Rattle.std.proofs.Common.{ℕ, ◌+◌, ◌-◌, ◌≤◌, ◌<◌, min, ◌≡◌, List, ◌++◌, length, take, drop, sym, ◌∙◌, ap, subst, arith, length-take}
use Rattle.std.proofs.Math.Decide.{dec_lt}
use Rattle.std.proofs.lemmas.List.{take-append-drop, drop_all}
use Rattle.std.proofs.lemmas.Slice.{overwrites}
use Rattle.std.proofs.lemmas.Grind.{common_steps}
use Rattle.print.specs.Put.{Put, puts, put_fits, behind_fits, put_nothing, put_full, end_to_end}
use Rattle.print.proofs.word.Goals as goal

copied : (l : List ℕ) (at : ℕ) (w : List ℕ) (n : ℕ) (m : List ℕ) → at ≤ length l → n ≡ min (length w) (length l - at) →
    m ≡ take at l ++ take n w ++ drop (at + n) l → Put l at w m (at + n)
copied l at w n m h k e = subst (λ (t : List ℕ). Put l at t m (at + n)) (take-append-drop n w) (end_to_end first (rest (dec_lt n (length w))))
  where
    size : length (take n w) ≡ n
    size = omega (arith, length-take n w)

    first : Put l at (take n w) m (at + n)
    first =
        let fits : at + length (take n w) ≤ length l = omega (arith, size) in
        let here : at + length (take n w) ≡ at + n = omega (arith, size) in
        puts
        (e ∙ ap (λ (k : ℕ). take at l ++ take n w ++ drop k l) (sym here) ∙ sym (put_fits l at (take n w) fits))
        (sym (behind_fits l at (take n w) fits ∙ here))

    rest : Dec (n < length w) → Put m (at + n) (drop n w) m (at + n)
    rest (yes p) =
        let kept = first.kept in
        let full : length m ≡ at + n = omega arith in
        subst (λ (q : ℕ). Put m (at + n) (drop n w) m q) full (put_full m (at + n) (drop n w) (omega arith))
    rest (no p) = rw (drop_all n w (omega arith)) (put_nothing m (at + n) first.within)

pub returns-then-out-at : goal.returns-then-out-at
returns-then-out-at c = put_full _ _ _ c.if-out-at.true

pub returns : goal.returns
returns c = copied _ _ _ _ _ (omega arith) c.min-n.ensures (grind (arith, common_steps, overwrites))

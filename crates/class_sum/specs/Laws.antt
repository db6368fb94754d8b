-- What a turn of the search for a total that reaches the largest number says. Assumes nothing.
use Rattle.std.specs.Prelude.{◌≡◌, Bool, true, false, List, ℕ, ◌+◌, ◌≤◌, ◌<◌, length, get_or, drop, Result, Ok}
use Rattle.std.proofs.Math.Path.{sym}
use Rattle.std.proofs.Common.{ap, ◌∙◌, add-one, rules, le-leb, drop_of_length-le, drop-cons}
use Rattle.std.proofs.lemmas.Bool.{lt-leb}
use Rattle.class_tally.specs.declared.Tally.{Tally}
use Rattle.class_tally.specs.Tally.{Report}
use Rattle.off_items.specs.Numbers.{largest}
use Rattle.class_sum.specs.declared.SumError.{SumError}
use Rattle.class_sum.specs.Merged.{reaches}

module _ (l : List ℕ) (i : ℕ) {w : Bool} (inv : reaches (drop i l) ≡ w) where
  pub reaches_end : length l ≤ i → false ≡ w
  unfolding reaches
  reaches_end h = sym (ap reaches (drop_of_length-le l h)) ∙ inv

  pub reaches_found : i < length l → largest ≤ get_or l i 0 → true ≡ w
  unfolding reaches
  reaches_found h k = sym (ap reaches (drop-cons l i 0 h) ∙ rw (le-leb largest (get_or l i 0) k)) ∙ inv

  pub reaches_next : i < length l → get_or l i 0 < largest → reaches (drop (i + 1) l) ≡ w
  unfolding reaches
  reaches_next h k = rw (add-one i) (sym (ap reaches (drop-cons l i 0 h) ∙ rw (lt-leb largest (get_or l i 0) k)) ∙ inv)

pub ruleset reaching = (reaches_end, reaches_found, reaches_next, rules)

pub sum_of_tally : {t u : Tally} → t ≡ u → ◌≡◌ {A = Result Report SumError} (Ok (Ok t)) (Ok (Ok u))
sum_of_tally e = ap (λ (t : Tally). Ok (Ok t)) e

-- The mean, by whether a scene was accepted. Assumes nothing.
use Rattle.std.specs.Prelude.{◌≡◌, refl, ℕ, zero, suc, ◌/◌, ◌%◌}
use Rattle.class_tally.specs.Tally.{mean_over, mean_of}
use Rattle.class_tally.specs.declared.Tally.{Tally}

pub mean_none : (t : Tally) → t.accepted ≡ 0 → record { whole = 0; remainder = 0; divisor = 0 } ≡ mean_of t
unfolding mean_of
mean_none t h = rw h

mean_over_law : (p n : ℕ) → (n ≡ 0 → ⊥) → record { whole = p / n; remainder = p % n; divisor = n } ≡ mean_over p n
mean_over_law p zero h = absurd (h refl)
mean_over_law p (suc n) h = refl

pub mean_some : (t : Tally) → (t.accepted ≡ 0 → ⊥) →
    record { whole = t.pairs / t.accepted; remainder = t.pairs % t.accepted; divisor = t.accepted } ≡ mean_of t
unfolding mean_of
mean_some t h = mean_over_law t.pairs t.accepted h

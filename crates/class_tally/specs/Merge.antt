-- Tallies that are the same line by line are one. Assumes nothing.
use Rattle.std.specs.Prelude.{◌≡◌, ℕ, ◌+◌, ◌<◌}
use Rattle.std.proofs.Common.{lit<}
use Rattle.class_tally.specs.Tally.{made}

-- two tallies whose 15 lines and pairs are the same
pub made_same : (f g : ℕ → ℕ) {p q : ℕ} → ((k : ℕ) → k < 15 → f k ≡ g k) → p ≡ q → made f p ≡ made g q
made_same f g h e = λ i.
    record {
      scenes = h 0 (lit< tt) i;
      cross = h 1 (lit< tt) i;
      a_in_b = h 2 (lit< tt) i;
      b_in_a = h 3 (lit< tt) i;
      apart = h 4 (lit< tt) i;
      refused_1 = h 5 (lit< tt) i;
      refused_2 = h 6 (lit< tt) i;
      refused_3 = h 7 (lit< tt) i;
      refused_4 = h 8 (lit< tt) i;
      refused_5 = h 9 (lit< tt) i;
      refused_6 = h 10 (lit< tt) i;
      refused_7 = h 11 (lit< tt) i;
      refused_8 = h 12 (lit< tt) i;
      refused_9 = h 13 (lit< tt) i;
      refused_14 = h 14 (lit< tt) i;
      accepted = h 1 (lit< tt) i + h 2 (lit< tt) i + h 3 (lit< tt) i + h 4 (lit< tt) i;
      pairs = e i;
    }

-- What is kept when neighbours change places need only be shown where the highest of four points stands last. Assumes nothing.
use Rattle.std.proofs.Common.{⊎_elim, eq-or-lt_of_le, arith}
use Rattle.std.specs.Prelude.{◌≢◌, ◌≡◌, ℕ, ◌<◌}
use Rattle.orient.specs.Signs.{Four, Upto, ne_sym}

below_other : {n i j : ℕ} → Upto n j → i ≢ j → i ≡ n → j < n
below_other h k e = omega arith

module _ (n : ℕ) (P : (a b c d : ℕ) → Type 0) where
  abbrev In : (a b c d : ℕ) → Type 0
  In = Four (Upto n)

  pub record Kept : Type 0 where
    pub swap1 : (a b c d : ℕ) → In a b c d → P b a c d → P a b c d
    pub swap2 : (a b c d : ℕ) → In a b c d → P a c b d → P a b c d
    pub swap3 : (a b c d : ℕ) → In a b c d → P a b d c → P a b c d

  module _ (kept : Kept) (last : (a b c d : ℕ) → In a b c d → a < n → b < n → c < n → P a b c d) where
    third : (a b c d : ℕ) → In a b c d → a < n → b < n → P a b c d
    third a b c d f an bn =
        ⊎_elim (λ e. kept.swap3 a b c d f (last a b d c (search ne_sym) an bn (below_other f.d_in f.cd e))) (last a b c d f an bn)
        (eq-or-lt_of_le f.c_in.1)

    second : (a b c d : ℕ) → In a b c d → a < n → P a b c d
    second a b c d f an =
        ⊎_elim (λ e. kept.swap2 a b c d f (third a c b d (search ne_sym) an (below_other f.c_in f.bc e))) (third a b c d f an)
        (eq-or-lt_of_le f.b_in.1)

    pub by_highest : (a b c d : ℕ) → In a b c d → P a b c d
    by_highest a b c d f =
        ⊎_elim (λ e. kept.swap1 a b c d f (second b a c d (search ne_sym) (below_other f.b_in f.ab e))) (second a b c d f)
        (eq-or-lt_of_le f.a_in.1)

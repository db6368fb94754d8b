-- What is kept when neighbours change places need only be shown of four points in rising order. Assumes nothing.
use Rattle.std.specs.Prelude.{ℕ, ◌<◌}
use Rattle.std.proofs.Math.Decide.{dec_lt}
use Rattle.std.proofs.Common.{arith}
use Rattle.orient.specs.Signs.{Four, Upto, ne_sym}
use Rattle.orient.specs.Highest.{Kept}

module _ (n : ℕ) (P : (a b c d : ℕ) → Type 0) (kept : Kept n P)
    (sorted : (a b c d : ℕ) → Four (Upto n) a b c d → a < b → b < c → c < d → P a b c d) where
  abbrev In : (a b c d : ℕ) → Type 0
  In = Four (Upto n)

  -- the first three rise; the first two do
  last : (a b c d : ℕ) → In a b c d → a < b → b < c → P a b c d
  last a b c d f ab bc = by (dec_lt c d) (dec_lt b d) (dec_lt a d)
    where
      by : Dec (c < d) → Dec (b < d) → Dec (a < d) → P a b c d
      by (yes h) k l = sorted a b c d f ab bc h
      by (no h) (yes k) l = kept.swap3 a b c d f (sorted a b d c (search ne_sym) ab k (let e = f.cd in omega arith))
      by (no h) (no k) (yes l) =
          kept.swap3 a b c d f
          (kept.swap2 a b d c (search ne_sym) (sorted a d b c (search ne_sym) l (let e = f.bd in omega arith) bc))
      by (no h) (no k) (no l) =
          kept.swap3 a b c d f
          (kept.swap2 a b d c (search ne_sym)
          (kept.swap1 a d b c (search ne_sym) (sorted d a b c (search ne_sym) (let e = f.ad in omega arith) ab bc)))

  third : (a b c d : ℕ) → In a b c d → a < b → P a b c d
  third a b c d f ab = by (dec_lt b c) (dec_lt a c)
    where
      by : Dec (b < c) → Dec (a < c) → P a b c d
      by (yes h) k = last a b c d f ab h
      by (no h) (yes k) = kept.swap2 a b c d f (last a c b d (search ne_sym) k (let e = f.bc in omega arith))
      by (no h) (no k) =
          kept.swap2 a b c d f (kept.swap1 a c b d (search ne_sym) (last c a b d (search ne_sym) (let e = f.ac in omega arith) ab))

  pub by_rising : (a b c d : ℕ) → In a b c d → P a b c d
  by_rising a b c d f = by (dec_lt a b)
    where
      by : Dec (a < b) → P a b c d
      by (yes h) = third a b c d f h
      by (no h) = kept.swap1 a b c d f (third b a c d (search ne_sym) (let e = f.ab in omega arith))

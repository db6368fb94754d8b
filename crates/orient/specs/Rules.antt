-- The signs of a scene's points obey the rules, whatever the size of its numbers, since the shift is real: with 1/N for the infinitesimal,
-- for every large enough whole N, the determinants of four different points are not zero and have these signs. Assumes nothing.
use Rattle.std.specs.Prelude.{◌≡◌, ◌≢◌, ℤ, pos, nat_abs}
use Prim.Native.Nat.{ℕ, zero, suc, ◌+◌}
use Rattle.laws.specs.Sign.{sign}
use Rattle.scene.specs.Limits.{Limits}
use Rattle.scene.specs.declared.Row.{Row}
use Rattle.orient.specs.Signs.{Four, Upto}
use Rattle.orient.specs.Terms.{is_plus, point_at, positive_at}
use Rattle.orient.specs.Sizes.{size1, size2, size3}
use Rattle.orient.specs.Whole.{whole_det}

-- the determinant of four points' rows of whole numbers, where e is 1/N
abbrev pub whole_at : ℕ → (ℕ → Row) → (a b c d : ℕ) → ℤ
whole_at N row a b c d = whole_det (pos N) (point_at row a) (point_at row b) (point_at row c) (point_at row d)

-- ---- a number that is large enough

unfoldable pub total : (ℕ → ℕ) → ℕ → ℕ
total f zero = 0
total f (suc n) = total f n + f (suc n)

module _ (n : ℕ) (row : ℕ → Row) where
  abbrev pub size : ℕ → ℕ
  size i = nat_abs (row i).x + nat_abs (row i).y + nat_abs (row i).z + nat_abs (row i).w

  -- limits that these points keep
  abbrev pub kept : Limits
  kept =
      record {
        least_vertices = 0;
        most_vertices = n;
        least_faces = 0;
        most_faces = 0;
        most_coordinate = total size n;
        most_weight = suc (total size n);
      }

  unfoldable pub enough : ℕ
  enough = size1 kept + size2 kept + size3 kept

-- ---- the shift is real, and so the rules hold

pub record Real (n : ℕ) (row : ℕ → Row) (N : ℕ) : Type 0 where
  pub nonzero : (a b c d : ℕ) → Four (Upto n) a b c d → whole_at N row a b c d ≢ pos 0
  pub signs : (a b c d : ℕ) → Four (Upto n) a b c d → positive_at row a b c d ≡ is_plus (sign (whole_at N row a b c d))

-- How large the numbers are that a slope is formed from, and c1 by it. Assumes nothing.
use Rattle.std.specs.Prelude.{ℕ, ◌+◌, ◌≤◌, ℤ, nat_abs}
use Rattle.std.proofs.Common.{le_trans, add-le-add, arith, lit≤}
use Rattle.laws.specs.Size.{◌⊕◌}
use Rattle.scene.specs.Limits.{limits, most_points}
use Rattle.scene.specs.Arrays.{AllWithin}
use Rattle.scene.specs.declared.Row.{Row}
use Rattle.orient.specs.Formed.{most_formed, sum_size}
use Rattle.orient.specs.Shifts.{shift_at, most_shift, shift_size}
use Rattle.survey_sides.specs.Planes.{dot_of, plane_of}
use Rattle.survey_sides.specs.Sizes.{PlaneWithin, Upto, coefficient, fourth, plane_size_law, plane_within}
use Rattle.survey_sides.specs.Sizes.{dot_size, dot_size_law, dot_small, row_upto}
use Rattle.survey_sides.specs.Slopes.{sum_of, slope_of}

-- on the way to the sum of three rows, and to that of two numbers
pub record SumWithin (k : ℕ) (a b c : Row) : Type 0 where
  pub x : sum_size a.x b.x c.x ≤ k
  pub y : sum_size a.y b.y c.y ≤ k
  pub z : sum_size a.z b.z c.z ≤ k
  pub w : sum_size a.w b.w c.w ≤ k

abbrev pub plus_size : ℤ → ℤ → ℕ
plus_size a b = nat_abs a + nat_abs b

module _ {A K B L C M : ℕ} {a b c : Row} (p : Upto A K a) (q : Upto B L b) (r : Upto C M c) where
  sum_size_law : Upto (A + B + C) (K + L + M) (sum_of a b c)
  sum_size_law =
      record { x = p.x ⊕ q.x ⊕ r.x; y = p.y ⊕ q.y ⊕ r.y; z = p.z ⊕ q.z ⊕ r.z; w = p.w ⊕ q.w ⊕ r.w }

  pub sum_within : {k : ℕ} → A + B + C + (K + L + M) ≤ k → SumWithin k a b c
  sum_within h =
      record {
        x = le_trans (add-le-add (add-le-add p.x.size q.x.size) r.x.size) (le_trans (omega arith) h);
        y = le_trans (add-le-add (add-le-add p.y.size q.y.size) r.y.size) (le_trans (omega arith) h);
        z = le_trans (add-le-add (add-le-add p.z.size q.z.size) r.z.size) (le_trans (omega arith) h);
        w = le_trans (add-le-add (add-le-add p.w.size q.w.size) r.w.size) (le_trans (omega arith) h);
      }

-- ---- at the limits of a scene

abbrev C : ℕ
C = limits.most_coordinate

abbrev W : ℕ
W = limits.most_weight

abbrev S : ℕ
S = most_shift

-- a slope's coefficients, and the fourth
abbrev steepest : ℕ
steepest = coefficient S 0 C W C W + coefficient C W S 0 C W + coefficient C W C W S 0

abbrev highest : ℕ
highest = fourth S 0 C W C W + fourth C W S 0 C W + fourth C W C W S 0

module _ (row : ℕ → Row) (i j k : ℕ) (v : AllWithin limits row) (hi : i ≤ most_points limits) (hj : j ≤ most_points limits)
    (hk : k ≤ most_points limits) where
  abbrev at : (n : ℕ) → Upto C W (row n)
  at n = row_upto (v n)

  pub first_formed : PlaneWithin most_formed (shift_at row i) (row j) (row k)
  first_formed = plane_within (shift_size row i v hi) (at j) (at k) (lit≤ tt)

  pub second_formed : PlaneWithin most_formed (row i) (shift_at row j) (row k)
  second_formed = plane_within (at i) (shift_size row j v hj) (at k) (lit≤ tt)

  pub third_formed : PlaneWithin most_formed (row i) (row j) (shift_at row k)
  third_formed = plane_within (at i) (at j) (shift_size row k v hk) (lit≤ tt)

  abbrev first_size : Upto (coefficient S 0 C W C W) (fourth S 0 C W C W) (plane_of (shift_at row i) (row j) (row k))
  first_size = plane_size_law (shift_size row i v hi) (at j) (at k)

  abbrev second_size : Upto (coefficient C W S 0 C W) (fourth C W S 0 C W) (plane_of (row i) (shift_at row j) (row k))
  second_size = plane_size_law (at i) (shift_size row j v hj) (at k)

  abbrev third_size : Upto (coefficient C W C W S 0) (fourth C W C W S 0) (plane_of (row i) (row j) (shift_at row k))
  third_size = plane_size_law (at i) (at j) (shift_size row k v hk)

  pub slope_formed :
      SumWithin most_formed (plane_of (shift_at row i) (row j) (row k)) (plane_of (row i) (shift_at row j) (row k))
      (plane_of (row i) (row j) (shift_at row k))
  slope_formed = sum_within first_size second_size third_size (lit≤ tt)

  slope_size : Upto steepest highest (slope_of row i j k)
  unfolding slope_of
  slope_size = sum_size_law first_size second_size third_size

  module _ (m : ℕ) where
    pub slope_dot : dot_size (slope_of row i j k) (row m) ≤ most_formed
    slope_dot = le_trans (dot_size_law slope_size (at m)) (lit≤ tt)

    module _ (hm : m ≤ most_points limits) where
      pub shift_dot : dot_size (plane_of (row i) (row j) (row k)) (shift_at row m) ≤ most_formed
      shift_dot = le_trans (dot_size_law (plane_size_law (at i) (at j) (at k)) (shift_size row m v hm)) (lit≤ tt)

      pub tilt_formed : plus_size (dot_of (slope_of row i j k) (row m)) (dot_of (plane_of (row i) (row j) (row k)) (shift_at row m)) ≤ most_formed
      tilt_formed =
          le_trans
          (add-le-add (dot_small slope_size (at m)).size
          (dot_small (plane_size_law (at i) (at j) (at k)) (shift_size row m v hm)).size) (lit≤ tt)

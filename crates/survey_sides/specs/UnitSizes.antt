-- How large the numbers are that planes and slopes by directions are formed from. Assumes nothing.
use Rattle.std.specs.Prelude.{◌≡◌, ℕ, ◌+◌, ◌*◌, ◌≤◌}
use Rattle.std.proofs.Common.{le_trans, add-le-add, arith, lit≤}
use Rattle.laws.specs.Size.{Small, ◌⊗◌, ◌⊖◌, ◌⊕◌}
use Rattle.scene.specs.Limits.{limits, most_points}
use Rattle.scene.specs.Arrays.{RowWithin, AllWithin}
use Rattle.scene.specs.declared.Row.{Row}
use Rattle.orient.specs.Formed.{most_formed, RowMinusWithin, TripleProductWithin, minor_size_law, alternating_size_law}
use Rattle.orient.specs.Minors.{row_minus, triple_product}
use Rattle.orient.specs.Shifts.{shift_at, most_shift, shift_size}
use Rattle.survey_sides.specs.Sizes.{Upto, row_upto}
use Rattle.survey_sides.specs.SlopeSizes.{SumWithin, sum_within}
use Rattle.survey_sides.specs.Units.{plane_from_directions, level}

-- ---- a direction, and three rows without their weights

module _ {A K B L : ℕ} {a b : Row} (p : Upto A K a) (q : Upto B L b) where
  less_size : Upto (A + B) 0 (row_minus a b)
  less_size = record { x = p.x ⊖ q.x; y = p.y ⊖ q.y; z = p.z ⊖ q.z; w = record { size = lit≤ tt } }

  less_within : {k : ℕ} → A + B ≤ k → RowMinusWithin k a b
  less_within h = record {
    x = le_trans (add-le-add p.x.size q.x.size) h;
    y = le_trans (add-le-add p.y.size q.y.size) h;
    z = le_trans (add-le-add p.z.size q.z.size) h;
  }

-- a minor of two directions, and the determinant with a third row
abbrev minor : (A B : ℕ) → ℕ
minor A B = A * B + A * B

abbrev whole : (A B C : ℕ) → ℕ
whole A B C = C * minor A B + C * minor A B + C * minor A B

module _ {A K B L C M : ℕ} {u v c : Row} (p : Upto A K u) (q : Upto B L v) (r : Upto C M c) where
  triple_small : Small (whole A B C) (triple_product c u v)
  triple_small =
      r.x ⊗ (p.y ⊗ q.z ⊖ p.z ⊗ q.y) ⊖ r.y ⊗ (p.x ⊗ q.z ⊖ p.z ⊗ q.x) ⊕ r.z ⊗ (p.x ⊗ q.y ⊖ p.y ⊗ q.x)

  seen_size : Upto (minor A B) (whole A B C) (plane_from_directions u v c)
  seen_size = record {
    x = p.y ⊗ q.z ⊖ p.z ⊗ q.y;
    y = p.x ⊗ q.z ⊖ p.z ⊗ q.x;
    z = p.x ⊗ q.y ⊖ p.y ⊗ q.x;
    w = triple_small;
  }

  level_size : Upto 0 (whole A B C) (level (triple_product c u v))
  level_size = record { x = record { size = lit≤ tt }; y = record { size = lit≤ tt }; z = record { size = lit≤ tt }; w = triple_small }

  triple_within : {k : ℕ} → minor A B + whole A B C ≤ k → TripleProductWithin k c u v
  triple_within h = record {
    x = le_trans (minor_size_law p.y p.z q.y q.z) (le_trans (omega arith) h);
    y = le_trans (minor_size_law p.x p.z q.x q.z) (le_trans (omega arith) h);
    z = le_trans (minor_size_law p.x p.y q.x q.y) (le_trans (omega arith) h);
    whole =
        le_trans
        (alternating_size_law r.x (p.y ⊗ q.z ⊖ p.z ⊗ q.y) r.y (p.x ⊗ q.z ⊖ p.z ⊗ q.x) r.z (p.x ⊗ q.y ⊖ p.y ⊗ q.x))
        (le_trans (omega arith) h);
  }

-- what is asked of rows that are given by equations
module _ {k : ℕ} {a b c d e f : Row} (p : a ≡ d) (q : b ≡ e) (r : c ≡ f) where
  pub triple_at : TripleProductWithin k d e f → TripleProductWithin k a b c
  triple_at h = rw (p, q, r) h

  pub sum_at : SumWithin k d e f → SumWithin k a b c
  sum_at h = rw (p, q, r) h

-- ---- at the limits of a scene

module _ {a c : Row} (p : RowWithin limits a) (r : RowWithin limits c) where
  pub unit_less : RowMinusWithin most_formed a c
  unit_less = less_within (row_upto p) (row_upto r) (lit≤ tt)

  pub unit_seen : {b : Row} → RowWithin limits b → TripleProductWithin most_formed c (row_minus a c) (row_minus b c)
  unit_seen q =
      triple_within (less_size (row_upto p) (row_upto r)) (less_size (row_upto q) (row_upto r)) (row_upto r) (lit≤ tt)

module _ (row : ℕ → Row) (i j k : ℕ) (v : AllWithin limits row) (hi : i ≤ most_points limits) (hj : j ≤ most_points limits)
    (hk : k ≤ most_points limits) where
  abbrev shifted : (n : ℕ) → n ≤ most_points limits → Upto most_shift 0 (shift_at row n)
  shifted n h = shift_size row n v h

  pub shift_less : RowMinusWithin most_formed (shift_at row i) (shift_at row k)
  shift_less = less_within (shifted i hi) (shifted k hk) (lit≤ tt)

  pub first_seen : TripleProductWithin most_formed (row k) (row_minus (shift_at row i) (shift_at row k)) (row_minus (row j) (row k))
  first_seen =
      triple_within (less_size (shifted i hi) (shifted k hk)) (less_size (row_upto (v j)) (row_upto (v k))) (row_upto (v k)) (lit≤ tt)

  pub second_seen : TripleProductWithin most_formed (row k) (row_minus (row i) (row k)) (row_minus (shift_at row j) (shift_at row k))
  second_seen =
      triple_within (less_size (row_upto (v i)) (row_upto (v k))) (less_size (shifted j hj) (shifted k hk)) (row_upto (v k)) (lit≤ tt)

  pub third_seen : TripleProductWithin most_formed (shift_at row k) (row_minus (row i) (row k)) (row_minus (row j) (row k))
  third_seen =
      triple_within (less_size (row_upto (v i)) (row_upto (v k))) (less_size (row_upto (v j)) (row_upto (v k))) (shifted k hk) (lit≤ tt)

  pub seen_summed :
      SumWithin most_formed (plane_from_directions (row_minus (shift_at row i) (shift_at row k)) (row_minus (row j) (row k)) (row k))
      (plane_from_directions (row_minus (row i) (row k)) (row_minus (shift_at row j) (shift_at row k)) (row k))
      (level (triple_product (shift_at row k) (row_minus (row i) (row k)) (row_minus (row j) (row k))))
  seen_summed =
      sum_within
      (seen_size (less_size (shifted i hi) (shifted k hk)) (less_size (row_upto (v j)) (row_upto (v k))) (row_upto (v k)))
      (seen_size (less_size (row_upto (v i)) (row_upto (v k))) (less_size (shifted j hj) (shifted k hk)) (row_upto (v k)))
      (level_size (less_size (row_upto (v i)) (row_upto (v k))) (less_size (row_upto (v j)) (row_upto (v k))) (shifted k hk))
      (lit≤ tt)

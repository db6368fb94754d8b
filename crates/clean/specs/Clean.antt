-- A scene is clean when no four different points of it have c0 = 0; and how that is told, by four points in rising order. Assumes nothing.
use Rattle.std.specs.Prelude.{◌≡◌, refl, ◌≢◌, ◌↔◌, Bool, true, false, ℕ, zero, suc, ◌+◌, ◌^◌, ◌<◌, eqb, ℤ, pos, negsuc, neg_ℤ, nat_abs}
use Rattle.std.proofs.Common.{sym, ◌∙◌, true≢false, arith, eq-eqb, ne_eqb, to_z, of_z}
use Rattle.std.proofs.Math.Path.{ap}
use Rattle.std.proofs.Math.Decide.{ℕ_discrete}
use Rattle.std.proofs.Math.IntN.{pos-ne-negsuc}
use Rattle.std.specs.Int.Signed.{mag}
use Rattle.std.specs.Int.{w64}
use Rattle.laws.specs.Range.{any_of}
use Rattle.laws.specs.None.{none_iff}
use Rattle.laws.specs.Size.{called}
use Rattle.scene.specs.declared.Row.{Row}
use Rattle.orient.specs.Determinant.{det4}
use Rattle.orient.specs.Columns.{part_of, c0_parts}
use Rattle.orient.specs.Laws.{swap12, swap23, swap34}
use Rattle.orient.specs.Signs.{Four, Upto}
use Rattle.orient.specs.Terms.{c0, point_at}
use Rattle.clean.specs.Planes.{plane_of, dot_of, plane_det}
use Rattle.clean.specs.Sorted.{by_rising}

-- of the points 1 to n, no four different ones have c0 = 0
abbrev pub Clean : ℕ → (ℕ → Row) → Type 0
Clean n row = (a b c d : ℕ) → Four (Upto n) a b c d → c0 (point_at row a) (point_at row b) (point_at row c) (point_at row d) ≢ pos 0

-- c0 is the determinant of the rows
pub c0_rows : (row : ℕ → Row) (a b c d : ℕ) →
    c0 (point_at row a) (point_at row b) (point_at row c) (point_at row d) ≡ det4 (row a) (row b) (row c) (row d)
unfolding part_of
c0_rows row a b c d = c0_parts (point_at row a) (point_at row b) (point_at row c) (point_at row d)

-- ---- the test: four points in rising order, the first of them lowest

abbrev pub is_zero : ℤ → Bool
is_zero (pos zero) = true
is_zero (pos (suc n)) = false
is_zero (negsuc n) = false

-- point d lies in the plane p
abbrev pub in_plane : (ℕ → Row) → Row → ℕ → Bool
in_plane row p d = is_zero (dot_of p (row d))

abbrev pub flat : (ℕ → Row) → (a b c d : ℕ) → Bool
flat row a b c d = is_zero (det4 (row a) (row b) (row c) (row d))

module _ (n : ℕ) (row : ℕ → Row) where
  -- with a, b, c some point behind c; with a and b some two behind b; with a some three behind it; some four
  unfoldable pub flat_with3 : (a b c : ℕ) → Bool
  flat_with3 a b c = any_of (flat row a b c) (c + 1) (n + 1)

  unfoldable pub flat_with2 : (a b : ℕ) → Bool
  flat_with2 a b = any_of (flat_with3 a b) (b + 1) (n + 1)

  unfoldable pub flat_with1 : ℕ → Bool
  flat_with1 a = any_of (flat_with2 a) (a + 1) (n + 1)

  unfoldable pub has_flat : Bool
  has_flat = any_of flat_with1 1 (n + 1)

-- ---- it tells a clean scene

zero_is : (z : ℤ) → is_zero z ≡ false → z ≢ pos 0
zero_is (pos zero) e = absurd (true≢false e)
zero_is (pos (suc n)) e = λ h. omega (arith, ap nat_abs h)
zero_is (negsuc n) e = λ h. pos-ne-negsuc 0 n (sym h)

is_zero_law : (z : ℤ) → z ≢ pos 0 → is_zero z ≡ false
is_zero_law (pos zero) h = absurd (h refl)
is_zero_law (pos (suc n)) h = refl
is_zero_law (negsuc n) h = refl

-- as the code tells it, by the bits of a result r that is z
pub zero_test : {r z : ℤ} → mag r < 2 ^ 63 → r ≡ z → eqb (of_z w64 r) 0 ≡ is_zero z
zero_test {r} {z} ok e = by (ℕ_discrete (of_z w64 r) 0)
  where
    by : Dec (of_z w64 r ≡ 0) → eqb (of_z w64 r) 0 ≡ is_zero z
    by (yes q) = eq-eqb (of_z w64 r) 0 q ∙ sym (ap is_zero (sym (called ok e) ∙ ap (to_z w64) q))
    by (no q) = ne_eqb (of_z w64 r) 0 q ∙ sym (is_zero_law z (λ o. q (ap (of_z w64) (e ∙ o))))

-- a number that is another's negation is not zero where that one is not
turned : {x y : ℤ} → x ≡ neg_ℤ y → x ≢ pos 0 → y ≢ pos 0
turned {x} {y} e h z = h (e ∙ ap neg_ℤ z)

module _ (n : ℕ) (row : ℕ → Row) where
  abbrev Apart : (a b c d : ℕ) → Type 0
  Apart a b c d = det4 (row a) (row b) (row c) (row d) ≢ pos 0

  rising_apart : has_flat n row ≡ false → (a b c d : ℕ) → Four (Upto n) a b c d → a < b → b < c → c < d → Apart a b c d
  unfolding has_flat flat_with1 flat_with2 flat_with3
  rising_apart h a b c d f ab bc cd =
      let e1 = (none_iff (flat_with1 n row) 1 (n + 1)).0 h a f.a_in.0 (let l = f.a_in.1 in omega arith) in
      let e2 = (none_iff (flat_with2 n row a) (a + 1) (n + 1)).0 e1 b (omega arith) (let l = f.b_in.1 in omega arith) in
      let e3 = (none_iff (flat_with3 n row a b) (b + 1) (n + 1)).0 e2 c (omega arith) (let l = f.c_in.1 in omega arith) in
      zero_is (det4 (row a) (row b) (row c) (row d))
      ((none_iff (flat row a b c) (c + 1) (n + 1)).0 e3 d (omega arith) (let l = f.d_in.1 in omega arith))

  all_apart : has_flat n row ≡ false → (a b c d : ℕ) → Four (Upto n) a b c d → Apart a b c d
  all_apart h =
      by_rising n Apart
      (record {
        swap1 = λ a b c d f k. turned (swap12 (row a) (row b) (row c) (row d)) k;
        swap2 = λ a b c d f k. turned (swap23 (row a) (row b) (row c) (row d)) k;
        swap3 = λ a b c d f k. turned (swap34 (row a) (row b) (row c) (row d)) k;
      })
      (rising_apart h)

  none_flat : ((a b c d : ℕ) → Four (Upto n) a b c d → Apart a b c d) → has_flat n row ≡ false
  unfolding has_flat flat_with1 flat_with2 flat_with3
  none_flat h =
      (none_iff (flat_with1 n row) 1 (n + 1)).1
      (λ a l1 m1. (none_iff (flat_with2 n row a) (a + 1) (n + 1)).1
      (λ b l2 m2. (none_iff (flat_with3 n row a b) (b + 1) (n + 1)).1
      (λ c l3 m3. (none_iff (flat row a b c) (c + 1) (n + 1)).1
      (λ d l4 m4. is_zero_law (det4 (row a) (row b) (row c) (row d)) (h a b c d (omega arith))))))

  pub clean_iff : (has_flat n row ≡ false) ↔ Clean n row
  clean_iff = (
    λ h a b c d f z. all_apart h a b c d f (sym (c0_rows row a b c d) ∙ z),
    λ h. none_flat (λ a b c d f z. h a b c d f (c0_rows row a b c d ∙ z)),
  )

  -- by the plane of three
  pub by_plane : (a b c : ℕ) {p : Row} → p ≡ plane_of (row a) (row b) (row c) → any_of (in_plane row p) (c + 1) (n + 1) ≡ flat_with3 n row a b c
  unfolding flat_with3
  by_plane a b c e =
      ap (λ (p : Row). any_of (in_plane row p) (c + 1) (n + 1)) e
      ∙ (λ i. any_of (λ d. is_zero (plane_det (row a) (row b) (row c) (row d) i)) (c + 1) (n + 1))

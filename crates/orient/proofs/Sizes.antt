-- The four terms are no larger than the limits say (`specs/Sizes.antt`), and at the limits of a scene each fits, as does what is formed on
-- the way to them. Assumes nothing.
use Rattle.std.specs.Prelude.{◌≡◌, Bool, true, false, ℕ, ◌+◌, ◌*◌, ◌^◌, ◌≤◌}
use Rattle.std.proofs.Common.{pow-suc, arith, lit≤}
use Rattle.std.proofs.Math.Nat.{pow-zero}
use Rattle.laws.specs.Size.{Small, ◌⊕◌, below}
use Rattle.scene.specs.Limits.{Limits, limits, most_points}
use Rattle.scene.specs.declared.Row.{Row}
use Rattle.orient.specs.Terms.{c0, c1, c2, c3}
use Rattle.orient.specs.Columns.{row_of, c0_parts, c1_parts, c2_parts, c3_parts}
use Rattle.orient.specs.Formed.{most_formed, DetWithin}
use Rattle.orient.specs.declared.Point.{Point}
use Rattle.orient.specs.Sizes.{AreWithin, part_size, size0, size1, size2, size3, part_size_law, part_within, part_fits}

module _ (n : ℕ) where
  square : n ^ 2 ≡ n * n
  square = rw (pow-suc n 1, pow-suc n 0, pow-zero n) (omega arith)

  cube : n ^ 3 ≡ n * n * n
  cube = rw (pow-suc n 2, square)

  fourth : n ^ 4 ≡ n * n * n * n
  fourth = rw (pow-suc n 3, cube)

  fifth : n ^ 5 ≡ n * n * n * n * n
  fifth = rw (pow-suc n 4, fourth)

  sixth : n ^ 6 ≡ n * n * n * n * n * n
  sixth = rw (pow-suc n 5, fifth)

module _ (C W n : ℕ) where
  powers0 : 24 * (C * C * C * W) ≡ 24 * (C ^ 3 * W)
  powers0 = rw cube (omega arith)

  powers1 : 24 * (W * n * C * C * W) + 24 * (C * (W * n * n) * C * W) + 24 * (C * C * (W * n * n * n) * W)
      ≡ 24 * (C ^ 2 * W ^ 2 * (n ^ 3 + n ^ 2 + n))
  powers1 = simp (square, cube) (omega arith)

  powers2 :
      24 * (W * n * (W * n * n) * C * W) + 24 * (W * n * C * (W * n * n * n) * W) + 24 * (C * (W * n * n) * (W * n * n * n) * W)
      ≡ 24 * (C * W ^ 3 * (n ^ 5 + n ^ 4 + n ^ 3))
  powers2 = simp (cube, fourth, fifth) (omega arith)

  powers3 : 24 * (W * n * (W * n * n) * (W * n * n * n) * W) ≡ 24 * (W ^ 4 * n ^ 6)
  powers3 = simp (fourth, sixth) (omega arith)

module _ (l : Limits) where
  abbrev C : ℕ
  C = l.most_coordinate

  abbrev W : ℕ
  W = l.most_weight

  abbrev n : ℕ
  n = most_points l

  of_size0 : part_size l false false false ≡ size0 l
  of_size0 = powers0 C W n

  of_size1 : part_size l true false false + part_size l false true false + part_size l false false true ≡ size1 l
  of_size1 = powers1 C W n

  of_size2 : part_size l true true false + part_size l true false true + part_size l false true true ≡ size2 l
  of_size2 = powers2 C W n

  of_size3 : part_size l true true true ≡ size3 l
  of_size3 = powers3 C W n

  module _ {a b c d : Point} (hw : 1 ≤ W) (v : AreWithin l a b c d) where
    pub c0_size : Small (size0 l) (c0 a b c d)
    c0_size = rw (c0_parts, ← of_size0) (part_size_law l hw v false false false)

    pub c1_size : Small (size1 l) (c1 a b c d)
    c1_size = rw (c1_parts, ← of_size1) (part_size_law l hw v true false false ⊕ part_size_law l hw v false true false ⊕ part_size_law l hw v false false true)

    pub c2_size : Small (size2 l) (c2 a b c d)
    c2_size = rw (c2_parts, ← of_size2) (part_size_law l hw v true true false ⊕ part_size_law l hw v true false true ⊕ part_size_law l hw v false true true)

    pub c3_size : Small (size3 l) (c3 a b c d)
    c3_size = rw (c3_parts, ← of_size3) (part_size_law l hw v true true true)

-- ---- at the limits of a scene

pub terms_formed : {a b c d : Point} → AreWithin limits a b c d →
    Small most_formed (c0 a b c d) × Small most_formed (c1 a b c d) × Small most_formed (c2 a b c d) × Small most_formed (c3 a b c d)
terms_formed v = (
  below (c0_size limits (lit≤ tt) v) (lit≤ tt),
  below (c1_size limits (lit≤ tt) v) (lit≤ tt),
  below (c2_size limits (lit≤ tt) v) (lit≤ tt),
  below (c3_size limits (lit≤ tt) v) (lit≤ tt),
)

det_below : {j k : ℕ} {a b c d : Row} → j ≤ k → DetWithin j a b c d → DetWithin k a b c d
det_below h v = omega arith

pub part_formed : {a b c d : Point} (sx sy sz : Bool) → AreWithin limits a b c d →
    DetWithin most_formed (row_of a sx sy sz) (row_of b sx sy sz) (row_of c sx sy sz) (row_of d sx sy sz)
part_formed sx sy sz v = det_below (part_fits sx sy sz) (part_within limits (lit≤ tt) v sx sy sz (lit≤ tt))

-- The numbers of a shift, as the machine forms them one by one, and a determinant that `part` gave. Assumes nothing.
use Rattle.std.specs.Prelude.{◌≡◌, Bool, ◌*◌, ℤ, ◌*ℤ◌}
use Rattle.std.proofs.Common.{lit≤}
use Rattle.laws.specs.Size.{reread, Held, formed}
use Rattle.scene.specs.Limits.{limits, most_points}
use Rattle.orient.specs.Terms.{factor}
use Rattle.orient.specs.Columns.{part_of}
use Rattle.orient.specs.Sizes.{Within, AreWithin, part_size, part_size_law, part_fits}
use Rattle.orient.specs.declared.Point.{Point}
use Rattle.orient.specs.Bits.{room, multiplied, number, factor_held}

module _ {p : Point} (v : Within limits p) where
  module _ {r : ℤ} (e : r ≡ factor (reread p.w)) where
    module _ {s : ℤ} (es : s ≡ reread r *ℤ reread p.n) where
      pub shift1 : Held (limits.most_weight * most_points limits) s (factor p.w *ℤ p.n)
      shift1 = multiplied (factor_held v e) (number v) (lit≤ tt) es

      module _ {t : ℤ} (et : t ≡ reread s *ℤ reread p.n) where
        pub shift2 : Held (limits.most_weight * most_points limits * most_points limits) t (factor p.w *ℤ p.n *ℤ p.n)
        shift2 = multiplied shift1 (number v) (lit≤ tt) et

        pub shift3 : {u : ℤ} → u ≡ reread t *ℤ reread p.n →
            Held (limits.most_weight * most_points limits * most_points limits * most_points limits) u (factor p.w *ℤ p.n *ℤ p.n *ℤ p.n)
        shift3 = multiplied shift2 (number v) (lit≤ tt)

-- ---- a determinant that `part` gave

pub part_held : {r : ℤ} {a b c d : Point} (sx sy sz : Bool) → AreWithin limits a b c d → r ≡ part_of a b c d sx sy sz →
    Held (part_size limits sx sy sz) r (part_of a b c d sx sy sz)
part_held sx sy sz v e = formed e (part_size_law limits (lit≤ tt) v sx sy sz) (room (part_fits sx sy sz))

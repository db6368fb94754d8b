-- Four points of weight 1, seen from the last of them: c1 and c2 are sums of determinants of three rows without weights, with the shift in
-- place of one of the rows or of two. Assumes nothing.
use Rattle.std.specs.Prelude.{◌≡◌, refl, Bool, ◌&&◌, zero, suc, ℤ, pos, negsuc}
use Rattle.std.proofs.Math.Bool.{true, false}
use Rattle.std.proofs.lemmas.Bool.{false≢true}
use Rattle.laws.specs.Decides.{and_iff}
use Rattle.scene.specs.declared.Row.{Row}
use Rattle.orient.specs.Minors.{triple_product, row_minus}
use Rattle.orient.specs.Columns.{row_of}
use Rattle.orient.specs.declared.Point.{Point}

-- ---- all four weights are 1

abbrev pub is_one : ℤ → Bool
is_one (pos zero) = false
is_one (pos (suc zero)) = true
is_one (pos (suc (suc n))) = false
is_one (negsuc n) = false

abbrev pub are_ones : (a b c d : Point) → Bool
are_ones a b c d = ((is_one a.w && is_one b.w) && is_one c.w) && is_one d.w

pub record Ones (p q r s : Point) : Type 0 where
  pub a : p.w ≡ pos 1
  pub b : q.w ≡ pos 1
  pub c : r.w ≡ pos 1
  pub d : s.w ≡ pos 1

pub one_is : (w : ℤ) → is_one w ≡ true → w ≡ pos 1
one_is (pos zero) e = absurd (false≢true e)
one_is (pos (suc zero)) e = refl
one_is (pos (suc (suc n))) e = absurd (false≢true e)
one_is (negsuc n) e = absurd (false≢true e)

pub ones_are : (a b c d : Point) → are_ones a b c d ≡ true → Ones a b c d
ones_are a b c d e =
    let f = (and_iff ((is_one a.w && is_one b.w) && is_one c.w) (is_one d.w)).0 e in
    let g = (and_iff (is_one a.w && is_one b.w) (is_one c.w)).0 f.0 in
    let h = (and_iff (is_one a.w) (is_one b.w)).0 g.0 in
    record { a = one_is a.w h.0; b = one_is b.w h.1; c = one_is c.w g.1; d = one_is d.w f.1 }

-- ---- the rows seen from the last

-- from d to p, a direction; where it is marked, from shift to shift
abbrev pub direction_of : Point → Point → Bool → Row
direction_of p d s = row_minus (row_of p s s s) (row_of d s s s)

unfoldable pub directions_part : Point → Point → Point → Point → Bool → Bool → Bool → ℤ
directions_part a b c d sa sb sc = triple_product (direction_of a d sa) (direction_of b d sb) (direction_of c d sc)

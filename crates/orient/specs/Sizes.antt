-- How large the four terms are, and each number formed on the way to them: over the limits as symbols, and read off at the limits of a
-- scene. Assumes nothing.
use Rattle.std.specs.Prelude.{Bool, true, false, cond, ℕ, zero, suc, ◌+◌, ◌*◌, ◌^◌, ◌≤◌, ℤ, pos, negsuc}
use Rattle.std.proofs.Common.{mul-le-mul, arith, lit≤}
use Rattle.laws.specs.Size.{Small, ◌⊗◌}
use Rattle.scene.specs.Limits.{Limits, limits, most_points}
use Rattle.scene.specs.Arrays.{RowWithin, AllWithin}
use Rattle.scene.specs.declared.Row.{Row}
use Rattle.orient.specs.Terms.{factor, point_at}
use Rattle.orient.specs.Columns.{row_of, part_of}
use Rattle.orient.specs.Formed.{most_formed, DetWithin, RowSize, Some, det_size, det_within, det_size_law}
use Rattle.orient.specs.declared.Point.{Point}

pub record Within (l : Limits) (p : Point) : Type 0 where
  pub x : Small l.most_coordinate p.x
  pub y : Small l.most_coordinate p.y
  pub z : Small l.most_coordinate p.z
  pub w : Small l.most_weight p.w
  pub n : Small (most_points l) p.n

abbrev pub AreWithin : Limits → (a b c d : Point) → Type 0
AreWithin l a b c d = Within l a × Within l b × Within l c × Within l d

-- the rows, and four numbers by which points are asked for
abbrev pub NumbersWithin : Limits → (ℕ → Row) → (a b c d : ℕ) → Type 0
NumbersWithin l row a b c d = AllWithin l row × (a ≤ most_points l) × (b ≤ most_points l) × (c ≤ most_points l) × (d ≤ most_points l)

-- the factor may be 1 where the weight is 0
pub factor_size : {m : ℕ} {w : ℤ} → 1 ≤ m → Small m w → Small m (factor w)
factor_size {w = pos zero} one h = record { size = one }
factor_size {w = pos (suc n)} one h = h
factor_size {w = negsuc n} one h = h

cond_small : {A B : ℕ} {a b : ℤ} (s : Bool) → Small A a → Small B b → Small (cond s A B) (cond s a b)
cond_small true p q = p
cond_small false p q = q

cond_some : {A B : ℕ} (s : Bool) → 1 ≤ A → 1 ≤ B → 1 ≤ cond s A B
cond_some true p q = p
cond_some false p q = q

module _ (l : Limits) where
  abbrev C : ℕ
  C = l.most_coordinate

  abbrev W : ℕ
  W = l.most_weight

  abbrev n : ℕ
  n = most_points l

  -- of a column, with the shift for the coordinate where it is marked
  abbrev pub X : Bool → ℕ
  X s = cond s (W * n) C

  abbrev pub Y : Bool → ℕ
  Y s = cond s (W * n * n) C

  abbrev pub Z : Bool → ℕ
  Z s = cond s (W * n * n * n) C

  abbrev pub part_size : Bool → Bool → Bool → ℕ
  part_size sx sy sz = det_size (X sx) (Y sy) (Z sz) W

  abbrev pub size0 : ℕ
  size0 = 24 * (C ^ 3 * W)

  abbrev pub size1 : ℕ
  size1 = 24 * (C ^ 2 * W ^ 2 * (n ^ 3 + n ^ 2 + n))

  abbrev pub size2 : ℕ
  size2 = 24 * (C * W ^ 3 * (n ^ 5 + n ^ 4 + n ^ 3))

  abbrev pub size3 : ℕ
  size3 = 24 * (W ^ 4 * n ^ 6)

  pub row_size : {p : Point} (sx sy sz : Bool) → 1 ≤ W → Within l p → RowSize (X sx) (Y sy) (Z sz) W (row_of p sx sy sz)
  row_size sx sy sz hw v =
      let k = factor_size hw v.w in
      record {
        x = cond_small sx (k ⊗ v.n) v.x;
        y = cond_small sy (k ⊗ v.n ⊗ v.n) v.y;
        z = cond_small sz (k ⊗ v.n ⊗ v.n ⊗ v.n) v.z;
        w = v.w;
      }

  some_size : (sx sy sz : Bool) → 1 ≤ C → 1 ≤ W → Some (X sx) (Y sy) (Z sz) W
  some_size sx sy sz hc hw =
      let hn : 1 ≤ n = omega arith in
      let h1 = mul-le-mul hw hn in
      let h2 = mul-le-mul h1 hn in
      record {
        x = cond_some sx h1 hc;
        y = cond_some sy h2 hc;
        z = cond_some sz (mul-le-mul h2 hn) hc;
        w = hw;
      }

  module _ {a b c d : Point} (hw : 1 ≤ W) (v : AreWithin l a b c d) where
    pub part_within : (sx sy sz : Bool) → 1 ≤ C →
        DetWithin (part_size sx sy sz) (row_of a sx sy sz) (row_of b sx sy sz) (row_of c sx sy sz) (row_of d sx sy sz)
    part_within sx sy sz hc =
        det_within _ _ _ _ (row_size sx sy sz hw v.0) (row_size sx sy sz hw v.1) (row_size sx sy sz hw v.2)
        (row_size sx sy sz hw v.3)
        (some_size sx sy sz hc hw)

    pub part_size_law : (sx sy sz : Bool) → Small (part_size sx sy sz) (part_of a b c d sx sy sz)
    unfolding part_of
    part_size_law sx sy sz =
        det_size_law _ _ _ _ (row_size sx sy sz hw v.0) (row_size sx sy sz hw v.1) (row_size sx sy sz hw v.2)
        (row_size sx sy sz hw v.3)

-- ---- at the limits of a scene

pub part_fits : (sx sy sz : Bool) → part_size limits sx sy sz ≤ most_formed
part_fits true true true = lit≤ tt
part_fits true true false = lit≤ tt
part_fits true false true = lit≤ tt
part_fits true false false = lit≤ tt
part_fits false true true = lit≤ tt
part_fits false true false = lit≤ tt
part_fits false false true = lit≤ tt
part_fits false false false = lit≤ tt

pub point_within : (l : Limits) (row : ℕ → Row) (i : ℕ) → RowWithin l (row i) → i ≤ most_points l → Within l (point_at row i)
point_within l row i h k = omega arith

pub points_within : (l : Limits) (row : ℕ → Row) (a b c d : ℕ) → NumbersWithin l row a b c d →
    AreWithin l (point_at row a) (point_at row b) (point_at row c) (point_at row d)
points_within l row a b c d h = (
  point_within l row a (h.0 a) h.1,
  point_within l row b (h.0 b) h.2,
  point_within l row c (h.0 c) h.3,
  point_within l row d (h.0 d) h.4,
)

-- What is formed on the way to a determinant by minors, and how large it is: at most 24 times the product of the columns' sizes. The
-- numbers formed for a scene are at most 3.5 × 10^18. Assumes nothing.
use Rattle.std.specs.Prelude.{◌≡◌, ℕ, ◌+◌, ◌*◌, ◌^◌, ◌≤◌, ℤ, nat_abs}
use Rattle.std.proofs.Common.{subst, le_trans, add-le-add, mul-le-mul, mul-le-mul_left, arith}
use Rattle.laws.specs.Size.{Small, ◌⊗◌, ◌⊖◌, ◌⊕◌}
use Rattle.scene.specs.declared.Row.{Row}
use Rattle.orient.specs.Determinant.{det4}
use Rattle.orient.specs.Minors.{minor_of, join_of, minors_are}
use Rattle.orient.specs.declared.minors.Line.{Line}

-- no number that is formed for a scene is larger
abbrev pub most_formed : ℕ
most_formed = 35 * 10 ^ 17

-- ---- what is formed, each product and sum by the sizes of its parts

abbrev pub times_size : ℤ → ℤ → ℕ
times_size a b = nat_abs a * nat_abs b

abbrev pub sum_size : ℤ → ℤ → ℤ → ℕ
sum_size a b c = nat_abs a + nat_abs b + nat_abs c

abbrev pub minor_size : ℤ → ℤ → ℤ → ℤ → ℕ
minor_size a b c d = nat_abs a * nat_abs d + nat_abs b * nat_abs c

abbrev pub alternating_size : ℤ → ℤ → ℤ → ℤ → ℤ → ℤ → ℕ
alternating_size a b c d e f = nat_abs a * nat_abs b + nat_abs c * nat_abs d + nat_abs e * nat_abs f

abbrev pub det_of_lines_size : Line → Line → ℕ
det_of_lines_size l m = alternating_size l.xy m.zw l.xz m.yw l.xw m.yz + alternating_size l.yz m.xw l.yw m.xz
    l.zw m.xy

-- on the way to the minors of two rows, and to the determinant of four, at most k
pub record JoinWithin (k : ℕ) (a b : Row) : Type 0 where
  pub xy : minor_size a.x a.y b.x b.y ≤ k
  pub xz : minor_size a.x a.z b.x b.z ≤ k
  pub xw : minor_size a.x a.w b.x b.w ≤ k
  pub yz : minor_size a.y a.z b.y b.z ≤ k
  pub yw : minor_size a.y a.w b.y b.w ≤ k
  pub zw : minor_size a.z a.w b.z b.w ≤ k

pub record DetWithin (k : ℕ) (a b c d : Row) : Type 0 where
  pub first : JoinWithin k a b
  pub last : JoinWithin k c d
  pub whole : det_of_lines_size (join_of a b) (join_of c d) ≤ k

-- and on the way to the determinant of three rows without their weights
pub record TripleProductWithin (k : ℕ) (p q r : Row) : Type 0 where
  pub x : minor_size q.y q.z r.y r.z ≤ k
  pub y : minor_size q.x q.z r.x r.z ≤ k
  pub z : minor_size q.x q.y r.x r.y ≤ k
  pub whole : alternating_size p.x (minor_of q.y q.z r.y r.z) p.y (minor_of q.x q.z r.x r.z) p.z
      (minor_of q.x q.y r.x r.y) ≤ k

-- and on the way from one row to another
pub record RowMinusWithin (k : ℕ) (a b : Row) : Type 0 where
  pub x : nat_abs a.x + nat_abs b.x ≤ k
  pub y : nat_abs a.y + nat_abs b.y ≤ k
  pub z : nat_abs a.z + nat_abs b.z ≤ k

pub minor_size_law : {A B C D : ℕ} {a b c d : ℤ} → Small A a → Small B b → Small C c → Small D d → minor_size a b c d ≤ A * D + B * C
minor_size_law p q r s = add-le-add (mul-le-mul p.size s.size) (mul-le-mul q.size r.size)

pub alternating_size_law : {A B C D E F : ℕ} {a b c d e f : ℤ} → Small A a → Small B b → Small C c → Small D d → Small E e → Small F f →
    alternating_size a b c d e f ≤ A * B + C * D + E * F
alternating_size_law p q r s t u = add-le-add (add-le-add (mul-le-mul p.size q.size) (mul-le-mul r.size s.size))
    (mul-le-mul t.size u.size)

-- ---- a determinant

-- a row whose entries are at most X, Y, Z, W
pub record RowSize (X Y Z W : ℕ) (r : Row) : Type 0 where
  pub x : Small X r.x
  pub y : Small Y r.y
  pub z : Small Z r.z
  pub w : Small W r.w

-- none of them is 0
pub record Some (X Y Z W : ℕ) : Type 0 where
  pub x : 1 ≤ X
  pub y : 1 ≤ Y
  pub z : 1 ≤ Z
  pub w : 1 ≤ W

two_of_four : (A B C D : ℕ) → 1 ≤ C → 1 ≤ D → A * B + B * A ≤ 24 * (A * B * C * D)
two_of_four A B C D c d =
    let h : A * B * 1 ≤ A * B * (C * D) = mul-le-mul_left (A * B) (mul-le-mul c d) in omega arith

pub record LineSize (X Y Z W : ℕ) (l : Line) : Type 0 where
  pub xy : Small (X * Y + Y * X) l.xy
  pub xz : Small (X * Z + Z * X) l.xz
  pub xw : Small (X * W + W * X) l.xw
  pub yz : Small (Y * Z + Z * Y) l.yz
  pub yw : Small (Y * W + W * Y) l.yw
  pub zw : Small (Z * W + W * Z) l.zw

pub join_size : {X Y Z W : ℕ} {a b : Row} → RowSize X Y Z W a → RowSize X Y Z W b → LineSize X Y Z W (join_of a b)
join_size p q =
    record {
      xy = p.x ⊗ q.y ⊖ p.y ⊗ q.x;
      xz = p.x ⊗ q.z ⊖ p.z ⊗ q.x;
      xw = p.x ⊗ q.w ⊖ p.w ⊗ q.x;
      yz = p.y ⊗ q.z ⊖ p.z ⊗ q.y;
      yw = p.y ⊗ q.w ⊖ p.w ⊗ q.y;
      zw = p.z ⊗ q.w ⊖ p.w ⊗ q.z;
    }

module _ (X Y Z W : ℕ) where
  abbrev pub det_size : ℕ
  det_size = 24 * (X * Y * Z * W)

  abbrev products : ℕ
  products =
      (X * Y + Y * X) * (Z * W + W * Z) + (X * Z + Z * X) * (Y * W + W * Y) + (X * W + W * X) * (Y * Z + Z * Y)
      + ((Y * Z + Z * Y) * (X * W + W * X) + (Y * W + W * Y) * (X * Z + Z * X) + (Z * W + W * Z) * (X * Y + Y * X))

  of_24 : products ≡ det_size
  of_24 = omega arith

  join_within : {a b : Row} → Some X Y Z W → RowSize X Y Z W a → RowSize X Y Z W b → JoinWithin det_size a b
  join_within s p q =
      record {
        xy = le_trans (minor_size_law p.x p.y q.x q.y) (two_of_four X Y Z W s.z s.w);
        xz = le_trans (minor_size_law p.x p.z q.x q.z) (omega (arith, two_of_four X Z Y W s.y s.w));
        xw = le_trans (minor_size_law p.x p.w q.x q.w) (omega (arith, two_of_four X W Y Z s.y s.z));
        yz = le_trans (minor_size_law p.y p.z q.y q.z) (omega (arith, two_of_four Y Z X W s.x s.w));
        yw = le_trans (minor_size_law p.y p.w q.y q.w) (omega (arith, two_of_four Y W X Z s.x s.z));
        zw = le_trans (minor_size_law p.z p.w q.z q.w) (omega (arith, two_of_four Z W X Y s.x s.y));
      }

  meet_within : {l m : Line} → LineSize X Y Z W l → LineSize X Y Z W m → det_of_lines_size l m ≤ products
  meet_within p q =
      add-le-add (alternating_size_law p.xy q.zw p.xz q.yw p.xw q.yz)
      (alternating_size_law p.yz q.xw p.yw q.xz p.zw q.xy)

  module _ {a b c d : Row} (p : RowSize X Y Z W a) (q : RowSize X Y Z W b) (r : RowSize X Y Z W c) (s : RowSize X Y Z W d) where
    pub det_within : Some X Y Z W → DetWithin det_size a b c d
    det_within some =
        record {
          first = join_within some p q;
          last = join_within some r s;
          whole = subst (λ (n : ℕ). det_of_lines_size (join_of a b) (join_of c d) ≤ n) of_24 (meet_within (join_size p q) (join_size r s));
        }

    pub det_size_law : Small det_size (det4 a b c d)
    det_size_law =
        let l = join_size p q in
        let m = join_size r s in
        rw (← minors_are, ← of_24) ((l.xy ⊗ m.zw ⊖ l.xz ⊗ m.yw ⊕ l.xw ⊗ m.yz) ⊕ (l.yz ⊗ m.xw ⊖ l.yw ⊗ m.xz ⊕ l.zw ⊗ m.xy))

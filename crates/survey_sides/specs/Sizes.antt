-- How large the numbers are that lines and planes are formed from, by the sizes of the three rows, which need not be the same: a shift may
-- stand for one of them. Assumes nothing.
use Rattle.std.specs.Prelude.{ℕ, ◌+◌, ◌*◌, ◌≤◌}
use Rattle.std.proofs.Common.{le_trans, add-le-add, arith, lit≤}
use Rattle.laws.specs.Size.{Small, ◌⊗◌, ◌⊖◌, ◌⊕◌}
use Rattle.scene.specs.Limits.{limits}
use Rattle.scene.specs.Arrays.{RowWithin}
use Rattle.scene.specs.declared.Row.{Row}
use Rattle.orient.specs.Formed.{most_formed, minor_size, alternating_size, JoinWithin, RowSize, minor_size_law, alternating_size_law}
use Rattle.orient.specs.Minors.{join_of}
use Rattle.survey_sides.specs.Planes.{plane_of, dot_of}
use Rattle.orient.specs.declared.minors.Line.{Line}

-- what is formed on the way to a plane, and to a plane at a row
pub record SpanWithin (k : ℕ) (l : Line) (r : Row) : Type 0 where
  pub x : alternating_size l.yz r.w l.yw r.z l.zw r.y ≤ k
  pub y : alternating_size l.xz r.w l.xw r.z l.zw r.x ≤ k
  pub z : alternating_size l.xy r.w l.xw r.y l.yw r.x ≤ k
  pub w : alternating_size l.xy r.z l.xz r.y l.yz r.x ≤ k

abbrev pub dot_size : Row → Row → ℕ
dot_size p t = minor_size p.w p.z t.z t.w + minor_size p.y p.x t.x t.y

-- on the way from three rows to their plane
pub record PlaneWithin (k : ℕ) (a b c : Row) : Type 0 where
  pub first : JoinWithin k a b
  pub whole : SpanWithin k (join_of a b) c

-- ---- three rows, with coordinates up to A, B, C and weights up to K, L, M

-- a line's minors, without the weights and with them
record LineUpto (F G : ℕ) (l : Line) : Type 0 where
  pub xy : Small F l.xy
  pub xz : Small F l.xz
  pub xw : Small G l.xw
  pub yz : Small F l.yz
  pub yw : Small G l.yw
  pub zw : Small G l.zw

-- a row whose coordinates are up to C and whose weight is up to M
abbrev pub Upto : (C M : ℕ) → Row → Type 0
Upto C M = RowSize C C C M

module _ (A K B L : ℕ) where
  abbrev pub flat : ℕ
  flat = A * B + A * B

  abbrev pub steep : ℕ
  steep = A * L + K * B

  module _ (C M : ℕ) where
    -- a plane's coefficients, and the fourth
    abbrev pub coefficient : ℕ
    coefficient = flat * M + steep * C + steep * C

    abbrev pub fourth : ℕ
    fourth = flat * C + flat * C + flat * C

    abbrev pub plane_size : ℕ
    plane_size = flat + steep + (coefficient + fourth)

module _ {A K B L : ℕ} {a b : Row} (p : Upto A K a) (q : Upto B L b) where
  line : LineUpto (flat A K B L) (steep A K B L) (join_of a b)
  line =
      record {
        xy = p.x ⊗ q.y ⊖ p.y ⊗ q.x;
        xz = p.x ⊗ q.z ⊖ p.z ⊗ q.x;
        xw = p.x ⊗ q.w ⊖ p.w ⊗ q.x;
        yz = p.y ⊗ q.z ⊖ p.z ⊗ q.y;
        yw = p.y ⊗ q.w ⊖ p.w ⊗ q.y;
        zw = p.z ⊗ q.w ⊖ p.w ⊗ q.z;
      }

  pub join_within : {k : ℕ} → flat A K B L + steep A K B L ≤ k → JoinWithin k a b
  join_within h =
      record {
        xy = le_trans (minor_size_law p.x p.y q.x q.y) (le_trans (omega arith) h);
        xz = le_trans (minor_size_law p.x p.z q.x q.z) (le_trans (omega arith) h);
        xw = le_trans (minor_size_law p.x p.w q.x q.w) (le_trans (omega arith) h);
        yz = le_trans (minor_size_law p.y p.z q.y q.z) (le_trans (omega arith) h);
        yw = le_trans (minor_size_law p.y p.w q.y q.w) (le_trans (omega arith) h);
        zw = le_trans (minor_size_law p.z p.w q.z q.w) (le_trans (omega arith) h);
      }

  module _ {C M : ℕ} {c : Row} (r : Upto C M c) where
    pub plane_size_law : Upto (coefficient A K B L C M) (fourth A K B L C M) (plane_of a b c)
    unfolding plane_of
    plane_size_law =
        let l = line in
        record {
          x = l.yz ⊗ r.w ⊖ l.yw ⊗ r.z ⊕ l.zw ⊗ r.y;
          y = l.xz ⊗ r.w ⊖ l.xw ⊗ r.z ⊕ l.zw ⊗ r.x;
          z = l.xy ⊗ r.w ⊖ l.xw ⊗ r.y ⊕ l.yw ⊗ r.x;
          w = l.xy ⊗ r.z ⊖ l.xz ⊗ r.y ⊕ l.yz ⊗ r.x;
        }

    pub plane_within : {k : ℕ} → plane_size A K B L C M ≤ k → PlaneWithin k a b c
    plane_within h =
        let l = line in
        record {
          first = join_within (le_trans (omega arith) h);
          whole =
              record {
                x = le_trans (alternating_size_law l.yz r.w l.yw r.z l.zw r.y) (le_trans (omega arith) h);
                y = le_trans (alternating_size_law l.xz r.w l.xw r.z l.zw r.x) (le_trans (omega arith) h);
                z = le_trans (alternating_size_law l.xy r.w l.xw r.y l.yw r.x) (le_trans (omega arith) h);
                w = le_trans (alternating_size_law l.xy r.z l.xz r.y l.yz r.x) (le_trans (omega arith) h);
              };
        }

-- a plane at a row
abbrev pub dot_upto : (P Q C M : ℕ) → ℕ
dot_upto P Q C M = Q * M + P * C + (P * C + P * C)

module _ {P Q C M : ℕ} {p t : Row} (m : Upto P Q p) (s : Upto C M t) where
  pub dot_size_law : dot_size p t ≤ dot_upto P Q C M
  dot_size_law = add-le-add (minor_size_law m.w m.z s.z s.w) (minor_size_law m.y m.x s.x s.y)

  pub dot_small : Small (dot_upto P Q C M) (dot_of p t)
  dot_small = (m.w ⊗ s.w ⊖ m.z ⊗ s.z) ⊕ (m.y ⊗ s.y ⊖ m.x ⊗ s.x)

-- ---- at the limits of a scene

pub row_upto : {r : Row} → RowWithin limits r → Upto limits.most_coordinate limits.most_weight r
row_upto h = omega arith

module _ {a b : Row} (p : RowWithin limits a) (q : RowWithin limits b) where
  pub join_formed : JoinWithin most_formed a b
  join_formed = join_within (row_upto p) (row_upto q) (lit≤ tt)

  module _ {c : Row} (r : RowWithin limits c) where
    pub plane_formed : PlaneWithin most_formed a b c
    plane_formed = plane_within (row_upto p) (row_upto q) (row_upto r) (lit≤ tt)

    pub span_formed : SpanWithin most_formed (join_of a b) c
    span_formed = plane_formed.whole

    pub dot_formed : {d : Row} → RowWithin limits d → dot_size (plane_of a b c) d ≤ most_formed
    dot_formed s = le_trans (dot_size_law (plane_size_law (row_upto p) (row_upto q) (row_upto r)) (row_upto s)) (lit≤ tt)

-- The numbers formed for planes are small: of rows within a scene's limits no product or sum on the way is above 24·C⁴, C the largest
-- coordinate, and so none above what may be formed for a sign. Assumes nothing.
use Rattle.std.specs.Prelude.{◌≡◌, ℕ, ◌+◌, ◌*◌, ◌≤◌, ℤ, ◌+ℤ◌, ◌-ℤ◌, ◌*ℤ◌}
use Rattle.std.proofs.Common.{sym, subst, le_trans, arith, lit<, lit≤}
use Rattle.laws.specs.Size.{Small, Held, held, times, plus, less, reread, below}
use Rattle.scene.specs.Limits.{limits}
use Rattle.scene.specs.Arrays.{AllWithin}
use Rattle.scene.specs.declared.Row.{Row}
use Rattle.orient.specs.Formed.{most_formed}
use Rattle.clean.specs.Planes.{but_x, but_y, but_z, but_w, volume_of, plane_of, dot_of}
use Rattle.clean.specs.declared.planes.Three.{Three}

-- the largest entry, that of a coordinate, and the largest coefficient of a plane
abbrev pub most_entry : ℕ
most_entry = limits.most_coordinate

abbrev pub most_coefficient : ℕ
most_coefficient = 6 * (most_entry * most_entry * most_entry)

pub record RowSmall (k : ℕ) (r : Row) : Type 0 where
  pub x : Small k r.x
  pub y : Small k r.y
  pub z : Small k r.z
  pub w : Small k r.w

pub record ThreeSmall (a : Three) : Type 0 where
  pub x : Small most_entry a.x
  pub y : Small most_entry a.y
  pub z : Small most_entry a.z

-- ---- a volume

abbrev pub VolumeSmall : Three → Three → Three → Type 0
VolumeSmall a b c = ThreeSmall a × ThreeSmall b × ThreeSmall c

-- what the machine holds of e·(a·b - c·d), an entry times a difference of two products, and how large that is
abbrev formed : (a b c d e : ℤ) → ℤ
formed a b c d e = reread e *ℤ reread (reread (reread a *ℤ reread b) -ℤ reread (reread c *ℤ reread d))

abbrev most_term : ℕ
most_term = most_entry * (most_entry * most_entry + most_entry * most_entry)

module _ {a b : ℤ} (ha : Small most_entry a) (hb : Small most_entry b) where
  pub two : Held (most_entry * most_entry) (reread a *ℤ reread b) (a *ℤ b)
  two = times (held ha (lit< tt)) (held hb (lit< tt)) (lit< tt)

module _ {a b c d : ℤ} (ha : Small most_entry a) (hb : Small most_entry b) (hc : Small most_entry c) (hd : Small most_entry d) where
  pub cross : Held (most_entry * most_entry + most_entry * most_entry) (reread (reread a *ℤ reread b) -ℤ reread (reread c *ℤ reread d))
      (a *ℤ b -ℤ c *ℤ d)
  cross = less (two ha hb) (two hc hd) (lit< tt)

  pub third : {e : ℤ} → Small most_entry e → Held most_term (formed a b c d e) (e *ℤ (a *ℤ b -ℤ c *ℤ d))
  third he = times (held he (lit< tt)) cross (lit< tt)

module _ {a b c : Three} (h : VolumeSmall a b c) where
  pub both : Held (most_term + most_term)
      (reread (formed b.y c.z b.z c.y a.x) -ℤ reread (formed b.x c.z b.z c.x a.y))
      (a.x *ℤ (b.y *ℤ c.z -ℤ b.z *ℤ c.y) -ℤ a.y *ℤ (b.x *ℤ c.z -ℤ b.z *ℤ c.x))
  both =
      less (third h.1.y h.2.z h.1.z h.2.y h.0.x) (third h.1.x h.2.z h.1.z h.2.x h.0.y) (lit< tt)

  pub whole : Held (most_term + most_term + most_term)
      (reread (reread (formed b.y c.z b.z c.y a.x) -ℤ reread (formed b.x c.z b.z c.x a.y))
      +ℤ reread (formed b.x c.y b.y c.x a.z))
      (volume_of a b c)
  unfolding volume_of
  whole = plus both (third h.1.x h.2.y h.1.y h.2.x h.0.z) (lit< tt)

  pub volume_size : Small most_coefficient (volume_of a b c)
  volume_size = below (record { size = whole.size }) (lit≤ tt)

pub plane_size_law : {a b c : Row} → RowSmall most_entry a → RowSmall most_entry b → RowSmall most_entry c →
    RowSmall most_coefficient (plane_of a b c)
plane_size_law {a} {b} {c} p q r =
    record {
      x = volume_size {a = but_x a} {b = but_x b} {c = but_x c} (omega arith);
      y = volume_size {a = but_y a} {b = but_y b} {c = but_y c} (omega arith);
      z = volume_size {a = but_z a} {b = but_z b} {c = but_z c} (omega arith);
      w = volume_size {a = but_w a} {b = but_w b} {c = but_w c} (omega arith);
    }

-- ---- a product of two rows, summed from the left

abbrev most_product : ℕ
most_product = most_coefficient * most_entry

module _ {p t : Row} (h : RowSmall most_coefficient p × RowSmall most_entry t) where
  abbrev hp : RowSmall most_coefficient p
  hp = h.0

  abbrev ht : RowSmall most_entry t
  ht = h.1

  pub dot_x : Held most_product (reread p.x *ℤ reread t.x) (p.x *ℤ t.x)
  dot_x = times (held hp.x (lit< tt)) (held ht.x (lit< tt)) (lit< tt)

  pub dot_y : Held most_product (reread p.y *ℤ reread t.y) (p.y *ℤ t.y)
  dot_y = times (held hp.y (lit< tt)) (held ht.y (lit< tt)) (lit< tt)

  pub dot_z : Held most_product (reread p.z *ℤ reread t.z) (p.z *ℤ t.z)
  dot_z = times (held hp.z (lit< tt)) (held ht.z (lit< tt)) (lit< tt)

  pub dot_w : Held most_product (reread p.w *ℤ reread t.w) (p.w *ℤ t.w)
  dot_w = times (held hp.w (lit< tt)) (held ht.w (lit< tt)) (lit< tt)

  abbrev xy : ℤ
  xy = reread (reread p.x *ℤ reread t.x) +ℤ reread (reread p.y *ℤ reread t.y)

  abbrev xyz : ℤ
  xyz = reread xy +ℤ reread (reread p.z *ℤ reread t.z)

  pub dot_xy : Held (most_product + most_product) xy (p.x *ℤ t.x +ℤ p.y *ℤ t.y)
  dot_xy = plus dot_x dot_y (lit< tt)

  pub dot_xyz : Held (most_product + most_product + most_product) xyz (p.x *ℤ t.x +ℤ p.y *ℤ t.y +ℤ p.z *ℤ t.z)
  dot_xyz = plus dot_xy dot_z (lit< tt)

  pub dotted : Held (most_product + most_product + most_product + most_product)
      (reread xyz +ℤ reread (reread p.w *ℤ reread t.w)) (dot_of p t)
  unfolding dot_of
  dotted = plus dot_xyz dot_w (lit< tt)

pub dot_formed : most_product + most_product + most_product + most_product ≤ most_formed
dot_formed = lit≤ tt

-- ---- the rows of a scene

pub row_small : {row : ℕ → Row} → AllWithin limits row → (i : ℕ) {r : Row} → r ≡ row i → RowSmall most_entry r
row_small {row} h i e =
    let k = h i in
    subst (RowSmall most_entry) (sym e)
    (record {
      x = record { size = k.x };
      y = record { size = k.y };
      z = record { size = k.z };
      w = record { size = le_trans k.w (lit≤ tt) };
    })

-- the plane of three of them
pub three_small : {row : ℕ → Row} → AllWithin limits row → {i j k : ℕ} {a b c p : Row} → a ≡ row i → b ≡ row j → c ≡ row k →
    p ≡ plane_of a b c → RowSmall most_coefficient p
three_small h {i} {j} {k} ea eb ec e =
    subst (RowSmall most_coefficient) (sym e) (plane_size_law (row_small h i ea) (row_small h j eb) (row_small h k ec))

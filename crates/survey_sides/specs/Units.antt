-- Three rows of weight 1, seen from the last of them: their plane, and the slope of three such points, by directions. Assumes nothing.
use Rattle.std.specs.Prelude.{◌≡◌, Bool, true, ◌&&◌, [], ◌∷◌, ℕ, ◌+◌, ◌*◌, ℤ, pos}
use Rattle.std.proofs.Common.{sym, ◌∙◌}
use Rattle.laws.specs.Decides.{and_iff}
use Rattle.laws.specs.Ring.{Expr, ring, env}
use Rattle.laws.specs.Ring.Expr.{var, lit, ◌⊕◌, ◌⊖◌, ◌⊗◌}
use Rattle.scene.specs.declared.Row.{Row}
use Rattle.orient.specs.Determinant.{Entries}
use Rattle.orient.specs.Minors.{minor_of_law, alternating_of_law, triple_product_of, minor_of, triple_product, row_minus}
use Rattle.orient.specs.Ones.{is_one, one_is}
use Rattle.orient.specs.Shifts.{shift_of, shift_at}
use Rattle.survey_sides.specs.Planes.{plane_of}
use Rattle.survey_sides.specs.Slopes.{sum_of, slope_of}

-- ---- all three weights are 1

abbrev pub are_units : (a b c : Row) → Bool
are_units a b c = (is_one a.w && is_one b.w) && is_one c.w

pub record Units (p q r : Row) : Type 0 where
  pub a : p.w ≡ pos 1
  pub b : q.w ≡ pos 1
  pub c : r.w ≡ pos 1

pub units_are : (a b c : Row) → are_units a b c ≡ true → Units a b c
units_are a b c e =
    let f = (and_iff (is_one a.w && is_one b.w) (is_one c.w)).0 e in
    let g = (and_iff (is_one a.w) (is_one b.w)).0 f.0 in
    record { a = one_is a.w g.0; b = one_is b.w g.1; c = one_is c.w f.1 }

-- ---- by directions

-- the plane of a row of weight 1 and two directions
abbrev pub plane_from_directions : Row → Row → Row → Row
plane_from_directions u v c =
    record {
      x = minor_of u.y u.z v.y v.z;
      y = minor_of u.x u.z v.x v.z;
      z = minor_of u.x u.y v.x v.y;
      w = triple_product c u v;
    }

-- a plane that has no other coefficient than the fourth
abbrev pub level : ℤ → Row
level n = record { x = pos 0; y = pos 0; z = pos 0; w = n }

-- of three rows, and of three points with their shifts s, t and o
abbrev pub unit_plane : (a b c : Row) → Row
unit_plane a b c = plane_from_directions (row_minus a c) (row_minus b c) c

abbrev pub unit_slope : (a b c s t o : Row) → Row
unit_slope a b c s t o =
    sum_of (plane_from_directions (row_minus s o) (row_minus b c) c) (plane_from_directions (row_minus a c) (row_minus t o) c)
    (level (triple_product o (row_minus a c) (row_minus b c)))

-- ---- rows of variables, three each, with the weight written as 1 or as 0

abbrev alternating : Expr → Expr → Expr → Expr → Expr → Expr → Expr
alternating = alternating_of_law ◌⊕◌ ◌⊖◌ ◌⊗◌

abbrev minor : Expr → Expr → Expr → Expr → Expr
minor = minor_of_law ◌⊕◌ ◌⊖◌ ◌⊗◌

abbrev triple_product_law : Entries Expr → Entries Expr → Entries Expr → Expr
triple_product_law = triple_product_of ◌⊕◌ ◌⊖◌ ◌⊗◌

abbrev entry : ℤ → ℕ → Entries Expr
entry w j = record { x = var (3 * j); y = var (3 * j + 1); z = var (3 * j + 2); w = lit w }

abbrev one : ℕ → Entries Expr
one = entry (pos 1)

abbrev way : ℕ → Entries Expr
way = entry (pos 0)

abbrev row_minus_law : Entries Expr → Entries Expr → Entries Expr
row_minus_law a b = record { x = a.x ⊖ b.x; y = a.y ⊖ b.y; z = a.z ⊖ b.z; w = lit (pos 0) }

abbrev plane : Entries Expr → Entries Expr → Entries Expr → Entries Expr
plane a b c =
    let xy = minor a.x a.y b.x b.y in
    let xz = minor a.x a.z b.x b.z in
    let xw = minor a.x a.w b.x b.w in
    let yz = minor a.y a.z b.y b.z in
    let yw = minor a.y a.w b.y b.w in
    let zw = minor a.z a.w b.z b.w in
    record {
      x = alternating yz c.w yw c.z zw c.y;
      y = alternating xz c.w xw c.z zw c.x;
      z = alternating xy c.w xw c.y yw c.x;
      w = alternating xy c.z xz c.y yz c.x;
    }

abbrev by_directions : Entries Expr → Entries Expr → Entries Expr → Entries Expr
by_directions u v c =
    record {
      x = minor u.y u.z v.y v.z;
      y = minor u.x u.z v.x v.z;
      z = minor u.x u.y v.x v.y;
      w = triple_product_law c u v;
    }

abbrev total : Entries Expr → Entries Expr → Entries Expr → Entries Expr
total a b c =
    record { x = a.x ⊕ b.x ⊕ c.x; y = a.y ⊕ b.y ⊕ c.y; z = a.z ⊕ b.z ⊕ c.z; w = a.w ⊕ b.w ⊕ c.w }

-- ---- these are the plane and the slope

abbrev unit : Row → Row
unit r = record { x = r.x; y = r.y; z = r.z; w = pos 1 }

abbrev direction : Row → Row
direction r = record { x = r.x; y = r.y; z = r.z; w = pos 0 }

module _ (a b c : Row) where
  abbrev numbers : ℕ → ℤ
  numbers = env (a.x ∷ a.y ∷ a.z ∷ b.x ∷ b.y ∷ b.z ∷ c.x ∷ c.y ∷ c.z ∷ [])

  abbrev known : Entries Expr
  known = plane (one 0) (one 1) (one 2)

  abbrev made : Entries Expr
  made = by_directions (row_minus_law (one 0) (one 2)) (row_minus_law (one 1) (one 2)) (one 2)

  plane_seen : unit_plane (unit a) (unit b) (unit c) ≡ plane_of (unit a) (unit b) (unit c)
  unfolding plane_of
  plane_seen = λ i. record {
    x = ring numbers made.x known.x tt i;
    y = ring numbers made.y known.y tt i;
    z = ring numbers made.z known.z tt i;
    w = ring numbers made.w known.w tt i;
  }

  module _ (s t o : Row) where
    abbrev eighteen : ℕ → ℤ
    eighteen =
        env
        (a.x ∷ a.y ∷ a.z ∷ b.x ∷ b.y ∷ b.z ∷ c.x ∷ c.y ∷ c.z ∷ s.x ∷ s.y ∷ s.z ∷ t.x ∷ t.y ∷ t.z ∷ o.x ∷ o.y ∷ o.z ∷ [])

    abbrev sum : Entries Expr
    sum = total (plane (way 3) (one 1) (one 2)) (plane (one 0) (way 4) (one 2)) (plane (one 0) (one 1) (way 5))

    abbrev fewer : Entries Expr
    fewer =
        let u = row_minus_law (one 0) (one 2) in
        let v = row_minus_law (one 1) (one 2) in
        let n : Expr = lit (pos 0) in
        total (by_directions (row_minus_law (way 3) (way 5)) v (one 2)) (by_directions u (row_minus_law (way 4) (way 5)) (one 2))
        (record { x = n; y = n; z = n; w = triple_product_law (way 5) u v })

    abbrev three_planes : (a b c s t o : Row) → Row
    three_planes a b c s t o = sum_of (plane_of s b c) (plane_of a t c) (plane_of a b o)

    slope_seen :
        unit_slope (unit a) (unit b) (unit c) (direction s) (direction t) (direction o)
        ≡ three_planes (unit a) (unit b) (unit c) (direction s) (direction t) (direction o)
    unfolding plane_of
    slope_seen = λ i. record {
      x = ring eighteen fewer.x sum.x tt i;
      y = ring eighteen fewer.y sum.y tt i;
      z = ring eighteen fewer.z sum.z tt i;
      w = ring eighteen fewer.w sum.w tt i;
    }

unit_is : (r : Row) → r.w ≡ pos 1 → unit r ≡ r
unit_is r e i = record { x = r.x; y = r.y; z = r.z; w = sym e i }

module _ {a b c : Row} (h : Units a b c) where
  -- what is so of them with the weights written as 1 is so of them
  as_units : {R : Type 0} (f : Row → Row → Row → R) → f (unit a) (unit b) (unit c) ≡ f a b c
  as_units f i = f (unit_is a h.a i) (unit_is b h.b i) (unit_is c h.c i)

  pub unit_plane_law : unit_plane a b c ≡ plane_of a b c
  unit_plane_law = sym (as_units unit_plane) ∙ plane_seen a b c ∙ as_units plane_of

pub unit_slope_law : (row : ℕ → Row) (i j k : ℕ) → Units (row i) (row j) (row k) →
    unit_slope (row i) (row j) (row k) (shift_at row i) (shift_at row j) (shift_at row k) ≡ slope_of row i j k
unfolding slope_of shift_of
unit_slope_law row i j k h =
    let s = shift_at row i in
    let t = shift_at row j in
    let o = shift_at row k in
    sym (as_units h (λ (a b c : Row). unit_slope a b c s t o)) ∙ slope_seen (row i) (row j) (row k) s t o
    ∙ as_units h (λ (a b c : Row). sum_of (plane_of s b c) (plane_of a t c) (plane_of a b o))

-- The rows and shifts of a face's corners, seen from the last, are within the limits; what is made of them is the slope.
use mathlib.Core.Path.{◌≡◌, ◌∙◌}
use Rattle.laws.specs.Size.{called, reread}
use Rattle.scene.specs.Arrays.{row_in}
use Rattle.scene.specs.declared.Row.{Row}
use Rattle.orient.specs.Minors.{row_minus, triple_product}
use Rattle.orient.specs.Shifts.{shift_at}
use Rattle.survey_sides.specs.Slopes.{sum_of, slope_for}
use Rattle.survey_sides.specs.Units.{plane_from_directions, level, unit_slope_law}
use Rattle.survey_sides.specs.UnitSizes.{unit_less, shift_less, first_seen, second_seen, third_seen, seen_summed, triple_at, sum_at}
use Rattle.survey_sides.proofs.slopes.slope_from_directions.Goals as goal

-- ---- what each step asks for
pub row_minus-u-requires : goal.row_minus-u-requires
row_minus-u-requires c =
    rw (c.row_in.ensures, c.row_in-r.ensures) (unit_less (c.requires.0 _) (c.requires.0 _))

pub row_minus-v-requires : goal.row_minus-v-requires
row_minus-v-requires c =
    let r-is : c.row_in-r.result ≡ (row_in c.args.rows.now) c.args.f.r = c.row_in-r.ensures in
    rw (c.row_in-2.ensures, r-is) (unit_less (c.requires.0 _) (c.requires.0 _))

pub row_minus-requires : goal.row_minus-requires
row_minus-requires c =
    let o-is : c.shift_at-o.result ≡ shift_at (row_in c.args.rows.now) c.args.f.r = c.shift_at-o.ensures in
    rw (c.shift_at.ensures, o-is)
    (shift_less (row_in c.args.rows.now) c.args.f.q c.args.f.p c.args.f.r c.requires.0 c.requires.1.q c.requires.1.p c.requires.1.r)

pub plane_from_directions-requires : goal.plane_from_directions-requires
plane_from_directions-requires c =
    let r-is : c.row_in-r.result ≡ (row_in c.args.rows.now) c.args.f.r = c.row_in-r.ensures in
    let o-is : c.shift_at-o.result ≡ shift_at (row_in c.args.rows.now) c.args.f.r = c.shift_at-o.ensures in
    let v-is : c.row_minus-v.result ≡ row_minus ((row_in c.args.rows.now) c.args.f.p) ((row_in c.args.rows.now) c.args.f.r) = c.row_minus-v.ensures ∙ (λ i. row_minus (c.row_in-2.ensures i) (r-is i)) in
    let du-is : c.row_minus.result ≡ row_minus (shift_at (row_in c.args.rows.now) c.args.f.q) (shift_at (row_in c.args.rows.now) c.args.f.r) = c.row_minus.ensures ∙ (λ i. row_minus (c.shift_at.ensures i) (o-is i)) in
    triple_at r-is du-is v-is
    (first_seen (row_in c.args.rows.now) c.args.f.q c.args.f.p c.args.f.r c.requires.0 c.requires.1.q c.requires.1.p c.requires.1.r)

pub shift_at-requires-2 : goal.shift_at-requires-2
shift_at-requires-2 c =
    (c.requires.0, c.requires.1.p)

pub row_minus-requires-2 : goal.row_minus-requires-2
row_minus-requires-2 c =
    let o-is : c.shift_at-o.result ≡ shift_at (row_in c.args.rows.now) c.args.f.r = c.shift_at-o.ensures in
    rw (c.shift_at-2.ensures, o-is)
    (shift_less (row_in c.args.rows.now) c.args.f.p c.args.f.q c.args.f.r c.requires.0 c.requires.1.p c.requires.1.q c.requires.1.r)

pub plane_from_directions-requires-2 : goal.plane_from_directions-requires-2
plane_from_directions-requires-2 c =
    let r-is : c.row_in-r.result ≡ (row_in c.args.rows.now) c.args.f.r = c.row_in-r.ensures in
    let o-is : c.shift_at-o.result ≡ shift_at (row_in c.args.rows.now) c.args.f.r = c.shift_at-o.ensures in
    let u-is : c.row_minus-u.result ≡ row_minus ((row_in c.args.rows.now) c.args.f.q) ((row_in c.args.rows.now) c.args.f.r) = c.row_minus-u.ensures ∙ (λ i. row_minus (c.row_in.ensures i) (r-is i)) in
    let dv-is : c.row_minus-2.result ≡ row_minus (shift_at (row_in c.args.rows.now) c.args.f.p) (shift_at (row_in c.args.rows.now) c.args.f.r) = c.row_minus-2.ensures ∙ (λ i. row_minus (c.shift_at-2.ensures i) (o-is i)) in
    triple_at r-is u-is dv-is
    (second_seen (row_in c.args.rows.now) c.args.f.q c.args.f.p c.args.f.r c.requires.0 c.requires.1.q c.requires.1.p c.requires.1.r)

pub triple_product-requires : goal.triple_product-requires
triple_product-requires c =
    let r-is : c.row_in-r.result ≡ (row_in c.args.rows.now) c.args.f.r = c.row_in-r.ensures in
    let o-is : c.shift_at-o.result ≡ shift_at (row_in c.args.rows.now) c.args.f.r = c.shift_at-o.ensures in
    let u-is : c.row_minus-u.result ≡ row_minus ((row_in c.args.rows.now) c.args.f.q) ((row_in c.args.rows.now) c.args.f.r) = c.row_minus-u.ensures ∙ (λ i. row_minus (c.row_in.ensures i) (r-is i)) in
    let v-is : c.row_minus-v.result ≡ row_minus ((row_in c.args.rows.now) c.args.f.p) ((row_in c.args.rows.now) c.args.f.r) = c.row_minus-v.ensures ∙ (λ i. row_minus (c.row_in-2.ensures i) (r-is i)) in
    triple_at o-is u-is v-is
    (third_seen (row_in c.args.rows.now) c.args.f.q c.args.f.p c.args.f.r c.requires.0 c.requires.1.q c.requires.1.p c.requires.1.r)

-- ---- the sum of the three parts

pub added-requires : goal.added-requires
added-requires c =
    let r-is : c.row_in-r.result ≡ (row_in c.args.rows.now) c.args.f.r = c.row_in-r.ensures in
    let o-is : c.shift_at-o.result ≡ shift_at (row_in c.args.rows.now) c.args.f.r = c.shift_at-o.ensures in
    let u-is : c.row_minus-u.result ≡ row_minus ((row_in c.args.rows.now) c.args.f.q) ((row_in c.args.rows.now) c.args.f.r) = c.row_minus-u.ensures ∙ (λ i. row_minus (c.row_in.ensures i) (r-is i)) in
    let v-is : c.row_minus-v.result ≡ row_minus ((row_in c.args.rows.now) c.args.f.p) ((row_in c.args.rows.now) c.args.f.r) = c.row_minus-v.ensures ∙ (λ i. row_minus (c.row_in-2.ensures i) (r-is i)) in
    let du-is : c.row_minus.result ≡ row_minus (shift_at (row_in c.args.rows.now) c.args.f.q) (shift_at (row_in c.args.rows.now) c.args.f.r) = c.row_minus.ensures ∙ (λ i. row_minus (c.shift_at.ensures i) (o-is i)) in
    let dv-is : c.row_minus-2.result ≡ row_minus (shift_at (row_in c.args.rows.now) c.args.f.p) (shift_at (row_in c.args.rows.now) c.args.f.r) = c.row_minus-2.ensures ∙ (λ i. row_minus (c.shift_at-2.ensures i) (o-is i)) in
    let first-is : c.plane_from_directions.result ≡ plane_from_directions (row_minus (shift_at (row_in c.args.rows.now) c.args.f.q) (shift_at (row_in c.args.rows.now) c.args.f.r)) (row_minus ((row_in c.args.rows.now) c.args.f.p) ((row_in c.args.rows.now) c.args.f.r)) ((row_in c.args.rows.now) c.args.f.r) =
    c.plane_from_directions.ensures ∙ (λ i. plane_from_directions (du-is i) (v-is i) (r-is i)) in
    let second-is : c.plane_from_directions-2.result ≡ plane_from_directions (row_minus ((row_in c.args.rows.now) c.args.f.q) ((row_in c.args.rows.now) c.args.f.r)) (row_minus (shift_at (row_in c.args.rows.now) c.args.f.p) (shift_at (row_in c.args.rows.now) c.args.f.r)) ((row_in c.args.rows.now) c.args.f.r) =
    c.plane_from_directions-2.ensures ∙ (λ i. plane_from_directions (u-is i) (dv-is i) (r-is i)) in
    let third-is : ◌≡◌ {A = Row} (level (reread c.triple_product.result))
    (level (triple_product (shift_at (row_in c.args.rows.now) c.args.f.r) (row_minus ((row_in c.args.rows.now) c.args.f.q) ((row_in c.args.rows.now) c.args.f.r)) (row_minus ((row_in c.args.rows.now) c.args.f.p) ((row_in c.args.rows.now) c.args.f.r)))) =
    λ i. level (called c.triple_product.type_inv
    (c.triple_product.ensures ∙ (λ j. triple_product (o-is j) (u-is j) (v-is j))) i) in
    sum_at first-is second-is third-is
    (seen_summed (row_in c.args.rows.now) c.args.f.q c.args.f.p c.args.f.r c.requires.0 c.requires.1.q c.requires.1.p c.requires.1.r)

pub returns : goal.returns
unfolding slope_for
returns c =
    let r-is : c.row_in-r.result ≡ (row_in c.args.rows.now) c.args.f.r = c.row_in-r.ensures in
    let o-is : c.shift_at-o.result ≡ shift_at (row_in c.args.rows.now) c.args.f.r = c.shift_at-o.ensures in
    let u-is : c.row_minus-u.result ≡ row_minus ((row_in c.args.rows.now) c.args.f.q) ((row_in c.args.rows.now) c.args.f.r) = c.row_minus-u.ensures ∙ (λ i. row_minus (c.row_in.ensures i) (r-is i)) in
    let v-is : c.row_minus-v.result ≡ row_minus ((row_in c.args.rows.now) c.args.f.p) ((row_in c.args.rows.now) c.args.f.r) = c.row_minus-v.ensures ∙ (λ i. row_minus (c.row_in-2.ensures i) (r-is i)) in
    let du-is : c.row_minus.result ≡ row_minus (shift_at (row_in c.args.rows.now) c.args.f.q) (shift_at (row_in c.args.rows.now) c.args.f.r) = c.row_minus.ensures ∙ (λ i. row_minus (c.shift_at.ensures i) (o-is i)) in
    let dv-is : c.row_minus-2.result ≡ row_minus (shift_at (row_in c.args.rows.now) c.args.f.p) (shift_at (row_in c.args.rows.now) c.args.f.r) = c.row_minus-2.ensures ∙ (λ i. row_minus (c.shift_at-2.ensures i) (o-is i)) in
    let first-is : c.plane_from_directions.result ≡ plane_from_directions (row_minus (shift_at (row_in c.args.rows.now) c.args.f.q) (shift_at (row_in c.args.rows.now) c.args.f.r)) (row_minus ((row_in c.args.rows.now) c.args.f.p) ((row_in c.args.rows.now) c.args.f.r)) ((row_in c.args.rows.now) c.args.f.r) =
    c.plane_from_directions.ensures ∙ (λ i. plane_from_directions (du-is i) (v-is i) (r-is i)) in
    let second-is : c.plane_from_directions-2.result ≡ plane_from_directions (row_minus ((row_in c.args.rows.now) c.args.f.q) ((row_in c.args.rows.now) c.args.f.r)) (row_minus (shift_at (row_in c.args.rows.now) c.args.f.p) (shift_at (row_in c.args.rows.now) c.args.f.r)) ((row_in c.args.rows.now) c.args.f.r) =
    c.plane_from_directions-2.ensures ∙ (λ i. plane_from_directions (u-is i) (dv-is i) (r-is i)) in
    let third-is : ◌≡◌ {A = Row} (level (reread c.triple_product.result))
    (level (triple_product (shift_at (row_in c.args.rows.now) c.args.f.r) (row_minus ((row_in c.args.rows.now) c.args.f.q) ((row_in c.args.rows.now) c.args.f.r)) (row_minus ((row_in c.args.rows.now) c.args.f.p) ((row_in c.args.rows.now) c.args.f.r)))) =
    λ i. level (called c.triple_product.type_inv
    (c.triple_product.ensures ∙ (λ j. triple_product (o-is j) (u-is j) (v-is j))) i) in
    c.added.ensures ∙ (λ i. sum_of (first-is i) (second-is i) (third-is i))
    ∙ unit_slope_law (row_in c.args.rows.now) c.args.f.q c.args.f.p c.args.f.r c.requires.2

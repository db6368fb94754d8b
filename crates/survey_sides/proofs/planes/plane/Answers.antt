-- The rows of a face's corners are within the limits; where all weights are 1 there is a shorter way.
use mathlib.Core.Path.{◌≡◌, sym, subst, ◌∙◌}
use Prim.Native.Nat.{ℕ}
use Rattle.scene.specs.Limits.{limits}
use Rattle.scene.specs.Arrays.{row_in, RowWithin}
use Rattle.scene.specs.declared.Row.{Row}
use Rattle.survey_sides.specs.Planes.{plane_of, plane_for}
use Rattle.survey_sides.specs.Sizes.{plane_formed}
use Rattle.survey_sides.specs.Units.{units_are}
use Rattle.survey_sides.proofs.planes.plane.Goals as goal

pub plane-requires : goal.plane-requires
plane-requires c =
    let within : (n : ℕ) (r : Row) → r ≡ row_in c.args.rows.now n → RowWithin limits r =
    λ n r e. subst (RowWithin limits) (sym e) (c.requires.0 n) in (
      within _ _ c.row_in-q.ensures,
      within _ _ c.row_in-p.ensures,
      within _ _ c.row_in-r.ensures,
      units_are _ _ _ (sym c.are_units.ensures ∙ c.if-are_units.true),
    )

pub returns-then-are_units : goal.returns-then-are_units
unfolding plane_for
returns-then-are_units c =
    c.plane.ensures ∙ (λ i. plane_of (c.row_in-q.ensures i) (c.row_in-p.ensures i) (c.row_in-r.ensures i))

pub through-requires : goal.through-requires
through-requires c =
    rw (c.row_in-r.ensures, c.row_in-p.ensures, c.row_in-q.ensures) (plane_formed (c.requires.0 _) (c.requires.0 _) (c.requires.0 _))

pub returns : goal.returns
unfolding plane_for
returns c =
    c.through.ensures ∙ (λ i. plane_of (c.row_in-q.ensures i) (c.row_in-p.ensures i) (c.row_in-r.ensures i))

-- `orient::shift_at` meets its contract: the point is within the limits, and its shift is handed on without the weight. Assumes nothing.
use borrow.Author.Rules.{rules}
use mathlib.Core.Path.{◌∙◌, ap}
use mathlib.Core.Bool.{true}
use lib.IntN.{pos}
use Rattle.scene.specs.Limits.{limits}
use Rattle.scene.specs.Arrays.{row_in}
use Rattle.orient.specs.Bits.{read, RowFits}
use Rattle.orient.specs.Columns.{row_of}
use Rattle.orient.specs.Shifts.{shift_of}
use Rattle.orient.specs.Sizes.{point_within}
use Rattle.orient.specs.declared.Point.{Point}
use Rattle.orient.proofs.shift_at.Goals as goal

pub shifted-s-requires : goal.shifted-s-requires
shifted-s-requires c =
    rw c.point_at.ensures (point_within limits (row_in c.args.rows.now) c.args.i (c.requires.0 c.args.i) c.requires.1)

pub returns : goal.returns
unfolding shift_of
returns c =
    let f : RowFits c.shifted-s.result = search rules in
    let e = c.shifted-s.ensures ∙ ap (λ (p : Point). row_of p true true true) c.point_at.ensures in
    λ i.
    record {
      x = (read f.x ∙ (λ j. (e j).x)) i;
      y = (read f.y ∙ (λ j. (e j).y)) i;
      z = (read f.z ∙ (λ j. (e j).z)) i;
      w = pos 0;
    }

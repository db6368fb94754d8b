use native.Mathlib.Omega.{arith}
use mathlib.Core.Path.{◌∙◌}
use Rattle.scene.specs.Read.{row_none}
use Prim.Native.Nat.{◌+◌, ◌*◌}
use Rattle.laws.specs.Filled.{filled, filled_more}
use Rattle.scene.specs.Limits.{limits, most_points}
use Rattle.scene.specs.Tables.{tables_of, row}
use Rattle.scene.specs.Decode.{row_set, rows_decoded}
use borrow.Author.Rules.{rules}
use Rattle.scene.proofs.decode.rows.Goals as goal

pub loop-i-init : goal.loop-i-init
unfolding filled
loop-i-init c = search rules

pub loop-i-preserved : goal.loop-i-preserved
loop-i-preserved c =
    c.put_row.ensures ∙ filled_more row_set _ _ _ c.loop-i.invariant c.row.ensures

pub returns : goal.returns
returns c =
    rows_decoded (row (tables_of c.args.s.now)) c.loop-i.i (4 * (most_points limits + 1)) c.loop-i.invariant (omega arith)
    (λ j h. row_none c.args.s.now j (omega arith))

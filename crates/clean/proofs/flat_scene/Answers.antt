-- The scene is decoded once.
use mathlib.Core.Path.{ap₂, ◌∙◌}
use Rattle.clean.specs.Clean.{has_flat}
use native.Mathlib.Omega.{arith}
use Rattle.rules.proofs.Given.{rows_within}
use Rattle.clean.specs.Scene.{rows_fit, ready}
use Rattle.clean.proofs.flat_scene.Goals as goal

pub has_flat-requires : goal.has_flat-requires
has_flat-requires c =
    ready c.args.s.now c.requires c.rows.ensures (omega arith)

pub returns : goal.returns
returns c =
    c.has_flat.ensures ∙ ap₂ has_flat (omega arith) c.rows.ensures

pub rows-requires : goal.rows-requires
rows-requires c = search (rows_fit, rows_within)

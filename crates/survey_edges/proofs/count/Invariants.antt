-- Each turn counts the ones of one mask more.
use Prim.Native.Nat.{ℕ, ◌*◌, ◌≤◌}
use mathlib.Core.Path.{◌≡◌}
use mathlib.Core.List.{List}
use lib.ListN.{length}
use Rattle.pierce_masks.specs.Faces.{width}
use Rattle.survey_edges.specs.Table.{table_hits}
use Rattle.survey_edges.proofs.count.Given as goal

abbrev pub invariant-loop-j : goal.invariant-loop-j
invariant-loop-j l = (l.c ≤ width * l.j) × ((first : ℕ) (ends : List ℕ) → l.c ≡ length (table_hits first ends l.masks l.j))

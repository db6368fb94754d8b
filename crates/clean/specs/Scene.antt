-- An accepted scene, decoded: its rows are within the limits, and its points no more than there may be. Assumes nothing.
use Rattle.std.specs.Prelude.{◌≡◌, List, ℕ, ◌+◌, ◌≤◌, Ok}
use Rattle.std.proofs.Common.{arith}
use Rattle.scene.specs.Limits.{limits, most_points}
use Rattle.scene.specs.Records.{verts}
use Rattle.scene.specs.Tables.{tables_of, row}
use Rattle.scene.specs.Arrays.{AllWithin}
use Rattle.scene.specs.declared.Row.{Row}
use Rattle.judge.specs.Judge.{judged}
use Rattle.rules.proofs.Given.{counts, rows_within}

module _ (s : List ℕ) (ok : judged s ≡ Ok tt) where
  pub rows_fit : verts s + 1 ≤ most_points limits
  rows_fit = let c = counts limits s ok in omega (arith, c.vertices_a_law, c.vertices_b_law)

  pub ready : {rows : ℕ → Row} {n : ℕ} → rows ≡ row (tables_of s) → n ≡ verts s + 1 → AllWithin limits rows × (n ≤ most_points limits)
  ready e is-n = (rw e (rows_within limits s ok), omega (arith, rows_fit))

-- An accepted scene stays accepted when the row of one point changes within its rules: the marks, the faces and the other rows are as they
-- were. Assumes nothing.
use Rattle.std.specs.Prelude.{◌≡◌, refl, ◌≢◌, List, ℕ, zero, suc, ◌+◌, ◌≤◌, ◌<◌, Ok}
use Rattle.std.proofs.Common.{arith}
use Rattle.std.proofs.Math.Decide.{dec_lt, ℕ_discrete}
use Rattle.scene.specs.Limits.{limits, least_weight}
use Rattle.scene.specs.Records.{verts, point_start}
use Rattle.scene.specs.Tables.{row_at}
use Rattle.scene.specs.Bytes.{byte_at}
use Rattle.scene.specs.Write.{RowFits, row_put}
use Rattle.scene.specs.Written.{row_length, row_below, row_above, row_back}
use Rattle.scene.specs.declared.Row.{Row}
use Rattle.judge.specs.Judge.{judged}
use Rattle.rules.specs.Rules.{Zeros}
use Rattle.rules.specs.TableRules.{RowOk}
use Rattle.rules.proofs.Accepted.{accepted}
use Rattle.rules.proofs.Bridge.{by_tables}
use Rattle.rules.specs.Frame.{Same, row_frame}
use Rattle.rules.specs.Frame.{Rerowed}
use Rattle.rules.proofs.Rerowed.{still_accepted}

module _ (s : List ℕ) (j : ℕ) (v : Row) where
  abbrev s' : List ℕ
  s' = row_put s j v

  -- ---- the bytes that stay: those of the marks, and of the other points

  apart : (i m : ℕ) → (j < i → point_start j + 9 ≤ m) → (¬ (j < i) → m < point_start j + 2) → byte_at (row_put s j v) m ≡ byte_at s m
  apart i m above below = go (dec_lt j i)
    where
      go : Dec (j < i) → byte_at (row_put s j v) m ≡ byte_at s m
      go (yes l) = row_above s j v m (above l)
      go (no l) = row_below s j v m (below l)

  other_same : (i : ℕ) → i ≢ j → Same (row_put s j v) s (point_start i) 9
  other_same i d m a b = apart i m (λ l. omega arith) (λ l. omega arith)

  rerowed : j ≤ verts s → Rerowed s (row_put s j v)
  rerowed here =
      record {
        long = row_length s j v;
        header = λ m a b. row_below s j v m (omega arith);
        mark = λ i h m a b. apart i m (λ l. omega arith) (λ l. omega arith);
        behind = λ k n h m a b. row_above s j v m (omega arith);
      }

  -- ---- the rows

  module _ (here : j ≤ verts s) (q : judged s ≡ Ok tt) (row : RowOk (least_weight j) limits v) (fits : RowFits v) where
    here_row : row_at (row_put s j v) j ≡ v
    here_row = row_back s j v fits (let e = ((accepted limits s).0 q).header.long in omega arith)

    row_ok : (i : ℕ) → i ≤ verts s → RowOk (least_weight i) limits (row_at (row_put s j v) i)
    row_ok i b = go (ℕ_discrete i j)
      where
        go : Dec (i ≡ j) → RowOk (least_weight i) limits (row_at (row_put s j v) i)
        go (yes e) = rw (e, here_row) row
        go (no d) =
            let r = ((accepted limits s).0 q).records (i + 1) (omega arith) (omega arith) in
            rw (row_frame s' s i (other_same i d)) (record { coordinates = r.coordinates i b refl; weight = r.weight i b refl })

    moved : ¬ Zeros (row_at (row_put s j v) 0) → judged (row_put s j v) ≡ Ok tt
    moved somewhere = still_accepted s s' (rerowed here) row_ok somewhere q

-- ---- a vertex, and the far point

pub vertex_accepted : (s : List ℕ) (p : ℕ) (v : Row) → RowFits v → judged s ≡ Ok tt → 1 ≤ p → p ≤ verts s → RowOk 1 limits v →
    judged (row_put s p v) ≡ Ok tt
vertex_accepted s zero v fits q a b ok = absurd (omega arith)
vertex_accepted s (suc p) v fits q a b ok =
    let far : row_at (row_put s (suc p) v) 0 ≡ row_at s 0 = row_frame (row_put s (suc p) v) s 0 (other_same s (suc p) v 0 (omega arith)) in
    moved s (suc p) v b q ok fits (rw far ((by_tables limits s).0 ((accepted limits s).0 q)).1.somewhere)

pub far_accepted : (s : List ℕ) (v : Row) → RowFits v → judged s ≡ Ok tt → RowOk 0 limits v → ¬ Zeros v →
    judged (row_put s 0 v) ≡ Ok tt
far_accepted s v fits q ok z = moved s 0 v (omega arith) q ok fits (rw (here_row s 0 v (omega arith) q ok fits) z)

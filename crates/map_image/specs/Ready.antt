-- An accepted scene and a table with entries in range: their products are small enough. Assumes nothing.
use Rattle.std.specs.Prelude.{◌≡◌, refl, true, List, ℕ, ◌+◌, ◌≤◌, nat_abs, length, Ok}
use Rattle.std.proofs.Common.{sym, subst, ap, ◌∙◌, le_trans, arith, lit≤}
use Rattle.std.proofs.Math.Decide.{ℕ_discrete}
use Rattle.laws.specs.Decides.{decides}
use Rattle.laws.specs.Filled.{filled}
use Rattle.scene.specs.Limits.{limits, least_weight, within}
use Rattle.scene.specs.Records.{verts, point_start}
use Rattle.scene.specs.Tables.{row_at}
use Rattle.scene.specs.Read.{row_is, far_is}
use Rattle.scene.specs.Write.{RowFits, row_put}
use Rattle.scene.specs.declared.Row.{Row}
use Rattle.judge.specs.Judge.{judged}
use Rattle.judge.specs.Laws.{rule_ok, rule_rest}
use Rattle.judge.specs.Tests.{first_iff}
use Rattle.rules.proofs.Accepted.{accepted}
use Rattle.rules.proofs.Given.{rows_within}
use Rattle.clean.specs.Sizes.{most_entry, RowSmall, row_small}
use Rattle.map_image.specs.Image.{row_upto, entries_ok, most_table, image_row, coordinates_ok, weight_ok, row_fault, point_fault, rows_fault}
use Rattle.map_image.specs.Columns.{columns_of, MapSmall}
use Rattle.map_image.specs.declared.Map.{Map}

-- a scene that is accepted, and a table of which each entry is in its range
pub record Mappable (s : List ℕ) (m : Map) : Type 0 where
  pub accepted : judged s ≡ Ok tt
  pub entries : entries_ok m ≡ true

-- ---- the table

upto_small : (k : ℕ) (r : Row) → k ≤ most_entry → row_upto k r ≡ true → RowSmall most_entry r
unfolding row_upto
upto_small k r l h =
    let t = simp decides at h in
    record {
      x = record { size = le_trans t.0 l };
      y = record { size = le_trans t.1.0 l };
      z = record { size = le_trans t.1.1.0 l };
      w = record { size = le_trans t.1.1.1 l };
    }

pub map_small : (m : Map) → entries_ok m ≡ true → MapSmall m
unfolding entries_ok
map_small m h =
    let t = simp decides at h in
    record {
      x = upto_small most_table m.x (lit≤ tt) t.0;
      y = upto_small most_table m.y (lit≤ tt) t.1.0;
      z = upto_small most_table m.z (lit≤ tt) t.1.1.0;
      w = upto_small most_table m.w (lit≤ tt) t.1.1.1;
    }

pub columns_small : {m t : Map} → t ≡ columns_of m → MapSmall m → MapSmall t
columns_small {m} e h = subst MapSmall (sym e) (omega arith)

-- ---- the scene's rows

module _ (s : List ℕ) (ok : judged s ≡ Ok tt) where
  pub file_row_small : (j : ℕ) → j ≤ verts s → {r : Row} → r ≡ row_at s j → RowSmall most_entry r
  file_row_small j b {r} e = subst (RowSmall most_entry) (sym e) (by (ℕ_discrete j 0))
    where
      by : Dec (j ≡ 0) → RowSmall most_entry (row_at s j)
      by (yes z) =
          subst (λ (i : ℕ). RowSmall most_entry (row_at s i)) (sym z)
          (row_small (rows_within limits s ok) (verts s + 1) (sym (far_is s refl)))
      by (no z) = row_small (rows_within limits s ok) j (sym (row_is s j (omega arith) b))

  -- the record of a point stands in the file
  pub point_room : (j : ℕ) → j ≤ verts s → point_start j + 9 ≤ length s
  point_room j b = let e = ((accepted limits s).0 ok).header.long in omega (arith, e)

-- ---- an image whose rows pass

pub record RowIn (j : ℕ) (r : Row) : Type 0 where
  pub x : nat_abs r.x ≤ limits.most_coordinate
  pub y : nat_abs r.y ≤ limits.most_coordinate
  pub z : nat_abs r.z ≤ limits.most_coordinate
  pub weight : (least_weight j ≤ nat_abs r.w) × (nat_abs r.w ≤ limits.most_weight)

row_in_law : (j : ℕ) (r : Row) → row_fault j r ≡ Ok tt → RowIn j r
unfolding row_fault coordinates_ok weight_ok within
row_in_law j r h =
    let c = simp decides at (rule_ok _ _ _ h) in
    let w = simp decides at (rule_ok _ _ _ (rule_rest _ _ _ h)) in
    record { x = c.0; y = c.1.0; z = c.1.1; weight = w }

module _ (s : List ℕ) (m : Map) (h : rows_fault m s ≡ Ok tt) where
  pub rows_in : (j : ℕ) → j ≤ verts s → RowIn j (image_row m s j)
  unfolding rows_fault point_fault
  rows_in j b = row_in_law j (image_row m s j) ((first_iff (point_fault m s) 0 (verts s + 1)).0 h j (omega arith) (omega arith))

  pub row_fits : (j : ℕ) → j ≤ verts s → {r : Row} → r ≡ image_row m s j → RowFits r
  row_fits j b e = let k = rows_in j b in subst RowFits (sym e) (omega arith)

-- all rows stored
pub all_stored : (g : ℕ → Row) (l₀ : List ℕ) {l : List ℕ} {j n : ℕ} → l ≡ filled row_put g j l₀ → j ≡ n → l ≡ filled row_put g n l₀
all_stored g l₀ e h = e ∙ ap (λ (k : ℕ). filled row_put g k l₀) h

-- The table by its columns: a row times the table is the row's product with each. Assumes nothing.
use Rattle.std.specs.Prelude.{◌≡◌, refl}
use Rattle.std.proofs.Common.{lit≤}
use Rattle.laws.specs.Size.{below}
use Rattle.scene.specs.declared.Row.{Row}
use Rattle.clean.specs.Planes.{dot_of}
use Rattle.clean.specs.Sizes.{most_entry, most_coefficient, RowSmall}
use Rattle.map_image.specs.Mapped.{mapped}
use Rattle.map_image.specs.declared.Map.{Map}

-- the x of four rows, their y, their z, their w
abbrev pub column_x : (a b c d : Row) → Row
column_x a b c d = record { x = a.x; y = b.x; z = c.x; w = d.x }

abbrev pub column_y : (a b c d : Row) → Row
column_y a b c d = record { x = a.y; y = b.y; z = c.y; w = d.y }

abbrev pub column_z : (a b c d : Row) → Row
column_z a b c d = record { x = a.z; y = b.z; z = c.z; w = d.z }

abbrev pub column_w : (a b c d : Row) → Row
column_w a b c d = record { x = a.w; y = b.w; z = c.w; w = d.w }

abbrev pub columns_of : Map → Map
columns_of m =
    record {
      x = column_x m.x m.y m.z m.w;
      y = column_y m.x m.y m.z m.w;
      z = column_z m.x m.y m.z m.w;
      w = column_w m.x m.y m.z m.w;
    }

unfoldable pub times_columns : Map → Row → Row
times_columns t r = record { x = dot_of r t.x; y = dot_of r t.y; z = dot_of r t.z; w = dot_of r t.w }

pub times_columns_law : (m : Map) (r : Row) → times_columns (columns_of m) r ≡ mapped m r
unfolding times_columns mapped dot_of
times_columns_law m r = refl

-- ---- sizes

pub record MapSmall (m : Map) : Type 0 where
  pub x : RowSmall most_entry m.x
  pub y : RowSmall most_entry m.y
  pub z : RowSmall most_entry m.z
  pub w : RowSmall most_entry m.w

-- an entry is less than a coefficient
pub row_below : {r : Row} → RowSmall most_entry r → RowSmall most_coefficient r
row_below h = record { x = below h.x (lit≤ tt); y = below h.y (lit≤ tt); z = below h.z (lit≤ tt); w = below h.w (lit≤ tt) }

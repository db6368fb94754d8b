-- The columns are as small as the table, and the row as the scene's.
use mathlib.Core.Path.{ap₂, ◌∙◌}
use Rattle.map_image.specs.Columns.{times_columns, times_columns_law}
use Rattle.map_image.specs.Ready.{map_small, columns_small, file_row_small}
use Rattle.map_image.proofs.image.image_row.Goals as goal

pub times_columns-requires : goal.times_columns-requires
times_columns-requires c = (
  columns_small c.columns.ensures (map_small _ c.requires.0.entries),
  file_row_small _ c.requires.0.accepted _ c.requires.1 c.row_at.ensures,
)

pub returns : goal.returns
returns c =
    c.times_columns.ensures ∙ ap₂ times_columns c.columns.ensures c.row_at.ensures ∙ times_columns_law _ _

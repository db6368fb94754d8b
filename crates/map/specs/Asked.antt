-- Four words that are numbers denote a row, and four rows a map. Assumes nothing.
use Rattle.std.specs.Prelude.{ℤ, Option, Some, None}
use Rattle.scene.specs.declared.Row.{Row}
use Rattle.map_image.specs.declared.Map.{Map}

unfoldable pub row_of : (x y z w : Option ℤ) → Option Row
row_of (Some x) (Some y) (Some z) (Some w) = Some (record { x = x; y = y; z = z; w = w })
row_of (Some x) (Some y) (Some z) None = None
row_of (Some x) (Some y) None w = None
row_of (Some x) None z w = None
row_of None y z w = None

unfoldable pub map_of : (x y z w : Option Row) → Option Map
map_of (Some x) (Some y) (Some z) (Some w) = Some (record { x = x; y = y; z = z; w = w })
map_of (Some x) (Some y) (Some z) None = None
map_of (Some x) (Some y) None w = None
map_of (Some x) None z w = None
map_of None y z w = None

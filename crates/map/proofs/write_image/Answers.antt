-- An image that is written fits.
use Rattle.std.proofs.Common.{rules}
use Rattle.map.specs.Laws.{image_fits}
use Rattle.map.proofs.write_image.Goals as goal

pub slice_bounds-answer-end : goal.slice_bounds-answer-end
slice_bounds-answer-end c = search (image_fits, rules)

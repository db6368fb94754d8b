-- The four products and their sums are small enough.
use Rattle.laws.specs.Size.{fit, kept}
use Rattle.clean.specs.Sizes.{dot_x, dot_y, dot_z, dot_w, dot_xy, dot_xyz, dotted}
use Rattle.clean.proofs.planes.dot.Goals as goal

pub overflow_mul-result : goal.overflow_mul-result
overflow_mul-result c = fit (dot_x c.requires)

pub overflow_mul-result-2 : goal.overflow_mul-result-2
overflow_mul-result-2 c = fit (dot_y c.requires)

pub overflow_add-result : goal.overflow_add-result
overflow_add-result c = fit (dot_xy c.requires)

pub overflow_mul-result-3 : goal.overflow_mul-result-3
overflow_mul-result-3 c = fit (dot_z c.requires)

pub overflow_add-result-2 : goal.overflow_add-result-2
overflow_add-result-2 c = fit (dot_xyz c.requires)

pub overflow_mul-result-4 : goal.overflow_mul-result-4
overflow_mul-result-4 c = fit (dot_w c.requires)

pub overflow_add-result-3 : goal.overflow_add-result-3
overflow_add-result-3 c = fit (dotted c.requires)

pub returns : goal.returns
returns c = kept (dotted c.requires)

-- The products, their differences and the sum are all small enough.
use Rattle.laws.specs.Size.{fit, kept}
use Rattle.clean.specs.Sizes.{two, cross, third, both, whole}
use Rattle.clean.proofs.planes.volume.Goals as goal

pub overflow_mul-result : goal.overflow_mul-result
overflow_mul-result c = fit (two c.requires.1.y c.requires.2.z)

pub overflow_mul-result-2 : goal.overflow_mul-result-2
overflow_mul-result-2 c = fit (two c.requires.1.z c.requires.2.y)

pub overflow_sub-result : goal.overflow_sub-result
overflow_sub-result c = fit (cross c.requires.1.y c.requires.2.z c.requires.1.z c.requires.2.y)

pub overflow_mul-result-3 : goal.overflow_mul-result-3
overflow_mul-result-3 c = fit (third c.requires.1.y c.requires.2.z c.requires.1.z c.requires.2.y c.requires.0.x)

pub overflow_mul-result-4 : goal.overflow_mul-result-4
overflow_mul-result-4 c = fit (two c.requires.1.x c.requires.2.z)

pub overflow_mul-result-5 : goal.overflow_mul-result-5
overflow_mul-result-5 c = fit (two c.requires.1.z c.requires.2.x)

pub overflow_sub-result-2 : goal.overflow_sub-result-2
overflow_sub-result-2 c = fit (cross c.requires.1.x c.requires.2.z c.requires.1.z c.requires.2.x)

pub overflow_mul-result-6 : goal.overflow_mul-result-6
overflow_mul-result-6 c = fit (third c.requires.1.x c.requires.2.z c.requires.1.z c.requires.2.x c.requires.0.y)

pub overflow_sub-result-3 : goal.overflow_sub-result-3
overflow_sub-result-3 c = fit (both c.requires)

pub overflow_mul-result-7 : goal.overflow_mul-result-7
overflow_mul-result-7 c = fit (two c.requires.1.x c.requires.2.y)

pub overflow_mul-result-8 : goal.overflow_mul-result-8
overflow_mul-result-8 c = fit (two c.requires.1.y c.requires.2.x)

pub overflow_sub-result-4 : goal.overflow_sub-result-4
overflow_sub-result-4 c = fit (cross c.requires.1.x c.requires.2.y c.requires.1.y c.requires.2.x)

pub overflow_mul-result-9 : goal.overflow_mul-result-9
overflow_mul-result-9 c = fit (third c.requires.1.x c.requires.2.y c.requires.1.y c.requires.2.x c.requires.0.z)

pub overflow_add-result : goal.overflow_add-result
overflow_add-result c = fit (whole c.requires)

pub returns : goal.returns
returns c = kept (whole c.requires)

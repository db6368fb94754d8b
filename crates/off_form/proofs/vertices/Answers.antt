-- A count that is too large tells as much as the largest number.
use native.Mathlib.Omega.{arith}
use Rattle.off_form.proofs.Laws.{numbers_few, numbers_many, numbers_low}
use Rattle.off_form.proofs.vertices.Goals as goal

pub times-requires : goal.times-requires
times-requires c = (omega arith, omega arith, numbers_low _ c.requires.2.per)

pub returns-then-h-lt4611686018427387904 : goal.returns-then-h-lt4611686018427387904
returns-then-h-lt4611686018427387904 c =
    numbers_few _ (omega arith) _ (omega arith) _ c.requires.2.vertices c.requires.2.per (omega arith) c.times.ensures c.wholes.ensures

pub returns : goal.returns
returns c =
    numbers_many _ (omega arith) _ (omega arith) _ c.requires.2.vertices c.requires.2.per (omega arith) (omega arith) c.wholes-2.ensures

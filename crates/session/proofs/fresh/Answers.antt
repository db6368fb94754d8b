use mathlib.Core.Path.{sym}
use native.Mathlib.Omega.{arith}
use lib.Seq.{length-take-le}
use Rattle.session.specs.Session.{fresh}
use Rattle.session.proofs.fresh.Goals as goal

pub slice_bounds-counts_of-end : goal.slice_bounds-counts_of-end
slice_bounds-counts_of-end c = sym (length-take-le _ _ (omega arith))

pub returns : goal.returns
unfolding fresh
returns c = cc

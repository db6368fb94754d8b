-- Below 2^53 by the number that it is cut to, and from there on by being finite.
use Rattle.std.proofs.Common.{T, sym, ◌∙◌, subst}
use Rattle.std.specs.Float.Ieee.{of_bits, neg}
use Rattle.doubles.specs.Fraction.{from, upto, by_cut, low, large}
use Rattle.doubles.proofs.whole.is_whole.Goals as goal

pub truncating_f64_to_i64-requires : goal.truncating_f64_to_i64-requires
unfolding of_bits neg
truncating_f64_to_i64-requires c =
    record { lower_bound = from c.args.x c.if-x.true c.if-x-2.true; upper_bound = upto c.args.x c.if-x.true c.if-x-2.true }

pub returns-then-x-2 : goal.returns-then-x-2
unfolding of_bits neg
returns-then-x-2 c =
    by_cut c.args.x c.if-x.true c.if-x-2.true
    c.truncating_f64_to_i64.ensures c.nearest_i64_to_f64.ensures

pub returns-then-x : goal.returns-then-x
unfolding of_bits neg
returns-then-x c =
    c.is_finite.ensures ∙ low c.args.x (subst T (sym c.well_formed.0.1) tt) c.if-x-2.false

pub returns : goal.returns
unfolding of_bits neg
returns c =
    c.is_finite-2.ensures ∙ large c.args.x (subst T (sym c.well_formed.0.1) tt) c.if-x.false

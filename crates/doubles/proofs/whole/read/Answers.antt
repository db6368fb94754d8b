-- Each branch tells what the double is.
use Rattle.std.proofs.Common.{◌^◌, le_of_lt, le→leb}
use Rattle.std.specs.Float.Ieee.{of_bits, in_float}
use Rattle.doubles.specs.Read.{too_high, too_low, casts, as_cast}
use Rattle.doubles.proofs.whole.read.Goals as goal
use Rattle.doubles.proofs.whole.read.Goals.{then-m-x-via-then-m-x, then-m-x-via-else-m-x+then-x-m}

pub int_to_float-m : goal.int_to_float-m
unfolding in_float
int_to_float-m c = le→leb c.args.most (2 ^ 53) (le_of_lt c.requires)

pub returns-then-m-x : goal.returns-then-m-x
unfolding of_bits
returns-then-m-x c =
    elim c.then-m-x.branch [
      | then-m-x-via-then-m-x w ↦
          too_high c.args.x c.args.most c.requires c.is_whole.ensures c.if-not-is_whole.false w.if-m-x.true
      | then-m-x-via-else-m-x+then-x-m w ↦
          too_low c.args.x c.args.most c.requires c.is_whole.ensures c.if-not-is_whole.false w.if-x-m.true
    ]

pub float_to_int-result : goal.float_to_int-result
unfolding of_bits
float_to_int-result c =
    casts c.args.x c.args.most c.requires c.is_whole.ensures c.if-not-is_whole.false c.if-m-x.false c.if-x-m.false

pub returns : goal.returns
unfolding of_bits
returns c =
    as_cast c.args.x c.args.most c.requires c.is_whole.ensures c.if-not-is_whole.false c.if-m-x.false c.if-x-m.false

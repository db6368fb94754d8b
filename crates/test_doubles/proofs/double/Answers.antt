-- The bits are not a NaN's.
use Rattle.test_doubles.specs.Bits.{no_nan_bits}
use Rattle.test_doubles.proofs.double.Goals as goal

pub float_from_bits-result : goal.float_from_bits-result
float_from_bits-result c = no_nan_bits _ c.if-n-le9218868437227405312.true

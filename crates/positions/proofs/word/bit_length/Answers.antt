-- What is not a leading zero is a digit.
use native.Mathlib.Omega.{arith}
use lib.Count.{leading_le}
use Rattle.positions.proofs.Bits.{bit-length-law}
use Rattle.positions.proofs.word.bit_length.Goals as goal

pub overflow_cast-result : goal.overflow_cast-result
overflow_cast-result c = omega (arith, leading_le 64 c.args.w)

pub overflow_sub-result : goal.overflow_sub-result
overflow_sub-result c = leading_le 64 c.args.w

pub returns : goal.returns
returns c = bit-length-law c.args.w c.ranges.w.fits

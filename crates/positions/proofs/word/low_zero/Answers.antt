-- The lowest bit that is not set is the lowest that the complement has.
use Prim.Native.Nat.{◌-◌, ◌^◌}
use native.Mathlib.Omega.{arith}
use lib.Count.{trailing_le}
use Rattle.positions.proofs.Bits.{low-zero-law}
use Rattle.positions.proofs.word.low_zero.Goals as goal

pub overflow_cast-result : goal.overflow_cast-result
overflow_cast-result c = omega (arith, trailing_le 64 ((2 ^ 64 - 1) - c.args.w))

pub returns : goal.returns
returns c = low-zero-law c.args.w c.ranges.w.fits

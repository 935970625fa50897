-- A word below 2 ^ 64 has as many ones as bits that are set below 64.
use native.Mathlib.Omega.{arith}
use lib.Count.{ones-le}
use Rattle.positions.proofs.Bits.{ones-count}
use Rattle.positions.proofs.word.ones.Goals as goal

pub overflow_cast-result : goal.overflow_cast-result
overflow_cast-result c = omega (arith, ones-le 64 c.args.w c.ranges.w.fits)

pub returns : goal.returns
returns c = (ones-count 64 c.args.w c.ranges.w.fits, ones-le 64 c.args.w c.ranges.w.fits)

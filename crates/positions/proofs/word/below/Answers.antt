-- Below 64 the mask of n ones keeps the bits below n; from 64 on every bit of a word is below n.
use mathlib.Core.Path.{sym, ap, ◌∙◌}
use mathlib.Core.Bool.{Bool, ◌&&◌, and-true}
use native.Mathlib.Omega.{arith}
use lib.Pow.{pow_pos}
use borrow.Author.Tests.{lt-ltb}
use Rattle.positions.specs.Bits.{bit}
use Rattle.positions.proofs.Bits.{shl_one, bit-and, bit_mask}
use Rattle.positions.proofs.word.below.Goals as goal

pub overflow_sub-result : goal.overflow_sub-result
overflow_sub-result c = omega (arith, shl_one c.args.n c.if-n-lt64.true, pow_pos c.args.n)

pub returns-then-n-lt64 : goal.returns-then-n-lt64
returns-then-n-lt64 c = λ j p. let a = c.args in rw (shl_one a.n c.if-n-lt64.true) (bit-and j a.w _ ∙ ap (λ (x : Bool). bit a.w j && x) (bit_mask a.n j))

pub returns-else-n-lt64 : goal.returns-else-n-lt64
returns-else-n-lt64 c = λ j p. let a = c.args in let q = c.if-n-lt64.false in rw (lt-ltb j a.n (omega arith)) (sym (and-true (bit a.w j)))

-- The bit k % 64 of the word k / 64 is tested; no position from 256 on is a member.
use mathlib.Core.Path.{sym}
use borrow.Author.Tests.{lt-ltb}
use Rattle.positions.specs.Members.{has}
use Rattle.positions.proofs.Bits.{test_bit}
use Rattle.positions.proofs.Words.{has-out}
use Rattle.positions.proofs.Positions.contains.Goals as goal

pub returns-then-k-lt256 : goal.returns-then-k-lt256
unfolding has
returns-then-k-lt256 c = rw (lt-ltb _ _ c.if-k-lt256.true) (test_bit _ _)

pub returns-else-k-lt256 : goal.returns-else-k-lt256
returns-else-k-lt256 c = let a = c.args in sym (has-out a.self.now a.i.0 c.if-k-lt256.false)

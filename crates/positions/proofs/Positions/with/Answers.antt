-- One bit of one word is set; a position from 256 on is never a member.
use mathlib.Core.Path.{◌≡◌}
use lib.ListN.{length}
use borrow.Author.Rules.{rules}
use Rattle.positions.proofs.Words.{with-law, with_none}
use Rattle.positions.proofs.Positions.with.Goals as goal

pub returns-then-k-lt256 : goal.returns-then-k-lt256
returns-then-k-lt256 c = let a = c.args in let l : length a.self.words ≡ 4 = search rules in with-law a.self a.i.0 c.with_digit.result l c.if-k-lt256.true c.with_digit.ensures

pub returns-else-k-lt256 : goal.returns-else-k-lt256
returns-else-k-lt256 c = λ k. let a = c.args in with_none a.self a.i.0 k c.if-k-lt256.false

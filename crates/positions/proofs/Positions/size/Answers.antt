-- The members are counted word by word.
use native.Mathlib.Omega.{arith}
use Rattle.positions.proofs.Words.{count-four}
use Rattle.positions.proofs.Positions.size.Goals as goal

pub returns : goal.returns
returns c = let a = c.args in omega (arith, count-four a.self)

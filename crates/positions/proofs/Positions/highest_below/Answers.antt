-- The greatest of the members below n.
use Rattle.positions.proofs.Members.{highest-law}
use Rattle.positions.proofs.Positions.highest_below.Goals as goal

pub returns : goal.returns
returns c = let a = c.args in highest-law a.self c.below.result a.n c.below.ensures c.highest.result c.highest.ensures

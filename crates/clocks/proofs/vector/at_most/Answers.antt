use Rattle.std.proofs.Common.{rules}
use Rattle.clocks.proofs.Vectors.{at-most-by}
use Rattle.clocks.proofs.vector.at_most.Goals as goal

pub returns : goal.returns
returns c = at-most-by _ _ _ (search rules)

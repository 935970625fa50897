-- No word has a bit.
use Rattle.positions.proofs.Words.{none}
use Rattle.positions.proofs.Positions.empty.Goals as goal

pub returns : goal.returns
returns c = none

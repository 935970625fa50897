-- Every word has all its bits.
use Rattle.positions.proofs.Words.{every}
use Rattle.positions.proofs.Positions.all.Goals as goal

pub returns : goal.returns
returns c = every

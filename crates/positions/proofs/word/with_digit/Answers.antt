-- The digit shifted up is the bit k or nothing.
use Rattle.positions.proofs.Bits.{digit-law}
use Rattle.positions.proofs.word.with_digit.Goals as goal

pub returns : goal.returns
returns c = λ j. let a = c.args in digit-law a.w a.d a.k j c.requires.0 c.requires.1

-- An `and` with the complement, bit by bit.
use mathlib.Core.Path.{ap, ◌∙◌}
use mathlib.Core.Bool.{Bool, ◌&&◌}
use Rattle.positions.specs.Bits.{bit}
use Rattle.positions.proofs.Bits.{bit-not64, bit-and}
use Rattle.positions.proofs.word.without.Goals as goal

pub returns : goal.returns
returns c = λ j p. let a = c.args in bit-and j a.w _ ∙ ap (λ (x : Bool). bit a.w j && x) (bit-not64 a.v j c.ranges.v.fits p)

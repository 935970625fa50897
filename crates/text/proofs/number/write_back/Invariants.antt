-- What is still to be written into the buffer as it is, gives what was to be written into the buffer as it came.
use mathlib.Core.Path.{◌≡◌}
use Rattle.text.specs.Inner.{written_back}
use Rattle.text.proofs.number.write_back.Given as goal

abbrev pub invariant-loop-j : goal.invariant-loop-j
invariant-loop-j l = written_back l.initial.out l.at l.k l.n ≡ written_back l.out l.at l.j l.rest

-- Each turn keeps what `Reading` says.
use Rattle.text.proofs.Reading.{Reading}
use Rattle.text.proofs.number.run_of_digits.Given as goal

abbrev pub invariant-loop-i : goal.invariant-loop-i
invariant-loop-i l = Reading l.s l.i l.n

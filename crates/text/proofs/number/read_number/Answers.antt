-- The run of digits, the tests of the definition, and a place that is no more than the bytes.
use mathlib.Core.Path.{◌∙◌, sym}
use native.Mathlib.Omega.{arith}
use Rattle.text.proofs.Reading.{run-none, run-within, run-plain, run-other}
use Rattle.text.proofs.number.read_number.Goals as goal

pub returns-in_err-n : goal.returns-in_err-n
returns-in_err-n c = c.from_residual.ensures ∙ run-none c.args.s.now c.args.at (rw (← c.tail.ensures) c.in_err-n.ensures)

pub overflow_add-result : goal.overflow_add-result
overflow_add-result c = omega (arith, run-within c.args.s.now c.args.at c.in_ok-n.n c.in_ok-n.count (rw (← c.tail.ensures) c.in_ok-n.ensures))

pub returns-then-is_plain : goal.returns-then-is_plain
returns-then-is_plain c =
    run-plain c.args.s.now c.args.at c.in_ok-n.n c.in_ok-n.count (rw (← c.tail.ensures) c.in_ok-n.ensures)
    (rw (← c.byte_at.ensures) (sym c.if-is_plain.ensures))

pub returns-else-is_plain : goal.returns-else-is_plain
returns-else-is_plain c =
    run-other c.args.s.now c.args.at c.in_ok-n.n c.in_ok-n.count (rw (← c.tail.ensures) c.in_ok-n.ensures)
    (rw (← c.byte_at.ensures) (sym c.if-is_plain.ensures))

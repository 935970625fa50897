-- A word that is full is passed; the first that is not has the position.
use native.Mathlib.Omega.{arith}
use Rattle.positions.proofs.Words.{full-word, missing_at, missing_none}
use Rattle.positions.proofs.Positions.first_missing.Goals as goal

pub loop-j-init : goal.loop-j-init
loop-j-init c = λ i l. absurd (omega arith)

pub returns-then-z-lt64 : goal.returns-then-z-lt64
returns-then-z-lt64 c = missing_at c.args.self c.loop-j.j _ c.loop-j-test.true c.low_zero-z.ensures c.loop-j.invariant c.if-z-lt64.true

pub loop-j-preserved : goal.loop-j-preserved
loop-j-preserved c = full-word c.args.self c.loop-j.j _ c.loop-j-test.true c.low_zero-z.ensures c.loop-j.invariant c.if-z-lt64.false

pub returns : goal.returns
returns c = missing_none c.args.self (λ i l. c.loop-j.invariant i (omega arith))

use mathlib.Core.Path.{◌≡◌, ◌∙◌, sym}
use Prim.Native.Nat.{◌+◌, ◌*◌}
use lib.ListN.{length}
use native.Mathlib.Omega.{arith}
use Rattle.text.proofs.Reading.{reading-stop, reading-end, reading-turn, reading-large}
use Rattle.text.proofs.number.run_of_digits.Goals as goal

pub returns-in_default : goal.returns-in_default
returns-in_default c = let l = c.loop-i in reading-stop _ l.i l.n l.invariant (omega arith) (sym c.digit.ensures ∙ c.in_default.is)

pub returns-in_err-checked_mul : goal.returns-in_err-checked_mul
returns-in_err-checked_mul c = let l = c.loop-i in
    c.from_residual.ensures ∙ reading-large _ l.i l.n l.invariant c.in-Some.d (omega arith) (sym c.digit.ensures ∙ c.in-Some.is) (omega arith)

pub returns-in_err-n : goal.returns-in_err-n
returns-in_err-n c = let l = c.loop-i in
    c.from_residual-in_err-n.ensures ∙ reading-large _ l.i l.n l.invariant c.in-Some.d (omega arith) (sym c.digit.ensures ∙ c.in-Some.is) (omega arith)

pub loop-i-preserved : goal.loop-i-preserved
loop-i-preserved c = let l = c.loop-i in
    let e : c.in_ok-n.n ≡ l.n * 10 + c.in-Some.d = omega arith in
    rw e (reading-turn _ l.i l.n l.invariant c.in-Some.d (omega arith) (sym c.digit.ensures ∙ c.in-Some.is) (omega arith))

pub returns : goal.returns
returns c = let l = c.loop-i in let e : length c.args.s.now ≡ l.i = omega arith in rw e (reading-end _ l.i l.n l.invariant (omega arith))

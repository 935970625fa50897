use Prim.Native.Nat.{◌+◌, ◌-◌}
use mathlib.Core.Path.{◌≡◌}
use Rattle.text.specs.Numbers.{places}
use Rattle.text.proofs.Spelling.{places-last, places-more}
use native.Mathlib.Omega.{arith}
use Rattle.text.proofs.number.places.Goals as goal

pub loop-rest-init : goal.loop-rest-init
loop-rest-init c = (omega arith, omega arith, omega arith, omega arith)

pub loop-rest-preserved : goal.loop-rest-preserved
loop-rest-preserved c = let l = c.loop-rest in
    let m = places-more (21 - l.k) l.rest c.loop-rest-test.true l.invariant.2 in
    let e : 21 - (l.k + 1) ≡ 21 - l.k - 1 = omega arith in
    (omega arith, omega arith, rw e m.1, rw e (omega (arith, m.2, l.invariant.3)))

pub returns : goal.returns
unfolding places
returns c = let l = c.loop-rest in
    omega (arith, places-last (21 - l.k) l.rest (omega arith) (omega arith), l.invariant.3)

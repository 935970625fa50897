-- The digits written from the last on are those of the number.
use Rattle.text.proofs.Spelling.{written-spelled, spelled-out}
use mathlib.Core.Path.{◌∙◌}
use native.Mathlib.Omega.{arith}
use Rattle.text.proofs.number.write_number.Goals as goal

pub returns-in-Some : goal.returns-in-Some
returns-in-Some c = let a = c.args in
    let e = c.places-k.ensures in
    let p = written-spelled a.out.now a.at a.n (omega (arith, e)) in
    record { value = omega (arith, p.0); out_after = c.write_back.ensures ∙ rw e p.1 }

pub returns-in_default : goal.returns-in_default
returns-in_default c = let a = c.args in
    let p = spelled-out a.out.now a.at a.n (omega arith) in record { value = p.0; out_after = p.1 }

pub returns-in_default-2 : goal.returns-in_default-2
returns-in_default-2 c = let a = c.args in
    let p = spelled-out a.out.now a.at a.n (omega arith) in record { value = p.0; out_after = p.1 }

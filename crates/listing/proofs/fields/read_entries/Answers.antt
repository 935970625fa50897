use mathlib.Core.Path.{sym, ◌∙◌}
use lib.ListN.{drop, length-take, take-append-drop}
use Rattle.std.proofs.lemmas.List.{set-append_left, set-get_or}
use native.Mathlib.Omega.{arith}
use Rattle.listing.proofs.Entries.{passed_start, passed-turn, passed-stop, passed-full}
use Rattle.listing.proofs.fields.read_entries.Goals as goal

pub loop-n-init : goal.loop-n-init
loop-n-init c = rw take-append-drop (passed_start _ _ _ _)

pub returns-in_default : goal.returns-in_default
returns-in_default c = let l = c.loop-n in
    let the = passed-stop _ _ _ _ _ _ _ l.invariant (sym c.spaced_number.ensures ∙ c.in_default.is) in
    rw (← c.min-limit.ensures, set-get_or) (record { value = the.0; out_after = the.1 })

pub loop-n-preserved : goal.loop-n-preserved
loop-n-preserved c = let l = c.loop-n in
    let k = c.min-limit.result in
    let rest = drop k c.args.out.now in
    rw (← set-append_left l.slot-items rest l.n c.in-Some.v (omega arith))
    (passed-turn _ _ _ _ _ _ _ _ _ l.invariant (omega (arith, length-take k c.args.out.now)) (omega arith) (sym c.spaced_number.ensures ∙ c.in-Some.is))

pub returns : goal.returns
returns c = let l = c.loop-n in
    let the = passed-full _ _ _ _ _ _ _ l.invariant (omega (arith, length-take c.min-limit.result c.args.out.now)) in
    rw (← c.min-limit.ensures) (record { value = the.0; out_after = the.1 })

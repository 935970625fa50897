-- The digits counted, and those of what is left of the number.
use Prim.Native.Nat.{◌+◌, ◌-◌, ◌^◌, ◌≤◌, ◌<◌}
use mathlib.Core.Path.{◌≡◌}
use Rattle.text.specs.Numbers.{places_up_to}
use Rattle.text.proofs.number.places.Given as goal

abbrev pub invariant-loop-rest : goal.invariant-loop-rest
invariant-loop-rest l = (0 < l.k) × (l.k ≤ 20) × (l.rest < 10 ^ (21 - l.k)) × (places_up_to 20 l.n + 1 ≡ l.k + places_up_to (21 - l.k) l.rest)

abbrev pub decreases-loop-rest : goal.decreases-loop-rest
decreases-loop-rest l = l.rest

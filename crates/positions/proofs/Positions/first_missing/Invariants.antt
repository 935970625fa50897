-- The words passed are full.
use mathlib.Core.Bool.{true}
use mathlib.Core.Path.{◌≡◌}
use Prim.Native.Nat.{ℕ, ◌*◌, ◌<◌}
use Rattle.positions.specs.Members.{has}
use Rattle.positions.proofs.Positions.first_missing.Given as goal

abbrev pub invariant-loop-j : goal.invariant-loop-j
invariant-loop-j l = (i : ℕ) → i < 64 * l.j → has l.fn.self i ≡ true

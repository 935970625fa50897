-- The words from the place of the iterator on are empty, and it has those before that place.
use mathlib.Core.Bool.{false}
use mathlib.Core.Path.{◌≡◌}
use Prim.Native.Nat.{ℕ, ◌*◌, ◌≤◌, ◌<◌}
use lib.ListN.{length, get_or}
use Rattle.positions.specs.Members.{has}
use Rattle.positions.proofs.Positions.highest.Given as goal

abbrev pub invariant-loop-j : goal.invariant-loop-j
invariant-loop-j l =
    let e = l.j-iterator.iter in
    let rest = e.iter.rest.now in
    (e.count ≡ 0) × (length rest ≤ 4) × ((i : ℕ) → i < length rest → get_or rest i 0 ≡ get_or l.fn.self.words i 0) × ((i : ℕ) → 64 * length rest ≤ i → has l.fn.self i ≡ false)

-- Each entry passed so far is within the top.
use Rattle.std.proofs.Common.{ℕ, ◌<◌, ◌≤◌, slice_index}
use Rattle.clocks.specs.Vectors.{top}
use Rattle.clocks.proofs.vector.well_formed.Given as goal

abbrev pub invariant-loop-x : goal.invariant-loop-x
invariant-loop-x l = (k : ℕ) → k < l.x-index → slice_index l.v k ≤ top

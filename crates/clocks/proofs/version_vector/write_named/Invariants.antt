-- Each buffer holds the list of the entries passed, and then what it held.
use Rattle.std.proofs.Common.{◌≡◌, ◌≤◌}
use Rattle.laws.specs.Lists.{list_below, written}
use Rattle.laws.specs.Counting.{count_below}
use Rattle.clocks.specs.Versions.{named, needed}
use Rattle.clocks.proofs.version_vector.write_named.Given as goal

abbrev pub invariant-loop-i : goal.invariant-loop-i
invariant-loop-i l = record {
  few : l.n ≤ l.i;
  count : l.n ≡ count_below (named l.fn.entries) l.i;
  names : l.replicas ≡ written (list_below (named l.fn.entries) (λ k. k) l.i) l.initial.replicas;
  sequences : l.seqs ≡ written (list_below (named l.fn.entries) (needed l.fn.entries l.fn.origin.0) l.i) l.initial.seqs;
}

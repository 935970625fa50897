-- The entries read and those that are left are the entries of the line.
use mathlib.Core.List.{◌++◌}
use lib.ListN.{drop}
use Rattle.listing.proofs.Entries.{Passed}
use Rattle.listing.proofs.fields.read_entries.Given as goal

abbrev pub invariant-loop-n : goal.invariant-loop-n
invariant-loop-n l = Passed l.s l.from l.limit l.fn.out (l.slot-items ++ drop l.limit l.fn.out) l.at l.n

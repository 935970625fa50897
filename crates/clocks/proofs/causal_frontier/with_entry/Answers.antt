-- Below sixteen the store is `set`; past the array `set` changes nothing.
use Rattle.std.proofs.Common.{◌≡◌, length, sym, arith, rules}
use lib.Seq.{set_out}
use Rattle.clocks.proofs.causal_frontier.with_entry.Goals as goal

pub returns-else-i-lt-DESKS : goal.returns-else-i-lt-DESKS
returns-else-i-lt-DESKS c = let l : length c.args.entries ≡ 16 = search rules in
    sym (set_out c.args.entries c.args.i c.args.value (omega arith))

-- Each entry is the greater of both.
use Rattle.std.proofs.Common.{◌≡◌, ℕ, ◌<◌, max, length, get_or, rules}
use Rattle.laws.proofs.Lists.{tabulated}
use Rattle.clocks.specs.Frontiers.{join_entries}
use Rattle.clocks.specs.Vectors.{entry}
use Rattle.clocks.proofs.causal_frontier.joined_entries.Goals as goal

pub returns : goal.returns
unfolding join_entries
returns c = let l : length c.from_fn.result ≡ 16 = search rules in
    let h : (k : ℕ) → k < 16 → get_or c.from_fn.result k 0 ≡ max (entry c.args.a k) (entry c.args.b.now k) = search rules in
    tabulated _ 16 _ l h

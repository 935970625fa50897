-- A list of 256 has room for the whole chain.
use mathlib.Core.List.{[]}
use mathlib.Core.Path.{◌∙◌}
use native.Mathlib.Omega.{arith}
use Rattle.graph.specs.Whole.{whole}
use Rattle.listing.proofs.Shown.{chain-count, chain-list}
use Rattle.listing.proofs.why.chain_line.Goals as goal

pub returns-clause-written : goal.returns-clause-written
returns-clause-written c =
    let w = whole c.args.g.now [] c.args.pasts.now in
    let i = c.args.i.0 in
    rw (c.unwrap_or-n.ensures ∙ chain-count w i _ _ _ c.chain.ensures (omega arith), chain-list w i _ _ _ c.chain.ensures (omega arith)) at c.numbers_line.ensures.written

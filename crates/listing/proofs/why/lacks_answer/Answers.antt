-- The pair, and the chain behind it.
use Rattle.text.specs.Bytes.{collected_in}
use Rattle.graph.specs.Graphs.{event_at}
use Rattle.graph.specs.Whole.{whole}
use Rattle.graph.specs.Whys.{chain_of}
use Rattle.listing.specs.Whys.{pair_line, numbers_line}
use Rattle.listing.proofs.Laying.{pieces_then}
use Rattle.listing.proofs.why.lacks_answer.Goals as goal

pub returns-clause-written : goal.returns-clause-written
unfolding event_at
returns-clause-written c = let a = c.args in
    let w = whole a.g.now a.slots.now a.pasts.now in
    pieces_then (collected_in a.out.now) (pair_line (event_at w a.later.0) (event_at w a.earlier.0)) (numbers_line (chain_of w a.later.0)) (collected_in c.pair_line.new.out) (collected_in c.chain_line.new.out)
    (rw (c.event_at.ensures, c.event_at-2.ensures) at c.pair_line.ensures.written)
    c.chain_line.ensures.written

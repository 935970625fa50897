-- Both tests for room, in their order; else both buffers are written.
use Rattle.clocks.proofs.Versions.{no-room-left, no-room-right, depends}
use Rattle.clocks.proofs.version_vector.Version.dependencies.Goals as goal

pub returns-then-replicas-count : goal.returns-then-replicas-count
returns-then-replicas-count c = let n = rw c.entries-entries.ensures at c.positive-count.ensures in
    no-room-left _ _ _ (rw n at c.if-replicas-count.true)

pub returns-then-seqs-count : goal.returns-then-seqs-count
returns-then-seqs-count c = let n = rw c.entries-entries.ensures at c.positive-count.ensures in
    no-room-right _ _ _ (rw n at c.if-replicas-count.false) (rw n at c.if-seqs-count.true)

pub returns : goal.returns
returns c = let e = c.entries-entries.ensures in
    let n = rw e at c.positive-count.ensures in
    rw n (depends _ _ _ _ _ (rw n at c.if-replicas-count.false) (rw n at c.if-seqs-count.false) (rw e at c.write_named.ensures.names) (rw e at c.write_named.ensures.sequences))

-- No second answer fits the contract of a public function of `clocks`, one statement for each. `Post` is the function's `ensures` as the checker reads it,
-- of the arguments, the answer and what the lent buffers hold at the end.
use mathlib.Core.Path.{◌≡◌}
use Prim.Native.Nat.{ℕ}
use Rattle.clocks.proofs.vector.seq_by_idx.Reads.{Post as seq-by-idx}
use Rattle.clocks.proofs.vector.is_bad_sequence.Reads.{Post as is-bad-sequence}
use Rattle.clocks.proofs.vector.well_formed.Reads.{Post as well-formed}
use Rattle.clocks.proofs.vector.well_formed_for.Reads.{Post as well-formed-for}
use Rattle.clocks.proofs.vector.at_most.Reads.{Post as at_most}
use Rattle.clocks.proofs.vector.compare.Reads.{Post as compare}
use Rattle.clocks.proofs.vector.sum.Reads.{Post as sum}
use Rattle.clocks.proofs.id.DisambiguatorPartialEq.eq.Reads.{Post as disambiguator-eq}
use Rattle.clocks.proofs.id.DisambiguatorPartialOrd.partial_cmp.Reads.{Post as disambiguator-partial-cmp}
use Rattle.clocks.proofs.id.code_of.Reads.{Post as code-of}
use Rattle.clocks.proofs.id.decoded.Reads.{Post as decoded}
use Rattle.clocks.proofs.id.EventId.new.Reads.{Post as id-new}
use Rattle.clocks.proofs.id.EventId.new_with_disambiguator.Reads.{Post as id-new-with-disambiguator}
use Rattle.clocks.proofs.id.EventId.with_disambiguator.Reads.{Post as id-with-disambiguator}
use Rattle.clocks.proofs.id.EventIdPartialEq.eq.Reads.{Post as id-eq}
use Rattle.clocks.proofs.id.EventId.is_predecessor_of.Reads.{Post as id-is-predecessor-of}
use Rattle.clocks.proofs.event.Event.new.Reads.{Post as event-new}
use Rattle.clocks.proofs.event.Event.unfold.Reads.{Post as event-unfold}
use Rattle.clocks.proofs.event.Event.unfold_with_disambiguator.Reads.{Post as event-unfold-with-disambiguator}
use Rattle.clocks.proofs.tagged_op.TaggedOp.new.Reads.{Post as tagged-new}
use Rattle.clocks.proofs.tagged_op.TaggedOpFromEvent.from.Reads.{Post as tagged-from-event}
use Rattle.clocks.proofs.tagged_op.TaggedOp.id.Reads.{Post as tagged-id}
use Rattle.clocks.proofs.tagged_op.TaggedOp.lamport.Reads.{Post as tagged-lamport}
use Rattle.clocks.proofs.causal_frontier.joined_entries.Reads.{Post as joined-entries}
use Rattle.clocks.proofs.causal_frontier.met_entries.Reads.{Post as met-entries}
use Rattle.clocks.proofs.causal_frontier.with_entry.Reads.{Post as with-entry}
use Rattle.clocks.proofs.causal_frontier.CausalFrontier.new.Reads.{Post as frontier-new}
use Rattle.clocks.proofs.causal_frontier.CausalFrontier.from_entries.Reads.{Post as frontier-from-entries}
use Rattle.clocks.proofs.causal_frontier.is_bad_raise.Reads.{Post as is-bad-raise}
use Rattle.clocks.proofs.causal_frontier.CausalFrontier.raise.Reads.{Post as frontier-raise}
use Rattle.clocks.proofs.causal_frontier.CausalFrontier.zeroed.Reads.{Post as frontier-zeroed}
use Rattle.clocks.proofs.causal_frontier.CausalFrontier.len.Reads.{Post as frontier-len}
use Rattle.clocks.proofs.causal_frontier.CausalFrontier.is_empty.Reads.{Post as frontier-is-empty}
use Rattle.clocks.proofs.causal_frontier.CausalFrontier.entries.Reads.{Post as frontier-entries}
use Rattle.clocks.proofs.causal_frontier.CausalFrontier.seq_by_idx.Reads.{Post as frontier-seq-by-idx}
use Rattle.clocks.proofs.causal_frontier.CausalFrontier.set_by_idx.Reads.{Post as frontier-set-by-idx}
use Rattle.clocks.proofs.causal_frontier.CausalFrontier.sum.Reads.{Post as frontier-sum}
use Rattle.clocks.proofs.causal_frontier.CausalFrontier.join_version.Reads.{Post as frontier-join-version}
use Rattle.clocks.proofs.causal_frontier.CausalFrontier.raised.Reads.{Post as frontier-raised}
use Rattle.clocks.proofs.causal_frontier.CausalFrontier.join.Reads.{Post as frontier-join}
use Rattle.clocks.proofs.causal_frontier.CausalFrontier.meet.Reads.{Post as frontier-meet}
use Rattle.clocks.proofs.causal_frontier.CausalFrontier.contains.Reads.{Post as frontier-contains}
use Rattle.clocks.proofs.causal_frontier.CausalFrontier.partial_cmp.Reads.{Post as frontier-partial-cmp}
use Rattle.clocks.proofs.causal_frontier.CausalFrontierPartialEq.eq.Reads.{Post as frontier-eq}
use Rattle.clocks.proofs.version_vector.includes_frontier.Reads.{Post as includes-frontier}
use Rattle.clocks.proofs.version_vector.Version.new.Reads.{Post as version-new}
use Rattle.clocks.proofs.version_vector.Version.from_frontier.Reads.{Post as version-from-frontier}
use Rattle.clocks.proofs.version_vector.Version.frontier.Reads.{Post as version-frontier}
use Rattle.clocks.proofs.version_vector.Version.origin_idx.Reads.{Post as version-origin-idx}
use Rattle.clocks.proofs.version_vector.Version.origin_seq.Reads.{Post as version-origin-seq}
use Rattle.clocks.proofs.version_vector.Version.id.Reads.{Post as version-id}
use Rattle.clocks.proofs.version_vector.Version.len.Reads.{Post as version-len}
use Rattle.clocks.proofs.version_vector.Version.is_empty.Reads.{Post as version-is-empty}
use Rattle.clocks.proofs.version_vector.Version.seq_by_idx.Reads.{Post as version-seq-by-idx}
use Rattle.clocks.proofs.version_vector.Version.set_by_idx.Reads.{Post as version-set-by-idx}
use Rattle.clocks.proofs.version_vector.Version.sum.Reads.{Post as version-sum}
use Rattle.clocks.proofs.version_vector.Version.includes_frontier.Reads.{Post as version-includes-frontier}
use Rattle.clocks.proofs.version_vector.Version.increment.Reads.{Post as version-increment}
use Rattle.clocks.proofs.version_vector.Version.join.Reads.{Post as version-join}
use Rattle.clocks.proofs.version_vector.Version.meet.Reads.{Post as version-meet}
use Rattle.clocks.proofs.version_vector.VersionPartialEq.eq.Reads.{Post as version-eq}
use Rattle.clocks.proofs.version_vector.Version.dependencies.Reads.{Post as version-dependencies}
use Rattle.clocks.specs.Frontiers.{SetInPlace}
use Rattle.clocks.specs.declared.causal_frontier.CausalFrontier.{CausalFrontier}
use Rattle.clocks.proofs.Refusals.{same-answer}
use Rattle.clocks.proofs.Frontiers.{made-tells, answered-tells}
use Rattle.clocks.proofs.Versions.{made_v-tells, answered_v-tells}
use Rattle.promises.proofs.OneAnswer.{one_answer, depends-once, Once, OnceWith₂, OnceLeaving}

-- ---- vectors

pub seq-by-idx-once : Once seq-by-idx
seq-by-idx-once κs a x y s t p q = one_answer p q

pub is-bad-sequence-once : Once is-bad-sequence
is-bad-sequence-once κs a x y s t p q = one_answer p q

pub well-formed-once : Once well-formed
well-formed-once κs a x y s t p q = one_answer p q

pub well-formed-for-once : Once well-formed-for
well-formed-for-once κs a x y s t p q = one_answer p q

pub at-most-once : Once at_most
at-most-once κs a x y s t p q = one_answer p q

pub compare-once : Once compare
compare-once κs a x y s t p q = one_answer p q

pub sum-once : Once sum
sum-once κs a x y s t p q = one_answer p q

-- ---- disambiguators and ids

pub disambiguator-eq-once : Once disambiguator-eq
disambiguator-eq-once κs a x y s t p q = one_answer p q

pub disambiguator-partial-cmp-once : Once disambiguator-partial-cmp
disambiguator-partial-cmp-once κs a x y s t p q = one_answer p q

pub code-of-once : Once code-of
code-of-once κs a x y s t p q = one_answer p q

pub decoded-once : Once decoded
decoded-once κs a x y s t p q = one_answer p q

-- ---- an id

pub id-new-once : Once id-new
id-new-once κs a x y s t p q = one_answer p q

pub id-new-with-disambiguator-once : Once id-new-with-disambiguator
id-new-with-disambiguator-once κs a x y s t p q = one_answer p q

pub id-with-disambiguator-once : Once id-with-disambiguator
id-with-disambiguator-once κs a x y s t p q = one_answer p q

pub id-eq-once : Once id-eq
id-eq-once κs a x y s t p q = one_answer p q

pub id-is-predecessor-of-once : Once id-is-predecessor-of
id-is-predecessor-of-once κs a x y s t p q = one_answer p q

-- ---- events, and tagged operations

pub event-new-once : Once event-new
event-new-once κs a x y s t p q = one_answer p q

pub event-unfold-once : Once event-unfold
event-unfold-once κs a x y s t p q = one_answer p q

pub event-unfold-with-disambiguator-once : Once event-unfold-with-disambiguator
event-unfold-with-disambiguator-once κs a x y s t p q = one_answer p q

-- ---- operations with a tag

pub tagged-new-once : Once tagged-new
tagged-new-once κs a x y s t p q = one_answer p q

pub tagged-from-event-once : Once tagged-from-event
tagged-from-event-once κs a x y s t p q = one_answer p q

pub tagged-id-once : Once tagged-id
tagged-id-once κs a x y s t p q = one_answer p q

pub tagged-lamport-once : Once tagged-lamport
tagged-lamport-once κs a x y s t p q = one_answer p q

-- ---- frontiers

pub joined-entries-once : Once joined-entries
joined-entries-once κs a x y s t p q = one_answer p q

pub met-entries-once : Once met-entries
met-entries-once κs a x y s t p q = one_answer p q

pub with-entry-once : Once with-entry
with-entry-once κs a x y s t p q = one_answer p q

pub frontier-new-once : Once frontier-new
frontier-new-once κs a x y s t p q = made-tells x y (one_answer p q)

pub frontier-from-entries-once : Once frontier-from-entries
frontier-from-entries-once κs a x y s t p q = made-tells x y (one_answer p q)

pub frontier-zeroed-once : Once frontier-zeroed
frontier-zeroed-once κs a x y s t p q = one_answer p q

pub frontier-len-once : Once frontier-len
frontier-len-once κs a x y s t p q = one_answer p q

pub frontier-is-empty-once : Once frontier-is-empty
frontier-is-empty-once κs a x y s t p q = one_answer p q

pub frontier-entries-once : Once frontier-entries
frontier-entries-once κs a x y s t p q = one_answer p q

pub frontier-seq-by-idx-once : Once frontier-seq-by-idx
frontier-seq-by-idx-once κs a x y s t p q = one_answer p q

pub frontier-set-by-idx-once : OnceLeaving frontier-set-by-idx (λ κs s. s.0.now)
frontier-set-by-idx-once κs a x y s t p q = (same-answer x y (one_answer p.refusal q.refusal), one_answer p.frontier q.frontier)

pub frontier-sum-once : Once frontier-sum
frontier-sum-once κs a x y s t p q = one_answer p q

pub frontier-join-version-once : OnceLeaving frontier-join-version (λ κs s. s.0.now)
frontier-join-version-once κs a x y s t p q = answered-tells x y s.0.now t.0.now (one_answer p q)

pub frontier-raised-once : Once frontier-raised
frontier-raised-once κs a x y s t p q = one_answer p q

pub frontier-join-once : Once frontier-join
frontier-join-once κs a x y s t p q = one_answer p q

pub frontier-meet-once : Once frontier-meet
frontier-meet-once κs a x y s t p q = one_answer p q

pub frontier-contains-once : Once frontier-contains
frontier-contains-once κs a x y s t p q = one_answer p q

pub frontier-partial-cmp-once : Once frontier-partial-cmp
frontier-partial-cmp-once κs a x y s t p q = one_answer p q

pub frontier-eq-once : Once frontier-eq
frontier-eq-once κs a x y s t p q = one_answer p q

-- ---- versions

pub includes-frontier-once : Once includes-frontier
includes-frontier-once κs a x y s t p q = one_answer p q

-- ---- a version

pub version-new-once : Once version-new
version-new-once κs a x y s t p q = made_v-tells a.0 x y (one_answer p q)

pub version-from-frontier-once : Once version-from-frontier
version-from-frontier-once κs a x y s t p q = one_answer p q

pub version-frontier-once : Once version-frontier
version-frontier-once κs a x y s t p q = one_answer p q

pub version-origin-idx-once : Once version-origin-idx
version-origin-idx-once κs a x y s t p q = one_answer p q

pub version-origin-seq-once : Once version-origin-seq
version-origin-seq-once κs a x y s t p q = one_answer p q

pub version-id-once : Once version-id
version-id-once κs a x y s t p q = one_answer p q

pub version-len-once : Once version-len
version-len-once κs a x y s t p q = one_answer p q

pub version-is-empty-once : Once version-is-empty
version-is-empty-once κs a x y s t p q = one_answer p q

pub version-seq-by-idx-once : Once version-seq-by-idx
version-seq-by-idx-once κs a x y s t p q = one_answer p q

pub version-set-by-idx-once : OnceLeaving version-set-by-idx (λ κs s. s.0.now)
version-set-by-idx-once κs a x y s t p q = answered_v-tells x y s.0.now t.0.now (one_answer p q)

pub version-sum-once : Once version-sum
version-sum-once κs a x y s t p q = one_answer p q

pub version-includes-frontier-once : Once version-includes-frontier
version-includes-frontier-once κs a x y s t p q = one_answer p q

pub version-increment-once : OnceLeaving version-increment (λ κs s. s.0.now)
version-increment-once κs a x y s t p q = answered_v-tells x y s.0.now t.0.now (one_answer p q)

pub version-join-once : OnceLeaving version-join (λ κs s. s.0.now)
version-join-once κs a x y s t p q = answered_v-tells x y s.0.now t.0.now (one_answer p q)

pub version-meet-once : Once version-meet
version-meet-once κs a x y s t p q = one_answer p q

pub version-eq-once : Once version-eq
version-eq-once κs a x y s t p q = one_answer p q

pub version-dependencies-once : OnceWith₂ version-dependencies (λ κs s. s.1.0.now) (λ κs s. s.1.1.0.now)
version-dependencies-once κs a x y s t p q = depends-once p q

-- ---- in the caller's frontier

-- of the contract of a frontier's `set_by_idx`, the number and the frontier after the call
pub set-in-place-once : (f after after' : CausalFrontier) (i value r r' : ℕ) → SetInPlace f i value r after → SetInPlace f i value r' after' → (r ≡ r') × (after ≡ after')
set-in-place-once f after after' i value r r' p q = (one_answer p.refusal q.refusal, one_answer p.frontier q.frontier)

-- ---- more replicas

pub is-bad-raise-once : Once is-bad-raise
is-bad-raise-once κs a x y s t p q = one_answer p q

pub frontier-raise-once : OnceLeaving frontier-raise (λ κs s. s.0.now)
frontier-raise-once κs a x y s t p q = answered-tells x y s.0.now t.0.now (one_answer p q)

-- What the answers mean, in the words of the repository's comments and of document 01, each quoted: over positions and versions, not over what is stored
-- of descent, parents, heads or cuts. The statement that it is so of a graph and its versions is `Documented`.
use Rattle.std.specs.Prelude.{true, false, List, ◌⊎◌, ◌↔◌, ◌≡◌, ℕ, suc, ◌+◌, ◌<◌, ◌≤◌, take, get_or}
use Rattle.laws.specs.Counting.{pick}
use Rattle.clocks.specs.Ids.{code_of}
use Rattle.clocks.specs.Vectors.{entry, well_formed}
use Rattle.positions.specs.Members.{has}
use Rattle.tables.specs.Slots.{descends}
use Rattle.graph.specs.Whole.{EventGraph}
use Rattle.graph.specs.Graphs.{place_of, parents, heads, appended}
use Rattle.graph.specs.Walks.{walked_parents, walked_heads}
use Rattle.graph.specs.Cuts.{is_critical, greatest, frontier_found}
use Rattle.graph.specs.Removals.{removed, flushed}
use Rattle.graph.specs.Advances.{advanced}
use Rattle.graph.specs.Invariant.{replica_at, seq_at, code_at, revision_at, Siblings}
use Rattle.promises.specs.Reached.{Versions, version_at}
use Rattle.promises.specs.Demand.{SameNote}
use Rattle.clocks.specs.declared.event.Event.{Event}
use Rattle.clocks.specs.declared.id.EventId.{EventId}

-- id.rs, is_predecessor_of: "Returns `true` if sequence number of the version for the replica id is greater OR equal."
-- document 01: "A frontier contains an id by the same rule."
abbrev pub Covers : EventGraph → List ℕ → ℕ → Type 0
Covers g v j = seq_at g j ≤ entry v (replica_at g j)

-- the event at j is in the past of the event at i
-- document 01: "Held events stand in replay order", "So an event descends from exactly the earlier ones it covers."
pub record Before (g : EventGraph) (W : Versions) (j i : ℕ) : Type 0 where
  pub held : i < g.held
  pub earlier : j < i
  pub covered : Covers g (version_at g W i) j

-- mod.rs: "an event e' is the direct parent of event e if e' < e and there is no event e'' such that e' < e'' < e."
pub record DirectParent (g : EventGraph) (W : Versions) (k i : ℕ) : Type 0 where
  pub before : Before g W k i
  pub nearest : (m : ℕ) → Before g W k m → Before g W m i → ⊥

-- mod.rs: "tagged operations that are maximal in the unstable state, i.e., those that have no successors in the unstable state."
pub record Maximal (g : EventGraph) (W : Versions) (k : ℕ) : Type 0 where
  pub held : k < g.held
  pub last : (j : ℕ) → Before g W k j → ⊥

-- document 01: "A cut is a length L, 1 to the number held, such that every event at position L or later covers every event at positions 0 to L-1."
pub record IsCut (g : EventGraph) (W : Versions) (n : ℕ) : Type 0 where
  pub some : 1 ≤ n
  pub most : n ≤ g.held
  pub covers : (i j : ℕ) → n ≤ i → i < g.held → j < n → Covers g (version_at g W i) j

-- "either in V, or an ancestor of some event in V"
abbrev pub Under : EventGraph → Versions → (ℕ → Type 0) → ℕ → Type 0
Under g W In i = In i ⊎ ((k : ℕ) × In k × Before g W i k)

-- mod.rs: "A version V is a critical version iff every event in the history is either in V, or an ancestor of some event in V, or happened after all of
-- the events in V."
pub record CriticalVersion (g : EventGraph) (W : Versions) (In : ℕ → Type 0) : Type 0 where
  pub held : (k : ℕ) → In k → k < g.held
  pub each : (i : ℕ) → i < g.held → Under g W In i ⊎ ((k : ℕ) → In k → Before g W k i)

-- the maximal events of the first n positions
abbrev pub MaximalBelow : EventGraph → Versions → ℕ → ℕ → Type 0
MaximalBelow g W n k = (k < n) × ((j : ℕ) → j < n → Before g W k j → ⊥)

-- "roots (zeros if absent)"
abbrev pub root_at : EventGraph → ℕ → ℕ
root_at g r = pick g.rooted (entry g.roots.entries r) 0

-- document 01: "the entrywise maximum of roots (zeros if absent) and those events' sequences", those events being the first n: nowhere below any of
-- them, and each entry is one of them
pub record FrontierOf (g : EventGraph) (n : ℕ) (v : List ℕ) : Type 0 where
  pub base : (r : ℕ) → root_at g r ≤ entry v r
  pub covers : (j : ℕ) → j < n → Covers g v j
  pub one : (r : ℕ) → (entry v r ≡ root_at g r) ⊎ ((j : ℕ) × (j < n) × (replica_at g j ≡ r) × (seq_at g j ≡ entry v r))

-- document 01: "yes when f equals roots, or is all zeros with no roots, or equals the frontier of a recorded cut."
abbrev pub CriticalFrontier : EventGraph → Versions → List ℕ → Type 0
CriticalFrontier g W v = ((r : ℕ) → entry v r ≡ root_at g r) ⊎ ((n : ℕ) × IsCut g W n × FrontierOf g n v)

-- document 01: "the greatest cut whose every event the bound contains": such a cut, and the greatest of them
pub record CutInside (g : EventGraph) (W : Versions) (bound : List ℕ) (n : ℕ) : Type 0 where
  pub cut : IsCut g W n
  pub contained : (j : ℕ) → j < n → Covers g bound j

pub record GreatestInside (g : EventGraph) (W : Versions) (bound : List ℕ) (n : ℕ) : Type 0 where
  pub inside : CutInside g W bound n
  pub greatest : (m : ℕ) → CutInside g W bound m → m ≤ n

-- document 01: "none when roots exist and bound is below or beside them", "none if no such cut."
pub record HasAnswer (g : EventGraph) (W : Versions) (bound : List ℕ) : Type 0 where
  pub above : (r : ℕ) → root_at g r ≤ entry bound r
  pub length : ℕ
  pub cut : CutInside g W bound length

-- event_graph.rs: "Flush a critical prefix after computing its new stable state." What goes is the first n positions, a cut or nothing; what stays
-- closes ranks.
pub record FlushedPrefix (g : EventGraph) (W : Versions) (v : List ℕ) : Type 0 where
  pub length : ℕ
  pub prefix : (length ≡ 0) ⊎ IsCut g W length
  pub contained : (k : ℕ) → k < g.held → Covers g v k ↔ (k < length)
  pub count : (flushed g v).count ≡ length
  pub number : length + (flushed g v).graph.held ≡ g.held
  pub stays : (k : ℕ) → k < (flushed g v).graph.held → SameNote (flushed g v).graph g k (length + k)

-- document 02: "given a bound, flush to the greatest critical frontier inside it and answer frontier and count, or change nothing and answer none." What it
-- finds is what `greatest` finds, and the flush there is not refused.
pub record FlushesGreatest (g : EventGraph) (bound : List ℕ) : Type 0 where
  pub finds : frontier_found (advanced g bound).refusal (advanced g bound).found (advanced g bound).frontier ≡ greatest g bound
  pub flush : (advanced g bound).found ≡ true
      → flushed g (take g.named.len (advanced g bound).frontier.entries) ≡ removed 0 (advanced g bound).count (advanced g bound).graph
  pub none : (advanced g bound).found ≡ false → ((advanced g bound).graph ≡ g) × ((advanced g bound).count ≡ 0)

-- slot k holds this event, all but its version
pub record HoldsEvent (g : EventGraph) (k : ℕ) (e : Event) : Type 0 where
  pub replica : replica_at g k ≡ e.id.idx.0
  pub seq : seq_at g k ≡ e.id.seq
  pub code : code_at g k ≡ code_of e.id.disambiguator
  pub lamport : get_or g.lamports k 0 ≡ e.lamport
  pub op : get_or g.ops k 0 ≡ e.op
  pub revision : revision_at g k ≡ e.revision

-- what is accepted stands behind the others as it was handed in, and they stay
pub record AppendedLast (g : EventGraph) (e : Event) (v : List ℕ) : Type 0 where
  pub number : (appended g e v).graph.held ≡ g.held + 1
  pub new : HoldsEvent (appended g e v).graph g.held e
  pub stays : (k : ℕ) → k < g.held → SameNote (appended g e v).graph g k k

-- all of it
pub record Documented (g : EventGraph) (W : Versions) : Type 1 where
  pub past : (i j : ℕ) → i < g.held → (descends g.pasts i j ≡ true) ↔ Before g W j i
  pub parent : (i k : ℕ) → i < g.held → (parents g i k ≡ true) ↔ DirectParent g W k i
  pub head : (k : ℕ) → (heads g k ≡ true) ↔ Maximal g W k
  -- what the walk of `direct_predecessors` and of `frontier` lists are these parents and heads; an id that is not held has no parents
  pub listed : (id : EventId) (k : ℕ) → walked_parents g (place_of g id) k ≡ parents g (place_of g id) k
  pub listed_heads : (k : ℕ) → walked_heads g k ≡ heads g k
  pub cut : (k : ℕ) → (has g.cuts k ≡ true) ↔ IsCut g W (suc k)
  -- a recorded cut is the past of a critical version, and every critical version that is not empty makes one
  pub version : (n : ℕ) → IsCut g W n → CriticalVersion g W (MaximalBelow g W n) × ((i : ℕ) → Under g W (MaximalBelow g W n) i ↔ (i < n))
  pub prefix : (In : ℕ → Type 0) → CriticalVersion g W In → (k : ℕ) → In k → (n : ℕ) × IsCut g W n × ((i : ℕ) → Under g W In i ↔ (i < n))
  pub critical : (v : List ℕ) → well_formed g.named.len v ≡ true → (is_critical g v ≡ true) ↔ CriticalFrontier g W v
  pub found : (bound : List ℕ) → well_formed g.named.len bound ≡ true → ((greatest g bound).found ≡ true) ↔ HasAnswer g W bound
  pub answer : (bound : List ℕ) → well_formed g.named.len bound ≡ true → (greatest g bound).found ≡ true
      → (n : ℕ) × GreatestInside g W bound n × FrontierOf g n (greatest g bound).frontier.entries
  pub flush : (v : List ℕ) → (flushed g v).refusal ≡ 0 → FlushedPrefix g W v
  pub advance : (bound : List ℕ) → FlushesGreatest g bound
  -- what is held is what was accepted
  pub append : (e : Event) (v : List ℕ) → (appended g e v).refusal ≡ 0 → AppendedLast g e v
  -- document 02: "Siblings are pieces of one note and carry one revision."
  pub siblings : (j k : ℕ) → j < g.held → k < g.held → Siblings g j k → revision_at g j ≡ revision_at g k
  -- no note behind a flush: none is held, and none is accepted
  pub after : (k r : ℕ) → k < g.held → root_at g r ≤ entry (version_at g W k) r
  pub next : (e : Event) (v : List ℕ) → (appended g e v).refusal ≡ 0 → (r : ℕ) → root_at g r ≤ entry v r

-- The graphs that calls reach. Beside each stand the version that each id was last accepted with, since a graph does not store versions, how many
-- appends were accepted and how many events were removed, all since creation or clear. A call that is refused is a step too.
use Rattle.std.specs.Prelude.{◌&&◌, List, [], ◌≡◌, ℕ, ◌+◌, eqb}
use Rattle.laws.specs.Counting.{pick, one}
use Rattle.clocks.specs.Ids.{code_of}
use Rattle.graph.specs.Whole.{EventGraph}
use Rattle.graph.specs.Removals.{flushed, without_id, retained, cleared}
use Rattle.graph.specs.Advances.{advanced}
use Rattle.graph.specs.Raises.{widened_graph}
use Rattle.graph.specs.Invariant.{replica_at, seq_at, code_at}
use Rattle.clocks.specs.declared.event.Event.{Event}
use Rattle.clocks.specs.declared.id.EventId.{EventId}
use Rattle.graph.specs.Graphs as graphs

-- by replica, sequence and the code of the disambiguator
abbrev pub Versions : Type 0
Versions = ℕ → ℕ → ℕ → List ℕ

abbrev pub none : Versions
none r s c = []

-- the same with one more
abbrev pub with_version : Versions → EventId → List ℕ → Versions
with_version W id v r s c = pick ((eqb r id.idx.0 && eqb s id.seq) && eqb c (code_of id.disambiguator)) v (W r s c)

-- the version of the event in slot k
abbrev pub version_at : EventGraph → Versions → ℕ → List ℕ
version_at g W k = W (replica_at g k) (seq_at g k) (code_at g k)

-- the graph, the versions, how many were accepted and how many removed
pub data Reached : EventGraph → Versions → ℕ → ℕ → Type 0 where
  created : (r : ℕ) → (graphs.created r).refusal ≡ 0 → Reached (graphs.created r).graph none 0 0
  checkpointed : (r : ℕ) (v : List ℕ) → (graphs.checkpointed r v).refusal ≡ 0 → Reached (graphs.checkpointed r v).graph none 0 0
  append : {g : EventGraph} {W : Versions} {accepted gone : ℕ} → Reached g W accepted gone → (e : Event) (v : List ℕ)
      → Reached (graphs.appended g e v).graph (pick (eqb (graphs.appended g e v).refusal 0) (with_version W e.id v) W)
      (accepted + one (eqb (graphs.appended g e v).refusal 0)) gone
  flush : {g : EventGraph} {W : Versions} {accepted gone : ℕ} → Reached g W accepted gone → (f : List ℕ)
      → Reached (flushed g f).graph W accepted (gone + (flushed g f).count)
  advance : {g : EventGraph} {W : Versions} {accepted gone : ℕ} → Reached g W accepted gone → (bound : List ℕ)
      → Reached (advanced g bound).graph W accepted (gone + (advanced g bound).count)
  raise : {g : EventGraph} {W : Versions} {accepted gone : ℕ} → Reached g W accepted gone → (r : ℕ) → Reached (widened_graph g r).graph W accepted gone
  remove : {g : EventGraph} {W : Versions} {accepted gone : ℕ} → Reached g W accepted gone → (id : EventId)
      → Reached (without_id g id).graph W accepted (gone + (without_id g id).count)
  retain : {g : EventGraph} {W : Versions} {accepted gone : ℕ} → Reached g W accepted gone → (mask : List ℕ)
      → Reached (retained g mask).graph W accepted (gone + (retained g mask).count)
  clear : {g : EventGraph} {W : Versions} {accepted gone : ℕ} → Reached g W accepted gone → Reached (cleared g).graph none 0 0

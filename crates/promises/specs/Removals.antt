-- Document 02, P13: the promise survives removals. Two logs with the same desks and starting checkpoint that append, flush, advance, raise, remove and retain,
-- and never clear: if they accepted the same notes, their last flushed frontier is the same, or neither flushed, and they hold the same notes at the end, each
-- last accepted with the same version in both, then they agree as in demand 3. Vectors and starts are the same as there, and both logs end with the same R.
use Rattle.std.specs.Prelude.{List, [], ◌∷◌, ℕ, ◌<◌, eqb, take}
use Rattle.laws.specs.Counting.{pick}
use Rattle.graph.specs.Whole.{EventGraph}
use Rattle.graph.specs.Graphs.{appended}
use Rattle.graph.specs.Removals.{flushed, without_id, retained}
use Rattle.graph.specs.Advances.{advanced}
use Rattle.graph.specs.Raises.{widened_graph}
use Rattle.promises.specs.Reached.{Versions, none, with_version, version_at}
use Rattle.promises.specs.Demand.{Note, Last, never, at, Says, SameStart, SameLast, SameAccepted, SameNote, SameR, Agree}
use Rattle.clocks.specs.declared.event.Event.{Event}
use Rattle.clocks.specs.declared.id.EventId.{EventId}

-- what appends, flushes, advances, raises and removals, accepted or refused, make of a start: the graph, the version that each id was last accepted with, the
-- accepted notes and the last flushed frontier
pub data RemovalLog (start : EventGraph) : EventGraph → Versions → List Note → Last → Type 0 where
  begin : RemovalLog start start none [] never
  append : {g : EventGraph} {W : Versions} {accepted : List Note} {last : Last} → RemovalLog start g W accepted last → (e : Event) (v : List ℕ)
      → RemovalLog start (appended g e v).graph (pick (eqb (appended g e v).refusal 0) (with_version W e.id v) W)
      (pick (eqb (appended g e v).refusal 0) (record { event = e; version = v } ∷ accepted) accepted) last
  flush : {g : EventGraph} {W : Versions} {accepted : List Note} {last : Last} → RemovalLog start g W accepted last → (f : List ℕ)
      → RemovalLog start (flushed g f).graph W accepted (pick (eqb (flushed g f).refusal 0) (at f) last)
  advance : {g : EventGraph} {W : Versions} {accepted : List Note} {last : Last} → RemovalLog start g W accepted last → (bound : List ℕ)
      → RemovalLog start (advanced g bound).graph W accepted (pick (advanced g bound).found (at (take g.named.len (advanced g bound).frontier.entries)) last)
  raise : {g : EventGraph} {W : Versions} {accepted : List Note} {last : Last} → RemovalLog start g W accepted last → (r : ℕ)
      → RemovalLog start (widened_graph g r).graph W accepted last
  remove : {g : EventGraph} {W : Versions} {accepted : List Note} {last : Last} → RemovalLog start g W accepted last → (id : EventId)
      → RemovalLog start (without_id g id).graph W accepted last
  retain : {g : EventGraph} {W : Versions} {accepted : List Note} {last : Last} → RemovalLog start g W accepted last → (mask : List ℕ)
      → RemovalLog start (retained g mask).graph W accepted last

-- every note that the one holds the other holds, last accepted with a version that says the same
abbrev pub HeldIn : EventGraph → Versions → EventGraph → Versions → Type 0
HeldIn g W h U = (j : ℕ) → j < g.held → (k : ℕ) × (k < h.held) × SameNote g h j k × Says (version_at g W j) (version_at h U k)

-- both hold the same notes, each last accepted with the same version in both
pub record SameHeld (g : EventGraph) (W : Versions) (h : EventGraph) (U : Versions) : Type 0 where
  pub left : HeldIn g W h U
  pub right : HeldIn h U g W

-- the document's sentence
abbrev pub SurvivesRemovals : Type 0
SurvivesRemovals = (start start' g h : EventGraph) (W U : Versions) (ms ns : List Note) (last last' : Last)
    → SameStart start start' → RemovalLog start g W ms last → RemovalLog start' h U ns last'
    → SameAccepted ms ns → SameLast last last' → SameR g h → SameHeld g W h U → Agree g h

-- and more: what was accepted and is no longer held does not matter
abbrev pub HeldAgree : Type 0
HeldAgree = (start start' g h : EventGraph) (W U : Versions) (ms ns : List Note) (last last' : Last)
    → SameStart start start' → RemovalLog start g W ms last → RemovalLog start' h U ns last'
    → SameLast last last' → SameR g h → SameHeld g W h U → Agree g h

-- every note that the one holds the other holds, whatever it was last accepted with
abbrev pub NotesIn : EventGraph → EventGraph → Type 0
NotesIn g h = (j : ℕ) → j < g.held → (k : ℕ) × (k < h.held) × SameNote g h j k

-- the same for notes with other last versions, which is false: b and x know nothing of each other, and the sibling 0 of x is accepted with a version that
-- covers b and with one that does not, with a removal in between, in the one log in this order and in the other in the other order
abbrev pub WithoutVersions : Type 0
WithoutVersions = (start start' g h : EventGraph) (W U : Versions) (ms ns : List Note) (last last' : Last)
    → SameStart start start' → RemovalLog start g W ms last → RemovalLog start' h U ns last'
    → SameAccepted ms ns → SameLast last last' → SameR g h → NotesIn g h → NotesIn h g → Agree g h

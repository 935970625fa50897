-- What a log holds, with appends and flushes alone: the accepted notes that the last flushed frontier does not contain, each with the version it was
-- accepted with. A start holds so; append and flush keep it (HeldAppends, HeldFlushes).
use mathlib.Core.Bool.{true, false}
use mathlib.Core.List.{List, []}
use mathlib.Core.Logic.{◌⊎◌, ⊎_elim}
use mathlib.Core.Path.{◌≡◌, refl, ap, ◌∙◌}
use Prim.Native.Nat.{ℕ, ◌<◌, ◌≤◌}
use native.Mathlib.Omega.{arith}
use lib.Dec.{eqb}
use Rattle.laws.proofs.Orders.{true-or-false}
use Rattle.clocks.specs.Vectors.{entry}
use Rattle.clocks.specs.Frontiers.{from_entries}
use Rattle.graph.specs.Whole.{EventGraph}
use Rattle.graph.specs.Graphs.{created, checkpointed}
use Rattle.graph.specs.Invariant.{NotesOk, replica_at}
use Rattle.promises.specs.Reached.{Versions, none, version_at}
use Rattle.promises.specs.Demand.{Note, Last, never, at, Start, fresh, checkpoint, Among, SameNote}
use Rattle.promises.specs.Documented.{HoldsEvent}
use Rattle.clocks.specs.declared.event.Event.{Event}
use Rattle.promises.proofs.RootsTold.{RootsAre}

-- slot k holds this note, which was last accepted with its version
pub record NoteAt (g : EventGraph) (W : Versions) (k : ℕ) (n : Note) : Type 0 where
  pub small : k < g.held
  pub event : HoldsEvent g k n.event
  pub version : version_at g W k ≡ n.version

-- the last flushed frontier contains the note's id
abbrev pub Contained : Last → Note → Type 0
Contained never n = ⊥
Contained (at f) n = n.event.id.seq ≤ entry f n.event.id.idx.0

-- every held slot is an accepted note, and every accepted note is held or contained
pub record Holding (g : EventGraph) (W : Versions) (ns : List Note) (last : Last) : Type 0 where
  pub each : (k : ℕ) → k < g.held → (n : Note) × Among n ns × NoteAt g W k n
  pub all : (n : Note) → Among n ns → Contained last n ⊎ ((k : ℕ) × NoteAt g W k n)

-- what is held is not contained
pub not-contained : (start g : EventGraph) (W : Versions) (last : Last) (k : ℕ) (n : Note) → NotesOk g → RootsAre start g last → NoteAt g W k n → Contained last n → ⊥
not-contained start g W never k n notes r s c = c
not-contained start g W (at f) k n notes r s c =
    omega (arith, notes.above_roots k s.small, r.1 (replica_at g k), s.event.seq, ap (λ (i : ℕ). entry f i) s.event.replica, c)

-- an event stands in another slot of another graph as it stood
event-moves : {g h : EventGraph} {j k : ℕ} {e : Event} → SameNote h g j k → HoldsEvent g k e → HoldsEvent h j e
event-moves s a = record {
  replica = s.id.replica ∙ a.replica;
  seq = s.id.seq ∙ a.seq;
  code = s.id.code ∙ a.code;
  lamport = s.lamport ∙ a.lamport;
  op = s.op ∙ a.op;
  revision = s.revision ∙ a.revision;
}

-- and so does a note
pub note-moves : {g h : EventGraph} {W U : Versions} (j k : ℕ) (n : Note) → j < h.held → SameNote h g j k → version_at h U j ≡ version_at g W k → NoteAt g W k n → NoteAt h U j n
note-moves j k n l s v a = record { small = l; event = event-moves s a.event; version = v ∙ a.version }

-- ---- a start holds nothing

none-among : {A : Type 0} {n : Note} → Among n [] → A
none-among = elim [ ]

empty-holding : (start : EventGraph) → start.held ≡ 0 → Holding start none [] never
empty-holding start h = record {
  each = λ k l. absurd (omega (arith, h));
  all = λ n a. none-among a;
}

checkpoint-empty : (r : ℕ) (v : List ℕ) → (checkpointed r v).graph.held ≡ 0
unfolding checkpointed
checkpoint-empty r v =
    ⊎_elim (λ (t : eqb (from_entries r v).refusal 0 ≡ true). rw t refl) (λ (f : eqb (from_entries r v).refusal 0 ≡ false). rw f refl)
    (true-or-false (eqb (from_entries r v).refusal 0))

pub start-holding : {start : EventGraph} → Start start → Holding start none [] never
unfolding created
start-holding (fresh r e) = empty-holding (created r).graph refl
start-holding (checkpoint r v e) = empty-holding (checkpointed r v).graph (checkpoint-empty r v)

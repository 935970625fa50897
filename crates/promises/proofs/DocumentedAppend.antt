-- What is accepted stands behind the others as it was handed in, and they stay; siblings carry one revision.
use mathlib.Core.List.{List}
use mathlib.Core.Logic.{⊎_elim}
use mathlib.Core.Path.{◌≡◌, sym}
use Prim.Native.Nat.{ℕ, ◌<◌, ◌≤◌}
use native.Mathlib.Decide.{ℕ_discrete}
use native.Mathlib.Omega.{arith}
use borrow.Author.Tests.{eq-eqb}
use Rattle.laws.proofs.Orders.{le-or-lt}
use Rattle.clocks.proofs.Vectors.{well-formed-for}
use Rattle.graph.specs.Whole.{EventGraph}
use Rattle.graph.specs.Refusals.{refusal_of}
use Rattle.graph.specs.Graphs.{appended}
use Rattle.graph.specs.Invariant.{NotesOk, revision_at, Siblings}
use Rattle.graph.proofs.DescentLaws.{accepted-facts}
use Rattle.graph.proofs.AppendNotes.{OneMore, push-one-more}
use Rattle.promises.specs.Reached.{Versions}
use Rattle.promises.specs.Demand.{SameNote}
use Rattle.promises.specs.Documented.{HoldsEvent, AppendedLast}
use Rattle.clocks.specs.declared.event.Event.{Event}
use Rattle.promises.proofs.LogOk.{LogOk}

module _ (g h : EventGraph) (e : Event) (v : List ℕ) (p : OneMore g h e v) where
  pub new-event : HoldsEvent h g.held e
  new-event = record { replica = p.new_replica; seq = p.new_seq; code = p.new_code; lamport = p.new_lamport; op = p.new_op; revision = p.new_revision }

  pub old-note-stays : (k : ℕ) → k < g.held → SameNote h g k k
  old-note-stays k l = record {
    id = record { replica = p.old_replica k l; seq = p.old_seq k l; code = p.old_code k l };
    lamport = p.old_lamport k l;
    op = p.old_op k l;
    revision = p.old_revision k l;
  }

accepted-more : (g : EventGraph) (W : Versions) → LogOk g W → (e : Event) (v : List ℕ) → (appended g e v).refusal ≡ 0 → OneMore g (appended g e v).graph e v
unfolding appended
accepted-more g W ok e v taken =
    let a = accepted-facts g e.id e.revision v taken in
    let p = push-one-more g e v ok.graph ok.notes a.fits (well-formed-for g.named.len v e.id a.vector).0 in
    rw (eq-eqb (refusal_of g e.id e.revision v) 0 taken) p

pub append-documented : (g : EventGraph) (W : Versions) → LogOk g W → (e : Event) (v : List ℕ) → (appended g e v).refusal ≡ 0 → AppendedLast g e v
append-documented g W ok e v taken =
    let p = accepted-more g W ok e v taken in
    record { number = p.held; new = new-event g (appended g e v).graph e v p; stays = old-note-stays g (appended g e v).graph e v p }

pub one-revision : (g : EventGraph) → NotesOk g → (j k : ℕ) → j < g.held → k < g.held → Siblings g j k → revision_at g j ≡ revision_at g k
one-revision g notes j k l m s = elim (ℕ_discrete j k) [
  | yes z ↦ rw z
  | no z ↦ ⊎_elim
      (λ (q : j ≤ k). notes.one_revision j k (omega arith) m s)
      (λ (q : k < j). sym (notes.one_revision k j q l (sym s.0, sym s.1))) (le-or-lt j k)
]

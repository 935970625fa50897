-- What `first_observer` means: the first event of a replica, of all that were accepted since creation or clear, that has an id in its past; retained or pruned.
-- It is told by the accepted versions alone. The id need not have been accepted.
use Rattle.std.specs.Prelude.{true, List, [], ◌↔◌, ◌≡◌, ℕ, ◌≤◌}
use Rattle.clocks.specs.Vectors.{entry}
use Rattle.history.specs.Whole.{EventHistory}
use Rattle.history.specs.Tables.{note_at}
use Rattle.history.specs.Traces.{pruned_of, held}
use Rattle.observation.specs.Reached.{Versions}
use Rattle.clocks.specs.declared.tagged_op.TaggedOp.{TaggedOp}
use Rattle.history.specs.declared.event_history.FirstObserver.{FirstObserver}
use Rattle.history.specs.declared.event_history.FirstObserver.TheVariants.{Event, NoneYet, Pruned}

-- event (q,u) was accepted, and has (r,s) in its past: its version covers (r,s), and it is another event. Sequence 0 is covered by every version.
pub record Observes (W : Versions) (q u r s : ℕ) : Type 0 where
  pub accepted : W q u ≡ [] → ⊥
  pub seen : s ≤ entry (W q u) r
  pub other : r ≡ q → s ≡ u → ⊥

-- t is the first sequence of q ever accepted that has (r,s) in its past. The Rust, of `next`: "the first event `e` from replica `r` such that `e` has `v` in
-- its causal past."
pub record IsFirst (W : Versions) (r s q t : ℕ) : Type 0 where
  pub past : Observes W q t r s
  pub first : (u : ℕ) → Observes W q u r s → t ≤ u

-- an event exactly when the first one is retained, and it is that one; pruned exactly when the first one is pruned; none yet exactly when there is none
pub record TellsFirst (h : EventHistory) (notes : List ℕ) (W : Versions) (r s q : ℕ) (f : FirstObserver) : Type 0 where
  pub event : (op : TaggedOp) → (f ≡ Event op) ↔ ((t : ℕ) × IsFirst W r s q t × (held h q t ≡ true) × (op ≡ note_at h notes q t))
  pub pruned : (f ≡ Pruned) ↔ ((t : ℕ) × IsFirst W r s q t × (t ≤ pruned_of h q))
  pub none : (f ≡ NoneYet) ↔ ((t : ℕ) → Observes W q t r s → ⊥)

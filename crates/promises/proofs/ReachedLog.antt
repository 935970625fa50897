-- What holds of a log holds of every graph that calls reach, and what was accepted is held or was removed.
use mathlib.Core.Bool.{true, false}
use mathlib.Core.List.{List}
use mathlib.Core.Logic.{⊎_elim}
use mathlib.Core.Path.{◌≡◌, refl}
use Prim.Native.Nat.{ℕ, ◌+◌}
use native.Mathlib.Omega.{arith}
use lib.Dec.{eqb}
use borrow.Author.Tests.{eqb-true, eqb-false}
use Rattle.laws.specs.Counting.{pick, one}
use Rattle.laws.proofs.Orders.{true-or-false}
use Rattle.clocks.specs.Frontiers.{from_entries}
use Rattle.graph.specs.Whole.{EventGraph, Removed}
use Rattle.graph.specs.Refusals.{refusal_of}
use Rattle.graph.specs.Removals.{cleared}
use Rattle.graph.specs.Invariant.{GraphOk, NotesOk}
use Rattle.graph.proofs.ReachedLaws.{created-ok, checkpointed-ok, clear-ok}
use Rattle.graph.proofs.NotesLaws.{created-notes, checkpointed-notes, clear-notes}
use Rattle.graph.proofs.MeaningLaws.{append-held, append-refused, remove-held, retain-held, flush-held, clear-held}
use Rattle.graph.proofs.RaiseLaws.{widen-graph-cases}
use Rattle.promises.specs.Reached.{Versions, none, with_version, Reached, created, checkpointed, append, flush, advance, raise, remove, retain, clear}
use Rattle.clocks.specs.declared.event.Event.{Event}
use Rattle.promises.proofs.LogOk.{LogOk}
use Rattle.promises.proofs.AppendLog.{push-log}
use Rattle.promises.proofs.AdvanceLog.{advance-is}
use Rattle.promises.proofs.RaiseLog.{raise-log}
use Rattle.promises.proofs.RemainLog.{flush-log, remove-log, retain-log}
use Rattle.graph.specs.Graphs as graphs

-- where nothing is held, only the graph itself counts
empty-log : (g : EventGraph) (W : Versions) → g.held ≡ 0 → GraphOk g → NotesOk g → LogOk g W
empty-log g W h ok notes = record {
  graph = ok;
  notes = notes;
  long = λ k l. absurd (omega (arith, h));
  own = λ k l. absurd (omega (arith, h));
  upto = λ k r l. absurd (omega (arith, h));
  after = λ k r l. absurd (omega (arith, h));
  descent = λ i j l m. absurd (omega (arith, h));
  first = λ i k l m c. absurd (omega (arith, h));
}

pub created-held : (r : ℕ) → (graphs.created r).graph.held ≡ 0
unfolding graphs.created
created-held r = refl

pub checkpointed-held : (r : ℕ) (v : List ℕ) → (graphs.checkpointed r v).graph.held ≡ 0
unfolding graphs.checkpointed
checkpointed-held r v = ⊎_elim
    (λ (t : eqb (from_entries r v).refusal 0 ≡ true). rw t)
    (λ (z : eqb (from_entries r v).refusal 0 ≡ false). rw z) (true-or-false (eqb (from_entries r v).refusal 0))

append-log : (g : EventGraph) (W : Versions) (e : Event) (v : List ℕ) → LogOk g W
    → LogOk (graphs.appended g e v).graph (pick (eqb (graphs.appended g e v).refusal 0) (with_version W e.id v) W)
unfolding graphs.appended
append-log g W e v ok = ⊎_elim
    (λ (t : eqb (refusal_of g e.id e.revision v) 0 ≡ true). rw t (push-log g W e v ok (eqb-true (refusal_of g e.id e.revision v) 0 t)))
    (λ (z : eqb (refusal_of g e.id e.revision v) 0 ≡ false). rw z ok) (true-or-false (eqb (refusal_of g e.id e.revision v) 0))

pub reached-ok : {g : EventGraph} {W : Versions} {accepted gone : ℕ} → Reached g W accepted gone → LogOk g W
reached-ok (created r h) = empty-log (graphs.created r).graph none (created-held r) (created-ok r) (created-notes r h)
reached-ok (checkpointed r v h) = empty-log (graphs.checkpointed r v).graph none (checkpointed-held r v) (checkpointed-ok r v) (checkpointed-notes r v h)
reached-ok (append p e v) = append-log _ _ e v (reached-ok p)
reached-ok (flush p f) = flush-log _ _ f (reached-ok p)
reached-ok (advance {g = g} {W = W} p bound) = advance-is g W (reached-ok p) bound (λ (x : Removed). LogOk x.graph W) (λ f. flush-log g W f (reached-ok p)) (reached-ok p)
reached-ok (raise {g = g} {W = W} p r) = raise-log g W r (reached-ok p)
reached-ok (remove p id) = remove-log _ _ id (reached-ok p)
reached-ok (retain p mask) = retain-log _ _ mask (reached-ok p)
reached-ok (clear {g = g} p) = empty-log (cleared g).graph none (clear-held g).0 (clear-ok g) (clear-notes g (reached-ok p).notes)

-- one more is held where an append is accepted
append-counts : (g : EventGraph) (e : Event) (v : List ℕ) → (graphs.appended g e v).graph.held ≡ g.held + one (eqb (graphs.appended g e v).refusal 0)
append-counts g e v = ⊎_elim
    (λ (t : eqb (graphs.appended g e v).refusal 0 ≡ true). rw t (append-held g e v (eqb-true (graphs.appended g e v).refusal 0 t)))
    (λ (z : eqb (graphs.appended g e v).refusal 0 ≡ false). rw (append-refused g e v (eqb-false (graphs.appended g e v).refusal 0 z), z) (omega arith))
    (true-or-false (eqb (graphs.appended g e v).refusal 0))

-- accepted appends, less the removed counts answered, are the number held
pub reached-count : {g : EventGraph} {W : Versions} {accepted gone : ℕ} → Reached g W accepted gone → g.held + gone ≡ accepted
reached-count (created r h) = rw (created-held r)
reached-count (checkpointed r v h) = rw (checkpointed-held r v)
reached-count (append {g = g} p e v) = omega (arith, append-counts g e v, reached-count p)
reached-count (flush {g = g} p f) = omega (arith, flush-held g f, reached-count p)
reached-count (advance {g = g} {W = W} p bound) =
    let e = advance-is g W (reached-ok p) bound (λ (x : Removed). x.graph.held + x.count ≡ g.held) (flush-held g) (omega arith) in
    omega (arith, e, reached-count p)
reached-count (raise {g = g} {accepted = accepted} {gone = gone} p r) =
    widen-graph-cases g r (reached-ok p).notes.one_size (λ (x : EventGraph). x.held + gone ≡ accepted) (reached-count p) (λ a b c. reached-count p)
reached-count (remove {g = g} p id) = omega (arith, remove-held g id, reached-count p)
reached-count (retain {g = g} p mask) = omega (arith, retain-held g mask, reached-count p)
reached-count (clear {g = g} p) = rw (clear-held g).0

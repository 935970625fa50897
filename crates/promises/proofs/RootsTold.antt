-- Roots are told by the start and the last flushed frontier, whatever else a log does: append and raise leave them, a flush puts its frontier there.
use mathlib.Core.Bool.{true, false}
use mathlib.Core.List.{List}
use mathlib.Core.Logic.{⊎_elim}
use mathlib.Core.Path.{◌≡◌, refl, sym, ◌∙◌}
use Prim.Native.Nat.{ℕ, ◌≤◌}
use native.Mathlib.Omega.{arith}
use lib.Dec.{eqb}
use lib.ListN.{take}
use borrow.Author.Tests.{ne_eqb, eqb-true, eqb-false}
use Rattle.laws.specs.Counting.{pick}
use Rattle.laws.proofs.Orders.{true-or-false}
use Rattle.clocks.specs.Vectors.{desks, well_formed}
use Rattle.clocks.specs.Frontiers.{is_bad_count, from_entries}
use Rattle.clocks.proofs.Frontiers.{good-count, made, frontier-ext}
use Rattle.graph.specs.Whole.{EventGraph, Removed}
use Rattle.graph.specs.Refusals.{refusal_of}
use Rattle.graph.specs.Graphs.{created, checkpointed, pushed, appended}
use Rattle.graph.specs.Raises.{widened_graph}
use Rattle.graph.proofs.RaiseLaws.{sized, widen-graph-cases}
use Rattle.graph.specs.Removals.{kept, rooted_at, flushed}
use Rattle.graph.specs.Advances.{advanced}
use Rattle.graph.specs.Invariant.{NotesOk}
use Rattle.graph.proofs.RemovalCases.{stays, flush-cases}
use Rattle.promises.specs.Reached.{Versions}
use Rattle.promises.specs.Demand.{Last, never, at, Says, SameStart, both_fresh, both_from, SameLast, neither, both, SameR}
use Rattle.clocks.specs.declared.event.Event.{Event}
use Rattle.promises.proofs.LogOk.{LogOk}
use Rattle.promises.proofs.AdvanceLog.{advance-documented}

-- roots say what those of the start say, or the last flushed frontier
abbrev pub RootsAre : EventGraph → EventGraph → Last → Type 0
RootsAre start g never = (g.rooted ≡ start.rooted) × Says g.roots.entries start.roots.entries
RootsAre start g (at f) = (g.rooted ≡ true) × Says g.roots.entries f

pub record RootsTold (start g : EventGraph) (last : Last) : Type 0 where
  pub roots : RootsAre start g last

-- what an accepted checkpoint starts with
from-rooted : (r : ℕ) (v : List ℕ) → (checkpointed r v).refusal ≡ 0 → (checkpointed r v).graph.rooted ≡ true
unfolding checkpointed
from-rooted r v e = ⊎_elim
    (λ (t : eqb (from_entries r v).refusal 0 ≡ true). rw t)
    (λ (z : eqb (from_entries r v).refusal 0 ≡ false). absurd (eqb-false (from_entries r v).refusal 0 z (rw z at e))) (true-or-false (eqb (from_entries r v).refusal 0))

-- its vector was well formed
from-formed : (r : ℕ) (v : List ℕ) → (from_entries r v).refusal ≡ 0 → (r ≤ desks) × (well_formed r v ≡ true)
unfolding from_entries
from-formed r v e = ⊎_elim
    (λ (t : is_bad_count r ≡ true). absurd (omega (arith, rw t at e)))
    (λ (z : is_bad_count r ≡ false). ⊎_elim
    (λ (t : well_formed r v ≡ true). ((good-count r z).1, t))
    (λ (f : well_formed r v ≡ false). absurd (omega (arith, rw (z, f) at e))) (true-or-false (well_formed r v)))
    (true-or-false (is_bad_count r))

from-roots : (r : ℕ) (v : List ℕ) → (checkpointed r v).refusal ≡ 0 → Says (checkpointed r v).graph.roots.entries v
unfolding checkpointed
from-roots r v e = ⊎_elim
    (λ (t : eqb (from_entries r v).refusal 0 ≡ true). let f = from-formed r v (eqb-true (from_entries r v).refusal 0 t) in rw t (made r v f.0 f.1).2)
    (λ (z : eqb (from_entries r v).refusal 0 ≡ false). absurd (eqb-false (from_entries r v).refusal 0 z (rw z at e))) (true-or-false (eqb (from_entries r v).refusal 0))

-- the starts' own roots
start-rooted : {start start' : EventGraph} → SameStart start start' → start.rooted ≡ start'.rooted
unfolding created checkpointed
start-rooted (both_fresh r s a b) = refl
start-rooted (both_from r s v w a b e) = from-rooted r v a ∙ sym (from-rooted s w b)

start-roots : {start start' : EventGraph} → SameStart start start' → Says start.roots.entries start'.roots.entries
unfolding created
start-roots (both_fresh r s a b) i = refl
start-roots (both_from r s v w a b e) i = from-roots r v a i ∙ (e i ∙ sym (from-roots s w b i))

-- so two logs of starts that are the same, with last flushed frontiers that say the same and one R, have the same roots
module _ {start start' g h : EventGraph} (s : SameStart start start') (m : NotesOk g) (n : NotesOk h) (size : SameR g h) where
  one-frontier : Says g.roots.entries h.roots.entries → g.roots ≡ h.roots
  one-frontier e = frontier-ext g.roots h.roots m.roots_ok n.roots_ok (m.one_size ∙ (size ∙ sym n.one_size)) e

  pub same-roots : {last last' : Last} → SameLast last last' → RootsAre start g last → RootsAre start' h last' → (g.rooted ≡ h.rooted) × (g.roots ≡ h.roots)
  same-roots neither a b = (a.0 ∙ (start-rooted s ∙ sym b.0), one-frontier (λ i. a.1 i ∙ (start-roots s i ∙ sym (b.1 i))))
  same-roots (both f k l) a b = (a.0 ∙ sym b.0, one-frontier (λ i. a.1 i ∙ (l i ∙ sym (b.1 i))))

pub start-told : (start : EventGraph) → RootsTold start start never
start-told start = record { roots = (refl, λ i. refl) }

-- ---- what leaves roots alone

pub roots-stay : (start g h : EventGraph) (last : Last) → h.rooted ≡ g.rooted → Says h.roots.entries g.roots.entries → RootsAre start g last → RootsAre start h last
roots-stay start g h never a b r = (a ∙ r.0, λ i. b i ∙ r.1 i)
roots-stay start g h (at f) a b r = (a ∙ r.0, λ i. b i ∙ r.1 i)

module _ (start g : EventGraph) (last : Last) (told : RootsTold start g last) where
  push-told : (e : Event) (v : List ℕ) → RootsTold start (pushed g e v) last
  unfolding pushed
  push-told e v = record { roots = roots-stay start g (pushed g e v) last refl (λ i. refl) told.roots }

  pub append-told : (e : Event) (v : List ℕ) → RootsTold start (appended g e v).graph last
  unfolding appended
  append-told e v = ⊎_elim
      (λ (t : eqb (refusal_of g e.id e.revision v) 0 ≡ true). rw t (push-told e v))
      (λ (z : eqb (refusal_of g e.id e.revision v) 0 ≡ false). rw z told) (true-or-false (eqb (refusal_of g e.id e.revision v) 0))

  pub raise-told : NotesOk g → (r : ℕ) → RootsTold start (widened_graph g r).graph last
  raise-told notes r = widen-graph-cases g r notes.one_size (λ (x : EventGraph). RootsTold start x last) told
      (λ a b c. record { roots = roots-stay start g (sized g r) last refl (λ i. refl) told.roots })

  -- ---- flush and advance

  rest-told : NotesOk g → (f : List ℕ) → well_formed g.named.len f ≡ true → RootsTold start (rooted_at (kept g (stays g f)) f) (at f)
  unfolding kept
  rest-told notes f formed = record { roots = (refl, (made g.named.len f notes.named_ok.room formed).2) }

  -- refused or not
  pub flush-told : NotesOk g → (f : List ℕ) → RootsTold start (flushed g f).graph (pick (eqb (flushed g f).refusal 0) (at f) last)
  flush-told notes f = flush-cases (λ (x : Removed). RootsTold start x.graph (pick (eqb x.refusal 0) (at f) last)) g f
      (λ formed critical. rest-told notes f formed) (λ n z. rw (ne_eqb n 0 z) told)

  -- an advance is a flush at the frontier that it finds
  pub advance-told : (W : Versions) → LogOk g W → (bound : List ℕ)
      → RootsTold start (advanced g bound).graph (pick (advanced g bound).found (at (take g.named.len (advanced g bound).frontier.entries)) last)
  advance-told W ok bound = ⊎_elim
      (λ (t : (advanced g bound).found ≡ true).
      let f : List ℕ = take g.named.len (advanced g bound).frontier.entries in
      let h : RootsTold start (flushed g f).graph (pick (eqb (flushed g f).refusal 0) (at f) last) = flush-told ok.notes f in
      rw t (rw ((advance-documented g W ok bound).flush t) at h))
      (λ (z : (advanced g bound).found ≡ false). rw (z, ((advance-documented g W ok bound).none z).0) told) (true-or-false (advanced g bound).found)

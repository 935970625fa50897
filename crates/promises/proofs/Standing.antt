-- A log stands where it is reached and its roots are told by its start and its last flushed frontier. Every call keeps that, and two logs that stand and hold
-- the same above the same roots agree, whatever they did before.
use mathlib.Core.List.{List}
use Prim.Native.Nat.{ℕ}
use lib.Dec.{eqb}
use lib.ListN.{take}
use Rattle.laws.specs.Counting.{pick}
use Rattle.graph.specs.Whole.{EventGraph}
use Rattle.graph.specs.Graphs.{appended}
use Rattle.graph.specs.Removals.{flushed}
use Rattle.graph.specs.Advances.{advanced}
use Rattle.graph.specs.Raises.{widened_graph}
use Rattle.promises.specs.Reached.{Versions, none, with_version, Reached}
use Rattle.promises.specs.Demand.{Last, never, at, Start, fresh, checkpoint, SameStart, both_fresh, both_from, SameLast, SameR, Agree}
use Rattle.promises.specs.Removals.{HeldIn}
use Rattle.clocks.specs.declared.event.Event.{Event}
use Rattle.promises.proofs.LogOk.{LogOk}
use Rattle.promises.proofs.ReachedLog.{reached-ok}
use Rattle.promises.proofs.Agreement.{agreement}
use Rattle.promises.proofs.RootsTold.{RootsTold, same-roots, start-told, append-told, flush-told, advance-told, raise-told}
use Rattle.promises.specs.Reached as calls

pub record Standing (start g : EventGraph) (W : Versions) (last : Last) : Type 0 where
  pub accepted : ℕ
  pub gone : ℕ
  pub reached : Reached g W accepted gone
  pub told : RootsTold start g last

pub stands-so : {start g : EventGraph} {W : Versions} {accepted gone : ℕ} {last : Last} → Reached g W accepted gone → RootsTold start g last → Standing start g W last
stands-so {accepted = accepted} {gone = gone} r t = record { accepted = accepted; gone = gone; reached = r; told = t }

pub standing-ok : {start g : EventGraph} {W : Versions} {last : Last} → Standing start g W last → LogOk g W
standing-ok w = reached-ok w.reached

-- ---- a start stands, and calls keep it

pub stands-start : {start : EventGraph} → Start start → Standing start start none never
stands-start (fresh r e) = stands-so (calls.created r e) (start-told _)
stands-start (checkpoint r v e) = stands-so (calls.checkpointed r v e) (start-told _)

module _ {start g : EventGraph} {W : Versions} {last : Last} (w : Standing start g W last) where
  pub stands-append : (e : Event) (v : List ℕ) → Standing start (appended g e v).graph (pick (eqb (appended g e v).refusal 0) (with_version W e.id v) W) last
  stands-append e v = stands-so (calls.append w.reached e v) (append-told start g last w.told e v)

  pub stands-flush : (f : List ℕ) → Standing start (flushed g f).graph W (pick (eqb (flushed g f).refusal 0) (at f) last)
  stands-flush f = stands-so (calls.flush w.reached f) (flush-told start g last w.told (standing-ok w).notes f)

  pub stands-advance : (bound : List ℕ)
      → Standing start (advanced g bound).graph W (pick (advanced g bound).found (at (take g.named.len (advanced g bound).frontier.entries)) last)
  stands-advance bound = stands-so (calls.advance w.reached bound) (advance-told start g last w.told W (standing-ok w) bound)

  pub stands-raise : (r : ℕ) → Standing start (widened_graph g r).graph W last
  stands-raise r = stands-so (calls.raise w.reached r) (raise-told start g last w.told (standing-ok w).notes r)

-- ---- two that stand

-- each of two starts that are the same is a start
pub starts : {start start' : EventGraph} → SameStart start start' → Start start × Start start'
starts (both_fresh r s a b) = (fresh r a, fresh s b)
starts (both_from r s v w a b e) = (checkpoint r v a, checkpoint s w b)

pub standing-agree : {start start' g h : EventGraph} {W U : Versions} {last last' : Last} → SameStart start start' → Standing start g W last → Standing start' h U last'
    → SameLast last last' → SameR g h → HeldIn g W h U → HeldIn h U g W → Agree g h
standing-agree s a b l size to back =
    let o = standing-ok a in
    let p = standing-ok b in
    let r = same-roots s o.notes p.notes size l a.told.roots b.told.roots in
    agreement (record { left = o; right = p; size = size; rooted = r.0; roots = r.1; to = to; back = back })

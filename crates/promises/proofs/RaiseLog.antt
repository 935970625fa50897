-- A raise of R keeps what holds of a log: nothing that is held, named or rooted changes.
use Prim.Native.Nat.{ℕ, ◌≤◌}
use native.Mathlib.Omega.{arith}
use Rattle.clocks.specs.Vectors.{desks}
use Rattle.graph.specs.Whole.{EventGraph}
use Rattle.graph.specs.Raises.{widened_graph}
use Rattle.graph.specs.Invariant.{GraphOk}
use Rattle.graph.proofs.RaiseLaws.{sized, widen-graph-cases, sized-notes}
use Rattle.promises.specs.Reached.{Versions}
use Rattle.promises.proofs.LogOk.{LogOk}

sized-ok : (g : EventGraph) (r : ℕ) → GraphOk g → GraphOk (sized g r)
sized-ok g r ok = record { room = ok.room; long = ok.long; earlier = ok.earlier; through = ok.through; cuts = ok.cuts }

sized-log : (g : EventGraph) (W : Versions) (r : ℕ) → LogOk g W → r ≤ desks → g.named.len ≤ r → LogOk (sized g r) W
sized-log g W r ok l m = record {
  graph = sized-ok g r ok.graph;
  notes = sized-notes g r ok.notes l m;
  long = λ k p. omega (arith, ok.long k p);
  own = ok.own;
  upto = ok.upto;
  after = ok.after;
  descent = ok.descent;
  first = ok.first;
}

pub raise-log : (g : EventGraph) (W : Versions) (r : ℕ) → LogOk g W → LogOk (widened_graph g r).graph W
raise-log g W r ok = widen-graph-cases g r ok.notes.one_size (λ (x : EventGraph). LogOk x W) ok (λ a b c. sized-log g W r ok b c)

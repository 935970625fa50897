-- What holds of every reached graph and the versions that are carried beside it. The steps of demand 3's plan are its fields.
use mathlib.Core.Bool.{◌&&◌}
use mathlib.Core.Path.{◌≡◌}
use Prim.Native.Nat.{ℕ, ◌<◌, ◌≤◌}
use lib.Dec.{leb, ltb}
use lib.ListN.{length}
use Rattle.clocks.specs.Vectors.{entry}
use Rattle.tables.specs.Slots.{descends}
use Rattle.graph.specs.Whole.{EventGraph}
use Rattle.graph.specs.Invariant.{GraphOk, NotesOk, Siblings, replica_at, seq_at}
use Rattle.promises.specs.Reached.{Versions, version_at}

pub record LogOk (g : EventGraph) (W : Versions) : Type 0 where
  pub graph : GraphOk g
  pub notes : NotesOk g
  -- a version has at most R entries, its own is the sequence, and none is above what is named or below roots
  pub long : (k : ℕ) → k < g.held → length (version_at g W k) ≤ g.named.len
  pub own : (k : ℕ) → k < g.held → entry (version_at g W k) (replica_at g k) ≡ seq_at g k
  pub upto : (k r : ℕ) → k < g.held → entry (version_at g W k) r ≤ entry g.named.entries r
  pub after : (k r : ℕ) → k < g.held → entry g.roots.entries r ≤ entry (version_at g W k) r
  -- descent is cover: i descends from exactly the earlier ones that its version covers
  pub descent : (i j : ℕ) → i < g.held → j < g.held
      → descends g.pasts i j ≡ (ltb j i && leb (seq_at g j) (entry (version_at g W i) (replica_at g j)))
  -- the past comes first: what a version covers stands before its event, but for siblings
  pub first : (i k : ℕ) → k < g.held → i < k → seq_at g k ≤ entry (version_at g W i) (replica_at g k) → Siblings g i k

-- The promise survives removals: they leave roots alone, so a log with removals stands as others do, and logs that stand and hold the same agree.
use mathlib.Core.Bool.{Bool}
use mathlib.Core.List.{List}
use mathlib.Core.Path.{refl}
use Prim.Native.Nat.{ℕ}
use Rattle.graph.specs.Whole.{EventGraph, Removed}
use Rattle.graph.specs.Seen.{recounted}
use Rattle.graph.specs.Removals.{kept, without_id, retained}
use Rattle.graph.proofs.RemovalCases.{picks, remove-cases, retain-cases}
use Rattle.promises.specs.Reached.{Versions}
use Rattle.promises.specs.Demand.{Note, Last, Start}
use Rattle.promises.specs.Removals.{RemovalLog, begin, append, flush, advance, raise, remove, retain, HeldAgree, SurvivesRemovals}
use Rattle.clocks.specs.declared.id.EventId.{EventId}
use Rattle.promises.proofs.RootsTold.{RootsTold, roots-stay}
use Rattle.promises.proofs.Standing.{Standing, stands-so, stands-start, stands-append, stands-flush, stands-advance, stands-raise, starts, standing-agree}
use Rattle.promises.specs.Reached as calls

module _ (start g : EventGraph) (last : Last) (told : RootsTold start g last) where
  kept-told : (f : ℕ → Bool) → RootsTold start (recounted (kept g (picks g f))) last
  unfolding kept
  kept-told f = record { roots = roots-stay start g (recounted (kept g (picks g f))) last refl (λ i. refl) told.roots }

  remove-told : (id : EventId) → RootsTold start (without_id g id).graph last
  remove-told id = remove-cases (λ (x : Removed). RootsTold start x.graph last) g id kept-told told

  retain-told : (mask : List ℕ) → RootsTold start (retained g mask).graph last
  retain-told mask = retain-cases (λ (x : Removed). RootsTold start x.graph last) g mask kept-told told

pub standing : {start g : EventGraph} {W : Versions} {ns : List Note} {last : Last} → Start start → RemovalLog start g W ns last → Standing start g W last
standing s begin = stands-start s
standing s (append l e v) = stands-append (standing s l) e v
standing s (flush l f) = stands-flush (standing s l) f
standing s (advance l bound) = stands-advance (standing s l) bound
standing s (raise l r) = stands-raise (standing s l) r
standing s (remove l id) = let w = standing s l in stands-so (calls.remove w.reached id) (remove-told _ _ _ w.told id)
standing s (retain l mask) = let w = standing s l in stands-so (calls.retain w.reached mask) (retain-told _ _ _ w.told mask)

pub held-agree : HeldAgree
held-agree start start' g h W U ms ns last last' s x y l size same =
    standing-agree s (standing (starts s).0 x) (standing (starts s).1 y) l size same.left same.right

pub survives-removals : SurvivesRemovals
survives-removals start start' g h W U ms ns last last' s x y accepted l size same = held-agree start start' g h W U ms ns last last' s x y l size same

-- Seen everything is what document 02 says, on every reached graph: the sixteen numbers are the highest held sequences there.
use mathlib.Core.Bool.{true}
use mathlib.Core.List.{List}
use mathlib.Core.Path.{◌≡◌}
use Prim.Native.Nat.{ℕ, ◌<◌}
use Rattle.graph.specs.Whole.{EventGraph}
use Rattle.graph.specs.Refusals.{covered}
use Rattle.graph.specs.Invariant.{GraphOk, NotesOk}
use Rattle.graph.proofs.CoverLaws.{covered-intro, covered-elim}
use Rattle.graph.proofs.SeenLaws.{seen_same, seen-yes, seen_no, seen-refused, seen_none}
use Rattle.promises.specs.Reached.{Versions, Reached}
use Rattle.promises.specs.Seen.{CoversAll, SeenDocumented}
use Rattle.promises.proofs.ReachedLog.{reached-ok}

module _ (g : EventGraph) (v : List ℕ) where
  to-covers : ((k : ℕ) → k < g.held → covered g v k ≡ true) → CoversAll g v
  to-covers h k l = (covered-elim g v k (h k l)).1

  of-covers : CoversAll g v → (k : ℕ) → k < g.held → covered g v k ≡ true
  of-covers h k l = covered-intro g v k l (h k l)

pub seen-documented : (g : EventGraph) → GraphOk g → NotesOk g → SeenDocumented g
seen-documented g ok notes = record {
  yes = λ v w. let s = seen-yes g ok notes v w in (λ e. to-covers g v (s.0 e), λ h. s.1 (of-covers g v h));
  no = λ v w. let s = seen_no g ok notes v w in (λ e h. s.0 e (of-covers g v h), λ h. s.1 (λ c. h (to-covers g v c)));
  refused = seen-refused g;
  none = seen_none g ok notes;
  same = seen_same g ok notes;
}

pub reached-seen : {g : EventGraph} {W : Versions} {accepted gone : ℕ} → Reached g W accepted gone → SeenDocumented g
reached-seen {g = g} p = let k = reached-ok p in seen-documented g k.graph k.notes

-- Every graph that calls reach is what the documents say.
use Prim.Native.Nat.{ℕ}
use Rattle.graph.specs.Whole.{EventGraph}
use Rattle.graph.proofs.WalkLaws.{listed-parents, walked-heads}
use Rattle.promises.specs.Reached.{Versions, Reached}
use Rattle.promises.specs.Documented.{Documented}
use Rattle.promises.proofs.LogOk.{LogOk}
use Rattle.promises.proofs.ReachedLog.{reached-ok}
use Rattle.promises.proofs.Documented.{past-exact, parent-exact, head-exact, cut-exact}
use Rattle.promises.proofs.DocumentedFrontiers.{critical-documented, held_after_lem, next-after, found-documented, answer-documented}
use Rattle.promises.proofs.DocumentedVersions.{version-documented, prefix-documented}
use Rattle.promises.proofs.DocumentedFlush.{flush-documented}
use Rattle.promises.proofs.AdvanceLog.{advance-documented}
use Rattle.promises.proofs.DocumentedAppend.{append-documented, one-revision}

pub documented : (g : EventGraph) (W : Versions) → LogOk g W → Documented g W
documented g W ok = record {
  past = past-exact g W ok;
  parent = parent-exact g W ok;
  head = head-exact g W ok;
  listed = listed-parents g ok.graph;
  listed_heads = walked-heads g ok.graph;
  cut = cut-exact g W ok;
  version = version-documented g W ok;
  prefix = prefix-documented g W ok;
  critical = critical-documented g W ok;
  found = found-documented g W ok;
  answer = answer-documented g W ok;
  flush = flush-documented g W ok;
  advance = advance-documented g W ok;
  append = append-documented g W ok;
  siblings = one-revision g ok.notes;
  after = held_after_lem g W ok;
  next = next-after g W ok;
}

pub reached-documented : {g : EventGraph} {W : Versions} {accepted gone : ℕ} → Reached g W accepted gone → Documented g W
reached-documented {g = g} {W = W} p = documented g W (reached-ok p)

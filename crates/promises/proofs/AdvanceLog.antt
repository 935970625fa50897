-- An advance is the flush at the frontier that it finds, which is not refused, or nothing: what flushes keep it keeps.
use mathlib.Core.Bool.{true, false}
use mathlib.Core.List.{List}
use mathlib.Core.Logic.{⊎_elim}
use mathlib.Core.Path.{◌≡◌, sym, ap, ◌∙◌}
use Prim.Native.Nat.{ℕ}
use lib.ListN.{take}
use Rattle.laws.proofs.Orders.{true-or-false}
use Rattle.graph.specs.Whole.{EventGraph, Removed}
use Rattle.graph.specs.Cuts.{FrontierFound, greatest}
use Rattle.graph.specs.Removals.{removed, flushed}
use Rattle.graph.specs.Advances.{advanced}
use Rattle.graph.proofs.AdvanceLaws.{advance-answers, advance-none, advance-flushes}
use Rattle.promises.specs.Reached.{Versions}
use Rattle.promises.specs.Documented.{FlushesGreatest}
use Rattle.promises.proofs.LogOk.{LogOk}

module _ (g : EventGraph) (W : Versions) (ok : LogOk g W) (bound : List ℕ) where
  -- it finds what `greatest` finds
  same-found : (advanced g bound).found ≡ (greatest g bound).found
  same-found = ap (λ (f : FrontierFound). f.found) (advance-answers g bound)

  same_entries : (advanced g bound).frontier.entries ≡ (greatest g bound).frontier.entries
  same_entries = ap (λ (f : FrontierFound). f.frontier.entries) (advance-answers g bound)

  pub advance-documented : FlushesGreatest g bound
  advance-documented = record {
    finds = advance-answers g bound;
    flush = λ t. ap (λ (v : List ℕ). flushed g (take g.named.len v)) same_entries ∙ advance-flushes g bound ok.graph ok.notes (sym same-found ∙ t);
    none = λ z. advance-none g bound (sym same-found ∙ z);
  }

  -- what is so of every flush and of no change is so of an advance
  pub advance-is : (P : Removed → Type 0) → ((f : List ℕ) → P (flushed g f)) → P (removed 0 0 g) → P (removed 0 (advanced g bound).count (advanced g bound).graph)
  advance-is P some none = ⊎_elim
      (λ (t : (advanced g bound).found ≡ true). rw (← advance-documented.flush t) (some (take g.named.len (advanced g bound).frontier.entries)))
      (λ (z : (advanced g bound).found ≡ false). let n = advance-documented.none z in rw (n.0, n.1) none) (true-or-false (advanced g bound).found)

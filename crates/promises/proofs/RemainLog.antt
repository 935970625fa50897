-- Removals keep what holds of a log: what remains keeps its order, its descent and its version. A flush moves roots, nowhere above what remains.
use mathlib.Core.Bool.{Bool, true, false, not, true≢false}
use mathlib.Core.List.{List}
use mathlib.Core.Logic.{⊎_elim}
use mathlib.Core.Path.{◌≡◌, sym, ap, ◌∙◌}
use Prim.Native.Nat.{ℕ, suc, ◌<◌, ◌≤◌}
use native.Mathlib.Omega.{arith}
use lib.Dec.{ltb}
use borrow.Author.Tests.{not-true}
use Rattle.laws.specs.Counting.{count_below}
use Rattle.laws.proofs.Orders.{le-or-lt, and_both, ltb_iff}
use Rattle.clocks.specs.Vectors.{entry, well_formed}
use Rattle.clocks.specs.Frontiers.{from_entries}
use Rattle.clocks.proofs.Frontiers.{made}
use Rattle.positions.specs.Members.{set_of}
use Rattle.positions.proofs.Compacting.{rank_rises}
use Rattle.graph.specs.Whole.{EventGraph, Removed}
use Rattle.graph.specs.Refusals.{covered}
use Rattle.graph.specs.Cuts.{base_of, prefix_frontier, at_base, is_critical}
use Rattle.graph.specs.Seen.{recounted}
use Rattle.graph.specs.Removals.{kept, without_id, retained, rooted_at, flushed}
use Rattle.graph.specs.Invariant.{replica_at, seq_at}
use Rattle.graph.proofs.DescentLaws.{recorded-elim}
use Rattle.graph.proofs.KeptLaws.{from, kept-ok}
use Rattle.graph.proofs.RemainLaws.{was, was-kept, was-held, stands, was-before, was-descent, kept-notes, roots-moved}
use Rattle.graph.proofs.ReachedLaws.{recounted-ok, rooted-ok}
use Rattle.graph.proofs.CoverLaws.{covered-intro}
use Rattle.graph.proofs.FrontierLaws.{base-entry, desk-small, prefix-up, prefix-least}
use Rattle.graph.proofs.CriticalLaws.{AtCut, critical-cut, same_entries}
use Rattle.graph.proofs.RemovalCases.{picks, picks_held, stays, stays-held, remove-cases, retain-cases, flush-cases}
use Rattle.promises.specs.Reached.{Versions, version_at}
use Rattle.clocks.specs.declared.id.EventId.{EventId}
use Rattle.promises.proofs.LogOk.{LogOk}
use Rattle.promises.proofs.Documented.{before_of}

module _ (g : EventGraph) (W : Versions) (f : ℕ → Bool) (ok : LogOk g W) (held : (k : ℕ) → k < 256 → f k ≡ true → k < g.held) where
  abbrev before : (i : ℕ) → i < count_below f 256 → ℕ
  before i l = was g f ok.graph held i l

  -- what remains has the version that it had
  same_version : (i : ℕ) (l : i < count_below f 256) → version_at (kept g f) W i ≡ version_at g W (before i l)
  unfolding kept
  same_version i l = rw (stands g f ok.graph held g.replicas i l, stands g f ok.graph held g.seqs i l, stands g f ok.graph held g.codes i l)

  same-replica : (i : ℕ) (l : i < count_below f 256) → replica_at (kept g f) i ≡ replica_at g (before i l)
  unfolding kept
  same-replica i l = stands g f ok.graph held g.replicas i l

  same-seq : (i : ℕ) (l : i < count_below f 256) → seq_at (kept g f) i ≡ seq_at g (before i l)
  unfolding kept
  same-seq i l = stands g f ok.graph held g.seqs i l

  stood : (i : ℕ) (l : i < count_below f 256) → before i l < g.held
  stood i l = was-held g f ok.graph held i l

  same-order : (j i : ℕ) (m : j < count_below f 256) (l : i < count_below f 256) → ltb (before j m) (before i l) ≡ ltb j i
  same-order j i m l = ltb_iff (before j m) (before i l) j i
      (λ q. omega (arith, rank_rises (set_of f) (before j m) (before i l) q (from g f ok.graph held j m).kept_at, (from g f ok.graph held j m).is-rank, (from g f ok.graph held i l).is-rank))
      (λ q. was-before g f ok.graph held j i m l q)

  pub kept-log : LogOk (recounted (kept g f)) W
  unfolding kept
  kept-log = record {
    graph = recounted-ok (kept g f) (kept-ok g f ok.graph held);
    notes = kept-notes g f ok.graph ok.notes held;
    long = λ k l. rw (same_version k l) (ok.long (before k l) (stood k l));
    own = λ k l. rw (same_version k l, same-replica k l, same-seq k l) (ok.own (before k l) (stood k l));
    upto = λ k r l. rw (same_version k l) (ok.upto (before k l) r (stood k l));
    after = λ k r l. rw (same_version k l) (ok.after (before k l) r (stood k l));
    descent = λ i j l m.
        rw (same_version i l, same-replica j m, same-seq j m, ← same-order j i m l) (was-descent g f ok.graph held i j l m ∙ ok.descent (before i l) (before j m) (stood i l) (stood j m));
    first = λ i k l m c.
        let a : i < count_below f 256 = omega arith in
        let s = ok.first (before i a) (before k l) (stood k l) (was-before g f ok.graph held i k a l m) (rw (same_version i a, same-replica k l, same-seq k l) at c) in
        rw (same-replica i a, same-replica k l, same-seq i a, same-seq k l) s;
  }

log-of : (g : EventGraph) (W : Versions) (f : ℕ → Bool) → LogOk g W → LogOk (recounted (kept g (picks g f))) W
log-of g W f ok = kept-log g W (picks g f) ok (picks_held g f)

pub remove-log : (g : EventGraph) (W : Versions) (id : EventId) → LogOk g W → LogOk (without_id g id).graph W
remove-log g W id ok = remove-cases (λ (x : Removed). LogOk x.graph W) g id (λ f. log-of g W f ok) ok

pub retain-log : (g : EventGraph) (W : Versions) (mask : List ℕ) → LogOk g W → LogOk (retained g mask).graph W
retain-log g W mask ok = retain-cases (λ (x : Removed). LogOk x.graph W) g mask (λ f. log-of g W f ok) ok

-- ---- a flush

module _ (g : EventGraph) (W : Versions) (v : List ℕ) (ok : LogOk g W) where
  -- an event that the vector does not contain stands behind the cut, so its version covers all before the cut, and roots
  beyond-cut : AtCut g v → (a : ℕ) → a < g.held → covered g v a ≡ false → (r : ℕ) → entry v r ≤ entry (version_at g W a) r
  beyond-cut c a l e r =
      let m = prefix-least g ok.notes (suc c.0) r (entry (version_at g W a) r) (omega (arith, base-entry g ok.notes r, ok.after a r l))
      (λ j q z. reaches j (omega arith) z) in
      omega (arith, same r, m)
    where
      same : (i : ℕ) → entry (prefix_frontier g (suc c.0)).entries i ≡ entry v i
      same = same_entries (prefix_frontier g (suc c.0)).entries v c.2

      behind : c.0 < a
      behind = ⊎_elim
          (λ (q : a ≤ c.0). absurd (true≢false (sym (covered-intro g v a l
          (omega (arith, prefix-up g ok.notes (suc c.0) a (omega arith) (desk-small g ok.notes a l), same (replica_at g a)))) ∙ e)))
          (λ (q : c.0 < a). q) (le-or-lt a c.0)

      reaches : (j : ℕ) → j ≤ c.0 → replica_at g j ≡ r → seq_at g j ≤ entry (version_at g W a) r
      reaches j m z =
          let b = before_of g W ok a j l (recorded-elim g ok.graph c.0 c.1 a j l behind m) in
          omega (arith, b.covered, ap (λ (x : ℕ). entry (version_at g W a) x) z)

  -- so a critical vector is nowhere above the version of what it does not contain
  pub beyond-critical : is_critical g v ≡ true → (a : ℕ) → a < g.held → covered g v a ≡ false → (r : ℕ) → entry v r ≤ entry (version_at g W a) r
  beyond-critical c a l e r = ⊎_elim
      (λ (s : at_base g v ≡ true).
      omega (arith, same_entries (base_of g).entries v s r, base-entry g ok.notes r, ok.after a r l))
      (λ (w : AtCut g v). beyond-cut w a l e r) (critical-cut g v c)

  -- other roots, nowhere above the versions of what remains
  rooted-log : well_formed g.named.len v ≡ true → is_critical g v ≡ true → LogOk (rooted_at (kept g (stays g v)) v) W
  unfolding kept
  rooted-log h c = record {
    graph = rooted-ok (kept g (stays g v)) (from_entries g.named.len v).frontier (kept-ok g (stays g v) ok.graph (stays-held g v));
    notes = roots-moved g v ok.graph ok.notes h c;
    long = remains.long;
    own = remains.own;
    upto = remains.upto;
    after = λ k r l.
        let a = before g W (stays g v) ok (stays-held g v) k l in
        let e = not-true (covered g v a) (and_both (ltb a g.held) (not (covered g v a)) (was-kept g (stays g v) ok.graph (stays-held g v) k l)).1 in
        rw (same_version g W (stays g v) ok (stays-held g v) k l)
        (omega (arith, (made g.named.len v ok.notes.named_ok.room h).2 r, beyond-critical c a (stood g W (stays g v) ok (stays-held g v) k l) e r));
    descent = remains.descent;
    first = remains.first;
  }
    where
      remains : LogOk (recounted (kept g (stays g v))) W
      remains = kept-log g W (stays g v) ok (stays-held g v)

pub flush-log : (g : EventGraph) (W : Versions) (v : List ℕ) → LogOk g W → LogOk (flushed g v).graph W
flush-log g W v ok = flush-cases (λ (x : Removed). LogOk x.graph W) g v (rooted-log g W v ok) (λ n z. ok)

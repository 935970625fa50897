-- A flush removes a whole prefix, a cut or nothing, and what stays closes ranks.
use mathlib.Core.Bool.{Bool, true, false, not}
use mathlib.Core.List.{List}
use mathlib.Core.Logic.{◌⊎◌, inl, inr, ⊎_elim}
use mathlib.Core.Path.{◌≡◌, refl, sym, ap, ◌∙◌}
use Prim.Native.Nat.{ℕ, zero, suc, ◌+◌, ◌-◌, ◌<◌, ◌≤◌}
use native.Mathlib.Decide.{ℕ_discrete}
use native.Mathlib.Omega.{arith}
use lib.Dec.{ltb}
use lib.ListN.{get_or}
use borrow.Author.Tests.{lt-ltb, le-ltb, ltb-true, ltb-false, not-true}
use Rattle.laws.specs.Counting.{count_below}
use Rattle.laws.proofs.Orders.{le-or-lt}
use Rattle.clocks.specs.Vectors.{well_formed}
use Rattle.positions.specs.Members.{has}
use Rattle.graph.specs.Whole.{EventGraph, Removed}
use Rattle.graph.specs.Refusals.{covered}
use Rattle.graph.specs.Cuts.{is_critical}
use Rattle.tables.specs.Ranks.{closed}
use Rattle.graph.specs.Removals.{kept, rooted_at, flushed}
use Rattle.tables.proofs.ClosingLaws.{rank-count}
use Rattle.graph.proofs.KeptLaws.{from}
use Rattle.graph.proofs.RemainLaws.{was, was-kept, was-held, stands}
use Rattle.graph.proofs.MeaningLaws.{flush-held}
use Rattle.graph.proofs.CoverLaws.{covered-intro, covered-elim}
use Rattle.graph.proofs.CriticalLaws.{critical-prefix}
use Rattle.graph.proofs.RemovalCases.{stays, stays-held, flush-cases}
use Rattle.promises.specs.Reached.{Versions}
use Rattle.promises.specs.Demand.{SameNote}
use Rattle.promises.specs.Documented.{IsCut, FlushedPrefix}
use Rattle.promises.proofs.LogOk.{LogOk}
use Rattle.promises.proofs.Documented.{cut-exact}

-- where what is picked is all from m on, as many are picked below a as a exceeds m
count-from : (f : ℕ → Bool) (m a : ℕ) → ((k : ℕ) → k < a → f k ≡ not (ltb k m)) → count_below f a ≡ a - m
unfolding count_below
count-from f m zero h = omega arith
count-from f m (suc a) h = ⊎_elim
    (λ (q : m ≤ a). let e : f a ≡ true = h a (omega arith) ∙ rw (le-ltb a m q) in rw e (omega (arith, count-from f m a (λ k l. h k (omega arith)))))
    (λ (q : a < m). let e : f a ≡ false = h a (omega arith) ∙ rw (lt-ltb a m q) in rw e (omega (arith, count-from f m a (λ k l. h k (omega arith))))) (le-or-lt m a)

-- past the last that is picked the count stays
count-stops : (f : ℕ → Bool) (n a : ℕ) → n ≤ a → ((k : ℕ) → n ≤ k → f k ≡ false) → count_below f a ≡ count_below f n
unfolding count_below
count-stops f n zero l h = let e : n ≡ 0 = omega arith in rw e
count-stops f n (suc a) l h = elim (ℕ_discrete n (suc a)) [
  | yes e ↦ rw e
  | no e ↦ rw (h a (omega arith)) (omega (arith, count-stops f n a (omega arith) h))
]

module _ (g : EventGraph) (W : Versions) (ok : LogOk g W) (v : List ℕ) (accepted : (flushed g v).refusal ≡ 0) where
  -- the two lines of the table
  tests : (well_formed g.named.len v ≡ true) × (is_critical g v ≡ true)
  tests = flush-cases (λ (x : Removed). x.refusal ≡ 0 → (well_formed g.named.len v ≡ true) × (is_critical g v ≡ true)) g v (λ t c e. (t, c)) (λ n z e. absurd (z e)) accepted

  flushed-is : (flushed g v).graph ≡ rooted_at (kept g (stays g v)) v
  unfolding flushed
  flushed-is = rw (tests.0, tests.1)

  cut-or-none : (m : ℕ) → (m ≡ 0) ⊎ (has g.cuts (m - 1) ≡ true) → (m ≡ 0) ⊎ IsCut g W m
  cut-or-none zero h = inl refl
  cut-or-none (suc k) h =
      let s : suc k - 1 ≡ k = omega arith in
      ⊎_elim (λ (e : suc k ≡ 0). absurd (omega arith)) (λ (c : has g.cuts (suc k - 1) ≡ true). inr ((cut-exact g W ok k).0 (rw s at c))) h

  module _ (m : ℕ) (most : m ≤ g.held) (exact : (k : ℕ) → k < g.held → covered g v k ≡ ltb k m) where
    stays-from : (k : ℕ) → k < g.held → stays g v k ≡ not (ltb k m)
    stays-from k l = rw (lt-ltb k g.held l, exact k l)

    all_stay : count_below (stays g v) 256 ≡ g.held - m
    all_stay = count-stops (stays g v) g.held 256 ok.graph.room (λ k l. rw (le-ltb k g.held l)) ∙ count-from (stays g v) m g.held stays-from

    -- what is at k stood at m + k
    shift : (k : ℕ) (l : k < count_below (stays g v) 256) → was g (stays g v) ok.graph (stays-held g v) k l ≡ m + k
    shift k l =
        let a = was g (stays g v) ok.graph (stays-held g v) k l in
        let b = was-held g (stays g v) ok.graph (stays-held g v) k l in
        let c = count-from (stays g v) m a (λ j q. stays-from j (omega arith)) in
        let d = rank-count (stays g v) a (omega (arith, b, ok.graph.room)) in
        let e = ltb-false a m (not-true (ltb a m) (sym (stays-from a b) ∙ was-kept g (stays g v) ok.graph (stays-held g v) k l)) in
        omega (arith, c, d, e, (from g (stays g v) ok.graph (stays-held g v) k l).is-rank)

    at : (xs : List ℕ) (k : ℕ) → k < count_below (stays g v) 256 → get_or (closed (stays g v) xs) k 0 ≡ get_or xs (m + k) 0
    at xs k l = stands g (stays g v) ok.graph (stays-held g v) xs k l ∙ ap (λ (x : ℕ). get_or xs x 0) (shift k l)

    same-notes : (k : ℕ) → k < (rooted_at (kept g (stays g v)) v).held → SameNote (rooted_at (kept g (stays g v)) v) g k (m + k)
    unfolding kept
    same-notes k l = record {
      id = record { replica = at g.replicas k l; seq = at g.seqs k l; code = at g.codes k l };
      lamport = at g.lamports k l;
      op = at g.ops k l;
      revision = at g.revisions k l;
    }

    number : m + (rooted_at (kept g (stays g v)) v).held ≡ g.held
    unfolding kept
    number = omega (arith, all_stay)

    number-flushed : m + (flushed g v).graph.held ≡ g.held
    number-flushed = rw flushed-is number

    is-prefix : (m ≡ 0) ⊎ IsCut g W m → FlushedPrefix g W v
    is-prefix c = record {
      length = m;
      prefix = c;
      contained = λ k l. ((λ h. ltb-true k m (sym (exact k l) ∙ covered-intro g v k l h)), λ q. (covered-elim g v k (exact k l ∙ lt-ltb k m q)).1);
      count = omega (arith, flush-held g v, number-flushed);
      number = number-flushed;
      stays = λ k l. rw flushed-is (same-notes k (rw flushed-is at l));
    }

  pub flush-documented : FlushedPrefix g W v
  flush-documented =
      let w = critical-prefix g ok.graph ok.notes v tests.1 tests.0 in
      is-prefix w.0 w.1 w.2 (cut-or-none w.0 w.3)

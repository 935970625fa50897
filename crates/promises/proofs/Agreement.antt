-- Two logs that hold the same notes with the same versions, above the same roots, agree: in notes, parents, heads, cut lengths, and in the critical
-- frontier for every bound. Nothing is said of how they came there.
use mathlib.Core.Bool.{Bool, true}
use mathlib.Core.List.{List}
use mathlib.Core.Logic.{⊎_elim}
use mathlib.Core.Path.{◌≡◌, sym, ap, ◌∙◌, fun_ext}
use Prim.Native.Nat.{ℕ, suc, ◌≤◌, ◌<◌}
use native.Mathlib.Nat.{le_antisymm}
use native.Mathlib.Omega.{arith}
use lib.Dec.{eqb}
use Rattle.laws.specs.Counting.{pick, all_below, last_below, max_below}
use Rattle.laws.proofs.Orders.{and_both, bool_iff, le-or-lt}
use Rattle.laws.proofs.Counting.{all-intro, all-elim}
use Rattle.laws.proofs.Searching.{max-up, max_least, last-is}
use Rattle.laws.proofs.Lists.{tabulate-cong}
use Rattle.clocks.specs.Vectors.{desks}
use Rattle.positions.specs.Members.{has}
use Rattle.graph.specs.Whole.{EventGraph}
use Rattle.graph.specs.Refusals.{covered}
use Rattle.tables.specs.Ranks.{highest_seq}
use Rattle.graph.specs.Cuts.{prefix_frontier, cut_inside, greatest}
use Rattle.graph.specs.Invariant.{replica_at, seq_at}
use Rattle.graph.proofs.DescentLaws.{recorded-held}
use Rattle.graph.proofs.CoverLaws.{covered-intro, covered-elim}
use Rattle.graph.proofs.CriticalLaws.{inside}
use Rattle.promises.specs.Reached.{Versions}
use Rattle.promises.specs.Demand.{Agree}
use Rattle.promises.proofs.Matching.{Match, swapped, holds}
use Rattle.promises.proofs.AgreeCuts.{held_same, cuts-same, Prefix, prefix-over}

-- ---- frontiers of cuts

highest-within : (g h : EventGraph) (n r : ℕ) → Prefix g h n → highest_seq g.replicas g.seqs n r ≤ highest_seq h.replicas h.seqs n r
unfolding highest_seq
highest-within g h n r to = max_least (λ k. pick (eqb (replica_at g k) r) (seq_at g k) 0) n (max_below (λ k. pick (eqb (replica_at h k) r) (seq_at h k) 0) n)
    (λ j l. let w = to j l in rw (w.2.replica, w.2.seq) (max-up (λ k. pick (eqb (replica_at h k) r) (seq_at h k) 0) n w.0 w.1))

-- the frontier of the first n positions says the same where they hold the same ids
prefix_same : {g h : EventGraph} {W U : Versions} → Match g W h U → (n : ℕ) → Prefix g h n → Prefix h g n → prefix_frontier g n ≡ prefix_frontier h n
unfolding prefix_frontier
prefix_same {g} {h} m n to back = rw (
  m.rooted,
  m.roots,
  m.size,
  tabulate-cong (highest_seq g.replicas g.seqs n) (highest_seq h.replicas h.seqs n) desks
      (λ r l. le_antisymm (highest-within g h n r to) (highest-within h g n r back)),
)

-- ---- the greatest critical frontier inside a bound

inside-over : {g h : EventGraph} {W U : Versions} → Match g W h U → (bound : List ℕ) (k : ℕ) → inside g bound k ≡ true → inside h bound k ≡ true
inside-over {g} {h} m bound k e =
    let a = and_both (has g.cuts k) (all_below (covered g bound) (suc k)) e in
    let c : has h.cuts k ≡ true = sym (cuts-same m k) ∙ a.0 in
    rw c (all-intro (covered h bound) (suc k) (λ j l.
    let w = prefix-over (swapped m) k c j l in
    let b = covered-elim g bound w.0 (all-elim (covered g bound) (suc k) a.1 w.0 w.1) in
    covered-intro h bound j (omega (arith, (recorded-held h m.right.graph k c).0)) (rw (w.2.replica, w.2.seq) b.1)))

module _ {g h : EventGraph} {W U : Versions} (m : Match g W h U) (bound : List ℕ) where
  inside-same : cut_inside g bound ≡ cut_inside h bound
  unfolding cut_inside
  inside-same = ap (λ (f : ℕ → Bool). last_below f 256)
      (fun_ext (λ k. bool_iff (inside g bound k) (inside h bound k) (inside-over m bound k) (inside-over (swapped m) bound k)))

  frontier-same : prefix_frontier g (cut_inside h bound) ≡ prefix_frontier h (cut_inside h bound)
  unfolding cut_inside
  frontier-same = ⊎_elim
      (λ (z : last_below (inside h bound) 256 ≤ 0).
      let e : last_below (inside h bound) 256 ≡ 0 = omega arith in
      rw e (prefix_same m 0 (λ j l. absurd (omega arith)) (λ j l. absurd (omega arith))))
      (λ (p : 0 < last_below (inside h bound) 256).
      let w = last-is (inside h bound) 256 p in
      let c = (and_both (has h.cuts w.0) (all_below (covered h bound) (suc w.0)) w.2).0 in
      rw w.3 (prefix_same m (suc w.0) (prefix-over m w.0 (cuts-same m w.0 ∙ c)) (prefix-over (swapped m) w.0 c))) (le-or-lt (last_below (inside h bound) 256) 0)

  pub greatest-same : greatest g bound ≡ greatest h bound
  unfolding greatest
  greatest-same = rw (inside-same, frontier-same, m.rooted, m.roots, m.size)

-- ---- all of it

pub agreement : {g h : EventGraph} {W U : Versions} → Match g W h U → Agree g h
agreement m = record { left = holds m; right = holds (swapped m); number = held_same m; cuts = cuts-same m; critical = greatest-same m }

-- Critical frontiers and the greatest one inside a bound are what document 01 says of cuts over versions.
use mathlib.Core.Bool.{Bool, true, false, ◌&&◌, not}
use mathlib.Core.List.{List}
use mathlib.Core.Logic.{◌⊎◌, ◌↔◌, inl, inr, ⊎_elim}
use mathlib.Core.Path.{◌≡◌, refl, sym, ap, ◌∙◌}
use Prim.Native.Nat.{ℕ, zero, suc, ◌<◌, ◌≤◌}
use native.Mathlib.Nat.{le_antisymm}
use native.Mathlib.Omega.{arith}
use lib.Dec.{ltb}
use borrow.Author.Tests.{lt-ltb, ltb-true, not-true}
use Rattle.laws.specs.Counting.{pick, all_below, last_below}
use Rattle.laws.proofs.Orders.{le-or-lt, and_both, true-or-false, imp-of, of-imp}
use Rattle.laws.proofs.Counting.{all-intro, all-elim}
use Rattle.laws.proofs.Searching.{last-is, last_up}
use Rattle.laws.proofs.Lists.{get_or-zeros}
use Rattle.clocks.specs.Vectors.{entry, well_formed, at_most}
use Rattle.clocks.specs.Frontiers.{zeros}
use Rattle.clocks.proofs.Vectors.{at-most-intro, at-most-elim}
use Rattle.positions.specs.Members.{has}
use Rattle.graph.specs.Whole.{EventGraph}
use Rattle.graph.specs.Refusals.{covered}
use Rattle.graph.specs.Graphs.{appended}
use Rattle.graph.specs.Cuts.{base_of, prefix_frontier, cut_inside, outside, frontier_found, greatest, at_base, is_critical}
use Rattle.graph.specs.Invariant.{replica_at, seq_at}
use Rattle.graph.proofs.CoverLaws.{covered-intro, covered-elim}
use Rattle.graph.proofs.FrontierLaws.{desk-small, prefix-base, prefix-up, prefix-hit}
use Rattle.graph.proofs.CriticalLaws.{AtCut, critical-exactly, inside, same_entries, same-intro}
use Rattle.promises.specs.Reached.{Versions, version_at}
use Rattle.promises.specs.Documented.{Covers, IsCut, root_at, FrontierOf, CriticalFrontier, CutInside, GreatestInside, HasAnswer}
use Rattle.clocks.specs.declared.causal_frontier.CausalFrontier.{CausalFrontier}
use Rattle.clocks.specs.declared.event.Event.{Event}
use Rattle.promises.proofs.LogOk.{LogOk}
use Rattle.promises.proofs.AppendLog.{accepted-after}
use Rattle.promises.proofs.Documented.{cut-exact}

-- ---- the frontier of the first n positions: there is one, and what it says is determined

-- the base of the definitions is roots, or zeros
base-root : (g : EventGraph) (r : ℕ) → entry (base_of g).entries r ≡ root_at g r
base-root g r = ⊎_elim (λ (t : g.rooted ≡ true). rw t) (λ (z : g.rooted ≡ false). rw z (get_or-zeros 16 r)) (true-or-false g.rooted)

frontier-below : (g : EventGraph) (n : ℕ) (v w : List ℕ) → FrontierOf g n v → FrontierOf g n w → (r : ℕ) → entry v r ≤ entry w r
frontier-below g n v w a b r = ⊎_elim
    (λ (e : entry v r ≡ root_at g r). omega (arith, e, b.base r))
    (λ (t : (j : ℕ) × (j < n) × (replica_at g j ≡ r) × (seq_at g j ≡ entry v r)). omega (arith, t.3, b.covers t.0 t.1, ap (λ (x : ℕ). entry w x) t.2)) (a.one r)

-- two frontiers of the same positions say the same
pub frontier-unique : (g : EventGraph) (n : ℕ) (v w : List ℕ) → FrontierOf g n v → FrontierOf g n w → (r : ℕ) → entry v r ≡ entry w r
frontier-unique g n v w a b r = le_antisymm (frontier-below g n v w a b r) (frontier-below g n w v b a r)

-- and what says the same is one too
frontier-same : (g : EventGraph) (n : ℕ) (v w : List ℕ) → ((r : ℕ) → entry v r ≡ entry w r) → FrontierOf g n v → FrontierOf g n w
frontier-same g n v w e a = record {
  base = λ r. rw (← e r) (a.base r);
  covers = λ j l. rw (← e (replica_at g j)) (a.covers j l);
  one = λ r. rw (← e r) (a.one r);
}

module _ (g : EventGraph) (W : Versions) (ok : LogOk g W) where
  pub prefix-is : (n : ℕ) → n ≤ g.held → FrontierOf g n (prefix_frontier g n).entries
  prefix-is n l = record {
    base = base;
    covers = covers;
    one = λ r. ⊎_elim
        (λ (q : entry (prefix_frontier g n).entries r ≤ root_at g r). inl (le_antisymm q (base r)))
        (λ (q : root_at g r < entry (prefix_frontier g n).entries r).
        let w = prefix-hit g ok.notes n r (entry (prefix_frontier g n).entries r) (omega (arith, base-root g r)) (omega arith) in
        inr (w.0, w.1, w.2, le_antisymm (omega (arith, covers w.0 w.1, ap (λ (x : ℕ). entry (prefix_frontier g n).entries x) w.2)) w.3))
        (le-or-lt (entry (prefix_frontier g n).entries r) (root_at g r));
  }
    where
      base : (r : ℕ) → root_at g r ≤ entry (prefix_frontier g n).entries r
      base r = omega (arith, base-root g r, prefix-base g ok.notes n r)

      covers : (j : ℕ) → j < n → Covers g (prefix_frontier g n).entries j
      covers j q = prefix-up g ok.notes n j q (desk-small g ok.notes j (omega arith))

  -- ---- critical

  at_base_lem : (v : List ℕ) → (at_base g v ≡ true) ↔ ((r : ℕ) → entry v r ≡ root_at g r)
  at_base_lem v = (
    (λ e r. sym (same_entries (base_of g).entries v e r) ∙ base-root g r),
    λ h. same-intro (base_of g).entries v (λ r. base-root g r ∙ sym (h r)),
  )

  pub critical-documented : (v : List ℕ) → well_formed g.named.len v ≡ true → (is_critical g v ≡ true) ↔ CriticalFrontier g W v
  critical-documented v h = (
    (λ e. ⊎_elim (λ (b : at_base g v ≡ true). inl ((at_base_lem v).0 b)) (λ (c : AtCut g v). inr (there c)) ((critical-exactly g ok.graph ok.notes v h).0 e)),
    λ e. (critical-exactly g ok.graph ok.notes v h).1
        (⊎_elim (λ (b : (r : ℕ) → entry v r ≡ root_at g r). inl ((at_base_lem v).1 b)) (λ (c : (n : ℕ) × IsCut g W n × FrontierOf g n v). inr (back c.0 c.1 c.2)) e),
  )
    where
      there : AtCut g v → (n : ℕ) × IsCut g W n × FrontierOf g n v
      there c =
          let i = (cut-exact g W ok c.0).0 c.1 in
          (suc c.0, i, frontier-same g (suc c.0) (prefix_frontier g (suc c.0)).entries v (same_entries (prefix_frontier g (suc c.0)).entries v c.2) (prefix-is (suc c.0) i.most))

      back : (n : ℕ) → IsCut g W n → FrontierOf g n v → AtCut g v
      back zero c f = absurd (omega (arith, c.some))
      back (suc k) c f =
          (k, (cut-exact g W ok k).1 c, same-intro (prefix_frontier g (suc k)).entries v (frontier-unique g (suc k) (prefix_frontier g (suc k)).entries v (prefix-is (suc k) c.most) f))

  -- ---- no note behind a flush

  root-roots : (r : ℕ) → root_at g r ≤ entry g.roots.entries r
  root-roots r = ⊎_elim (λ (t : g.rooted ≡ true). rw t (omega arith)) (λ (z : g.rooted ≡ false). rw z (omega arith)) (true-or-false g.rooted)

  pub held_after_lem : (k r : ℕ) → k < g.held → root_at g r ≤ entry (version_at g W k) r
  held_after_lem k r l = omega (arith, root-roots r, ok.after k r l)

  pub next-after : (e : Event) (v : List ℕ) → (appended g e v).refusal ≡ 0 → (r : ℕ) → root_at g r ≤ entry v r
  unfolding appended
  next-after e v h r = omega (arith, root-roots r, accepted-after g W ok e.id e.revision v h r)

-- ---- the greatest cut inside a bound

module _ (g : EventGraph) (W : Versions) (ok : LogOk g W) (bound : List ℕ) where
  inside-exact : (k : ℕ) → (inside g bound k ≡ true) ↔ CutInside g W bound (suc k)
  inside-exact k = (there, back)
    where
      there : inside g bound k ≡ true → CutInside g W bound (suc k)
      there e =
          let a = and_both (has g.cuts k) (all_below (covered g bound) (suc k)) e in
          record {
            cut = (cut-exact g W ok k).0 a.0;
            contained = λ j l. (covered-elim g bound j (all-elim (covered g bound) (suc k) a.1 j l)).1;
          }

      back : CutInside g W bound (suc k) → inside g bound k ≡ true
      back c = rw ((cut-exact g W ok k).1 c.cut) (all-intro (covered g bound) (suc k) (λ j l. covered-intro g bound j (omega (arith, c.cut.most)) (c.contained j l)))

  outside-exact : (outside g bound ≡ false) ↔ ((r : ℕ) → root_at g r ≤ entry bound r)
  outside-exact = (there, back)
    where
      there : outside g bound ≡ false → (r : ℕ) → root_at g r ≤ entry bound r
      there e r = ⊎_elim
          (λ (t : g.rooted ≡ true). rw t (at-most-elim g.roots.entries bound (imp-of g.rooted (at_most g.roots.entries bound) e t) r))
          (λ (z : g.rooted ≡ false). rw z (omega arith)) (true-or-false g.rooted)

      back : ((r : ℕ) → root_at g r ≤ entry bound r) → outside g bound ≡ false
      back h = of-imp g.rooted (at_most g.roots.entries bound)
          (λ t. at-most-intro g.roots.entries bound (λ r. let q : entry g.roots.entries r ≤ entry bound r = rw t at (h r) in q))

  -- the length that is looked for is 0 where no cut is inside, and the greatest one otherwise
  abbrev NoneInside : Type 0
  NoneInside = (cut_inside g bound ≡ 0) × ((n : ℕ) → CutInside g W bound n → ⊥)

  abbrev SomeInside : Type 0
  SomeInside = (j : ℕ) × (cut_inside g bound ≡ suc j) × GreatestInside g W bound (suc j)

  small : (k : ℕ) → CutInside g W bound (suc k) → k < 256
  small k c = omega (arith, c.cut.most, ok.graph.room)

  inside-cases : NoneInside ⊎ SomeInside
  unfolding cut_inside
  inside-cases = ⊎_elim
      (λ (z : last_below (inside g bound) 256 ≤ 0). inl (omega arith, none z))
      (λ (p : 0 < last_below (inside g bound) 256).
      let w = last-is (inside g bound) 256 p in
      inr (w.0, w.3, record { inside = (inside-exact w.0).0 w.2; greatest = highest w.0 w.3 })) (le-or-lt (last_below (inside g bound) 256) 0)
    where
      none : last_below (inside g bound) 256 ≤ 0 → (n : ℕ) → CutInside g W bound n → ⊥
      none z zero c = omega (arith, c.cut.some)
      none z (suc k) c = omega (arith, last_up (inside g bound) 256 k (small k c) ((inside-exact k).1 c))

      highest : (j : ℕ) → last_below (inside g bound) 256 ≡ suc j → (m : ℕ) → CutInside g W bound m → m ≤ suc j
      highest j e zero c = omega arith
      highest j e (suc k) c = omega (arith, e, last_up (inside g bound) 256 k (small k c) ((inside-exact k).1 c))

  picked : (b : Bool) (f z : CausalFrontier) → (pick b (frontier_found 0 true f) (frontier_found 0 false z)).found ≡ b
  picked true f z = refl
  picked false f z = refl

  module _ (formed : well_formed g.named.len bound ≡ true) where
    found-is : (greatest g bound).found ≡ (not (outside g bound) && ltb 0 (cut_inside g bound))
    unfolding greatest
    found-is = rw formed (picked (not (outside g bound) && ltb 0 (cut_inside g bound)) (prefix_frontier g (cut_inside g bound)) (zeros g.named.len))

    found_front : (greatest g bound).found ≡ true → (greatest g bound).frontier ≡ prefix_frontier g (cut_inside g bound)
    unfolding greatest
    found_front e = let b : (not (outside g bound) && ltb 0 (cut_inside g bound)) ≡ true = sym found-is ∙ e in rw (formed, b)

    found-tests : (greatest g bound).found ≡ true → ((r : ℕ) → root_at g r ≤ entry bound r) × (0 < cut_inside g bound)
    found-tests e =
        let a = and_both (not (outside g bound)) (ltb 0 (cut_inside g bound)) (sym found-is ∙ e) in
        (outside-exact.0 (not-true (outside g bound) a.0), ltb-true 0 (cut_inside g bound) a.1)

    pub found-documented : ((greatest g bound).found ≡ true) ↔ HasAnswer g W bound
    found-documented = (there, back)
      where
        there : (greatest g bound).found ≡ true → HasAnswer g W bound
        there e =
            let t = found-tests e in
            ⊎_elim (λ (n : NoneInside). absurd (omega (arith, n.0, t.1)))
            (λ (w : SomeInside). record { above = t.0; length = suc w.0; cut = w.2.inside }) inside-cases

        back : HasAnswer g W bound → (greatest g bound).found ≡ true
        back a = ⊎_elim
            (λ (n : NoneInside). absurd (n.1 a.length a.cut))
            (λ (w : SomeInside). found-is ∙ rw (outside-exact.1 a.above, lt-ltb 0 (cut_inside g bound) (omega (arith, w.1)))) inside-cases

    pub answer-documented : (greatest g bound).found ≡ true → (n : ℕ) × GreatestInside g W bound n × FrontierOf g n (greatest g bound).frontier.entries
    answer-documented e = ⊎_elim
        (λ (n : NoneInside). absurd (omega (arith, n.0, (found-tests e).1)))
        (λ (w : SomeInside). (suc w.0, w.2, rw (found_front e, w.1) (prefix-is g W ok (suc w.0) w.2.inside.cut.most))) inside-cases

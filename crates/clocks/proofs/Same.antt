-- Vectors that say the same, entry by entry, so that they differ in final zeros at most: no call tells them apart but by a length above R.
use Rattle.std.proofs.Common.{◌≡◌, ℕ, ◌≤◌, min, max, List, length, arith}
use Rattle.laws.proofs.Orders.{bool_iff}
use Rattle.laws.specs.Lists.{tabulate}
use Rattle.laws.proofs.Lists.{tabulate-cong}
use Rattle.clocks.specs.Vectors.{desks, entry, well_formed, well_formed_for, covers, at_most, compared}
use Rattle.clocks.specs.Frontiers.{join_entries, meet_entries, from_entries}
use Rattle.clocks.specs.declared.id.EventId.{EventId}
use Rattle.clocks.proofs.Vectors.{well-formed, well-formed-entry, at-most-intro, at-most-elim}

module _ (v w : List ℕ) (h : (i : ℕ) → entry v i ≡ entry w i) where
  pub same-covers : (id : EventId) → covers v id ≡ covers w id
  unfolding covers
  same-covers id = rw (h id.idx.0)

  pub same-below : (u : List ℕ) → at_most v u ≡ at_most w u
  same-below u =
      bool_iff (at_most v u) (at_most w u)
      (λ e. at-most-intro w u (λ i. omega (arith, at-most-elim v u e i, h i)))
      (λ e. at-most-intro v u (λ i. omega (arith, at-most-elim w u e i, h i)))

  pub same_above : (u : List ℕ) → at_most u v ≡ at_most u w
  same_above u =
      bool_iff (at_most u v) (at_most u w)
      (λ e. at-most-intro u w (λ i. omega (arith, at-most-elim u v e i, h i)))
      (λ e. at-most-intro u v (λ i. omega (arith, at-most-elim u w e i, h i)))

  pub same-compared : (u : List ℕ) → compared v u ≡ compared w u
  unfolding compared
  same-compared u = rw (same-below u, same_above u)

  pub same_entries : (n : ℕ) → tabulate (entry v) n ≡ tabulate (entry w) n
  same_entries n = tabulate-cong (entry v) (entry w) n (λ i l. h i)

  pub same-join : (u : List ℕ) → join_entries u v ≡ join_entries u w
  unfolding join_entries
  same-join u = tabulate-cong (λ i. max (entry u i) (entry v i)) (λ i. max (entry u i) (entry w i)) desks (λ i l. rw (h i))

  pub same-meet : (u : List ℕ) → meet_entries u v ≡ meet_entries u w
  unfolding meet_entries
  same-meet u = tabulate-cong (λ i. min (entry u i) (entry v i)) (λ i. min (entry u i) (entry w i)) desks (λ i l. rw (h i))

  -- of two that are no longer than R both are well formed or none
  module _ (r : ℕ) (p : length v ≤ r) (q : length w ≤ r) where
    pub same-formed : well_formed r v ≡ well_formed r w
    same-formed =
        bool_iff (well_formed r v) (well_formed r w)
        (λ e. well-formed r w q (λ i. omega (arith, well-formed-entry r v e i, h i)))
        (λ e. well-formed r v p (λ i. omega (arith, well-formed-entry r w e i, h i)))

    pub same-formed-for : (id : EventId) → well_formed_for r v id ≡ well_formed_for r w id
    unfolding well_formed_for
    same-formed-for id = rw (same-formed, h id.idx.0)

    pub same-made : from_entries r v ≡ from_entries r w
    unfolding from_entries
    same-made = rw (same-formed, same_entries desks)

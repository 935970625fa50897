-- `next` on every history that calls reached.
use mathlib.Core.Bool.{Bool, true, false, false≢true}
use mathlib.Core.List.{List}
use mathlib.Core.Logic.{inl, inr, ⊎_elim}
use mathlib.Core.Path.{◌≡◌, refl, sym, ap, ◌∙◌}
use Prim.Native.Nat.{ℕ, zero, suc, ◌+◌, ◌-◌, ◌<◌, ◌≤◌}
use native.Mathlib.Nat.{le_antisymm}
use native.Mathlib.Decide.{ℕ_discrete}
use native.Mathlib.Omega.{arith}
use borrow.Author.Tests.{eq-eqb, ne_eqb}
use Rattle.std.proofs.Common.{None}
use Rattle.laws.specs.Counting.{first_below}
use Rattle.laws.proofs.Orders.{le-or-lt, true-or-false}
use Rattle.laws.proofs.Searching.{first-none, first-at}
use Rattle.clocks.specs.Vectors.{entry, covers}
use Rattle.clocks.proofs.Vectors.{covers-intro, covers-elim, covers-zero}
use Rattle.history.specs.Traces.{pruned_of, last_of, retained_of, held, event_of, holds, version_row}
use Rattle.history.specs.Neighbours.{first_covering, next_of}
use Rattle.history.proofs.Traces.{held_tells, held-is, holds-held, holds-in, event-past}
use Rattle.history.specs.Whole.{EventHistory}
use Rattle.observation.specs.Reached.{Versions, Reached}
use Rattle.observation.specs.Observation.{InPast, IsNext, TellsNext}
use Rattle.clocks.specs.declared.id.EventId.{EventId}
use Rattle.observation.proofs.Carried.{known, not-held}
use Rattle.observation.proofs.Kept.{reached-kept}
use Rattle.observation.proofs.Held.{row-entry, own-entry}

-- ---- the answer by its cases, on any history

pub next-own-is : (h : EventHistory) (notes versions : List ℕ) (id : EventId) → next_of h notes versions id id.idx.0 ≡ event_of h notes id.idx.0 (id.seq + 1)
unfolding next_of
next-own-is h notes versions id = rw (eq-eqb id.idx.0 id.idx.0 refl)

pub next-other-is : (h : EventHistory) (notes versions : List ℕ) (id : EventId) (q : ℕ) → (q ≡ id.idx.0 → ⊥)
    → next_of h notes versions id q ≡ event_of h notes q (first_covering h versions id q)
unfolding next_of
next-other-is h notes versions id q z = rw (ne_eqb q id.idx.0 z)

-- of the own replica, where the event after it is pruned, nothing
pub next-own-pruned : (h : EventHistory) (notes versions : List ℕ) (id : EventId) → id.seq < pruned_of h id.idx.0 → next_of h notes versions id id.idx.0 ≡ None
unfolding event_of
next-own-pruned h notes versions id l = next-own-is h notes versions id ∙ rw (not-held h id.idx.0 (id.seq + 1) (omega arith))

-- sequence 0 is covered by all: the first retained event of another replica
pub next-zero : (h : EventHistory) (notes versions : List ℕ) (id : EventId) (q : ℕ) → (q ≡ id.idx.0 → ⊥) → id.seq ≡ 0
    → next_of h notes versions id q ≡ event_of h notes q (pruned_of h q + 1)
next-zero h notes versions id q z e =
    let f = first-zero (λ k. covers (version_row h versions q (pruned_of h q + k + 1)) id) (retained_of h q) (covers-zero (version_row h versions q (pruned_of h q + 0 + 1)) id e) in
    next-other-is h notes versions id q z ∙ ap (event_of h notes q) (omega (arith, f))
  where
    first-zero : (p : ℕ → Bool) (n : ℕ) → p 0 ≡ true → first_below p n ≡ 0
    first-zero p n t = ⊎_elim
        (λ (l : n ≤ 0). let m : n ≡ 0 = omega arith in rw m (first-none p 0 (λ j l. absurd (omega arith))))
        (λ (l : 0 < n). first-at p n 0 l t (λ j m. absurd (omega arith))) (le-or-lt n 0)

-- there is one answer
pub next-once : (h : EventHistory) (W : Versions) (r s q t u : ℕ) → IsNext h W r s q t → IsNext h W r s q u → t ≡ u
next-once h W r s q t u a b = le_antisymm (a.first u b.kept b.past) (b.first t a.kept a.past)

-- ---- the first number that satisfies a test, or none

pub data First (p : ℕ → Bool) (n : ℕ) : Type 0 where
  one : (i : ℕ) → i < n → p i ≡ true → ((j : ℕ) → j < i → p j ≡ false) → first_below p n ≡ i → First p n
  no_one : ((j : ℕ) → j < n → p j ≡ false) → first_below p n ≡ n → First p n

-- looked for from the front: all before m fail
first-from : (p : ℕ → Bool) (n d m : ℕ) → m + d ≡ n → ((j : ℕ) → j < m → p j ≡ false) → First p n
first-from p n zero m e h =
    let f : (j : ℕ) → j < n → p j ≡ false = λ j l. h j (omega arith) in
    no_one f (first-none p n f)
first-from p n (suc d) m e h = ⊎_elim
    (λ (t : p m ≡ true). one m (omega arith) t h (first-at p n m (omega arith) t h))
    (λ (f : p m ≡ false). first-from p n d (suc m) (omega arith) (λ j l. elim (ℕ_discrete j m) [ yes q ↦ rw q f | no q ↦ h j (omega arith) ]))
    (true-or-false (p m))

pub first_of : (p : ℕ → Bool) (n : ℕ) → First p n
first_of p n = first-from p n n 0 (omega arith) (λ j l. absurd (omega arith))

module _ {h : EventHistory} {versions notes boundaries : List ℕ} {W : Versions} {accepted gone : ℕ} (w : Reached h versions notes boundaries W accepted gone) (id : EventId) where
  abbrev r : ℕ
  r = id.idx.0

  abbrev s : ℕ
  s = id.seq

  -- ---- another replica

  module _ (q : ℕ) (z : q ≡ id.idx.0 → ⊥) (l : 1 ≤ id.seq) where
    abbrev test : ℕ → Bool
    test k = covers (version_row h versions q (pruned_of h q + k + 1)) id

    -- a retained event passes the test where it has the event in its past
    tested : (u : ℕ) → held h q u ≡ true → InPast W q u r s → test (u - pruned_of h q - 1) ≡ true
    tested u e p =
        let t = held_tells h q u e in
        let same : pruned_of h q + (u - pruned_of h q - 1) + 1 ≡ u = omega (arith, t.1) in
        rw same (covers-intro (version_row h versions q u) id (omega (arith, p.seen, row-entry w q u e r)))

    fails : (u : ℕ) → held h q u ≡ true → InPast W q u r s → test (u - pruned_of h q - 1) ≡ false → ⊥
    fails u e p f = false≢true (sym f ∙ tested u e p)

    answer-other : First test (retained_of h q) → TellsNext h notes W r s q (next_of h notes versions id q)
    answer-other (one i m t before e) =
        let u : ℕ = pruned_of h q + i + 1 in
        let kept : held h q u ≡ true = held-is h q u (known h (reached-kept w).ok q (omega arith)) (omega arith) (omega arith) in
        let seen : s ≤ entry (W q u) r = omega (arith, covers-elim (version_row h versions q u) id t, row-entry w q u kept r) in
        inl (
          u,
          record {
            kept = kept;
            past = record { some = l; seen = seen; other = λ a b. z (sym a) };
            first = λ x k p.
                ⊎_elim (λ (y : u ≤ x). y)
                (λ (y : x < u). absurd (fails x k p (before (x - pruned_of h q - 1) (omega (arith, (held_tells h q x k).1))))) (le-or-lt u x);
          },
          next-other-is h notes versions id q z ∙ ap (λ (k : ℕ). event_of h notes q (pruned_of h q + k + 1)) e,
        )
    answer-other (no_one none e) =
        inr (
          (λ x k p. fails x k p (none (x - pruned_of h q - 1) (omega (arith, (held_tells h q x k).1, (held_tells h q x k).2)))),
          next-other-is h notes versions id q z
              ∙ event-past h notes q (first_covering h versions id q) (omega (arith, e, (reached-kept w).ok.below q)),
        )

    -- the first retained event of another replica that has the event in its past, held or not
    pub next-other : TellsNext h notes W id.idx.0 id.seq q (next_of h notes versions id q)
    next-other = answer-other (first_of test (retained_of h q))

  -- ---- the own replica

  -- from what is pruned on, the event after it is the first retained one above it
  own_first : 1 ≤ s → (t : ℕ) → s < t → held h r t ≡ true → ((u : ℕ) → held h r u ≡ true → s < u → t ≤ u) → IsNext h W r s r t
  own_first l t m e f = record {
    kept = e;
    past = record { some = l; seen = omega (arith, own-entry w r t (omega arith) (held_tells h r t e).2); other = λ a b. omega arith };
    first = λ u k p. f u k (higher u k p.seen (p.other refl));
  }
    where
      higher : (u : ℕ) → held h r u ≡ true → s ≤ entry (W r u) r → (s ≡ u → ⊥) → s < u
      higher u k a z =
          let t = held_tells h r u k in
          elim (ℕ_discrete s u) [ yes e ↦ absurd (z e) | no e ↦ omega (arith, own-entry w r u (omega (arith, t.1)) t.2) ]

  pub next-own : 1 ≤ id.seq → pruned_of h id.idx.0 ≤ id.seq → TellsNext h notes W id.idx.0 id.seq id.idx.0 (next_of h notes versions id id.idx.0)
  next-own l m = ⊎_elim
      (λ (p : last_of h r ≤ s). inr (
        (λ u k x. let t = held_tells h r u k in absurd (x.other refl (omega (arith, x.seen, own-entry w r u (omega (arith, t.1)) t.2, t.2)))),
        next-own-is h notes versions id ∙ event-past h notes r (s + 1) (omega arith),
      ))
      (λ (p : s < last_of h r). inl (
        s + 1,
        own_first l (s + 1) (omega arith) (held-is h r (s + 1) (known h (reached-kept w).ok r (omega arith)) (omega arith) (omega arith)) (λ u k x. omega arith),
        next-own-is h notes versions id,
      ))
      (le-or-lt (last_of h r) s)

  -- where more than that is pruned the answer is None, though the first retained event has the event in its past
  pub next-own-hidden : 1 ≤ id.seq → id.seq < pruned_of h id.idx.0 → pruned_of h id.idx.0 < last_of h id.idx.0
      → IsNext h W id.idx.0 id.seq id.idx.0 (pruned_of h id.idx.0 + 1) × (next_of h notes versions id id.idx.0 ≡ None)
  next-own-hidden l m p = (
    own_first l (pruned_of h r + 1) (omega arith) (held-is h r (pruned_of h r + 1) (known h (reached-kept w).ok r (omega arith)) (omega arith) (omega arith))
        (λ u k x. omega (arith, (held_tells h r u k).1)),
    next-own-pruned h notes versions id m,
  )

  -- ---- an event that is held

  pub next-held : holds h notes id ≡ true → (q : ℕ) → TellsNext h notes W id.idx.0 id.seq q (next_of h notes versions id q)
  next-held e q =
      let t = held_tells h r s (holds-held h notes id e) in
      let l = (holds-in h notes id e).1 in
      elim (ℕ_discrete q r) [
        | yes p ↦ rw p (next-own l (omega (arith, t.1)))
        | no p ↦ next-other q p l
      ]

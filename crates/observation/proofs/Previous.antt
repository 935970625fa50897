-- `previous` on every history that calls reached.
use mathlib.Core.Bool.{true, false}
use mathlib.Core.List.{List}
use mathlib.Core.Logic.{⊎_elim}
use mathlib.Core.Path.{◌≡◌, refl, ap, ◌∙◌}
use Prim.Native.Nat.{ℕ, ◌-◌, ◌<◌, ◌≤◌}
use native.Mathlib.Nat.{le_antisymm}
use native.Mathlib.Decide.{ℕ_discrete}
use native.Mathlib.Omega.{arith}
use borrow.Author.Tests.{eq-eqb, ne_eqb}
use Rattle.std.proofs.Common.{None}
use Rattle.laws.proofs.Orders.{le-or-lt, le-but}
use Rattle.clocks.specs.Vectors.{entry}
use Rattle.history.specs.Traces.{last_of, event_of, holds, version_row}
use Rattle.history.specs.Neighbours.{previous_of}
use Rattle.history.proofs.Traces.{holds-held, holds-in, held_tells}
use Rattle.history.specs.Whole.{EventHistory}
use Rattle.observation.specs.Reached.{Versions, Reached}
use Rattle.observation.specs.Observation.{IsPrevious}
use Rattle.clocks.specs.declared.id.EventId.{EventId}
use Rattle.observation.proofs.Held.{row-entry, own-entry}

-- ---- the answer by its cases, on any history

pub previous-own : (h : EventHistory) (notes versions : List ℕ) (id : EventId) (q : ℕ) → q ≡ id.idx.0
    → previous_of h notes versions id q ≡ event_of h notes q (id.seq - 1)
unfolding previous_of
previous-own h notes versions id q e = rw (eq-eqb q id.idx.0 e)

pub previous-other : (h : EventHistory) (notes versions : List ℕ) (id : EventId) (q : ℕ) → (q ≡ id.idx.0 → ⊥) → holds h notes id ≡ true
    → previous_of h notes versions id q ≡ event_of h notes q (entry (version_row h versions id.idx.0 id.seq) q)
unfolding previous_of
previous-other h notes versions id q z e = rw (ne_eqb q id.idx.0 z, e)

-- of another replica nothing is told where the very id is not held
pub previous-unheld : (h : EventHistory) (notes versions : List ℕ) (id : EventId) (q : ℕ) → (q ≡ id.idx.0 → ⊥) → holds h notes id ≡ false
    → previous_of h notes versions id q ≡ None
unfolding previous_of
previous-unheld h notes versions id q z e = rw (ne_eqb q id.idx.0 z, e)

-- ---- what is the last in an event's past

-- there is one answer
pub previous-once : (W : Versions) (r s q t u : ℕ) → IsPrevious W r s q t → IsPrevious W r s q u → t ≡ u
previous-once W r s q t u a b = le_antisymm (upto t u a b) (upto u t b a)
  where
    upto : (t u : ℕ) → IsPrevious W r s q t → IsPrevious W r s q u → t ≤ u
    upto t u a b = ⊎_elim (λ (l : 1 ≤ t). b.last t (a.past l)) (λ (l : t < 1). omega arith) (le-or-lt 1 t)

-- of another replica, what the version says
past-other : (W : Versions) (r s q : ℕ) → (q ≡ r → ⊥) → IsPrevious W r s q (entry (W r s) q)
past-other W r s q z = record { past = λ l. record { some = l; seen = omega arith; other = λ e f. z e }; last = λ u p. p.seen }

-- of the own one, one sequence less
past-own : (W : Versions) (r s : ℕ) → 1 ≤ s → entry (W r s) r ≡ s → IsPrevious W r s r (s - 1)
past-own W r s l e = record {
  past = λ m. record { some = m; seen = omega (arith, e); other = λ f g. omega arith };
  last = λ u p. le-but u s (omega (arith, p.seen, e)) (p.other refl);
}

module _ {h : EventHistory} {versions notes boundaries : List ℕ} {W : Versions} {accepted gone : ℕ} (w : Reached h versions notes boundaries W accepted gone) (id : EventId) where
  -- of an event that is held the answer is the last event of q in its past, if that one is retained
  pub previous-held : holds h notes id ≡ true → (q : ℕ) → (t : ℕ) × IsPrevious W id.idx.0 id.seq q t × (previous_of h notes versions id q ≡ event_of h notes q t)
  previous-held e q =
      let r = id.idx.0 in
      let s = id.seq in
      let k = holds-held h notes id e in
      let l = (holds-in h notes id e).1 in
      elim (ℕ_discrete q r) [
        | yes p ↦ (s - 1, rw p (past-own W r s l (own-entry w r s l (held_tells h r s k).2)), previous-own h notes versions id q p)
        | no p ↦ (entry (W r s) q, past-other W r s q p, previous-other h notes versions id q p e ∙ ap (event_of h notes q) (row-entry w r s k q))
      ]

  -- of the own replica that is so of every event that was accepted, retained or not
  pub previous-accepted : 1 ≤ id.seq → id.seq ≤ last_of h id.idx.0
      → IsPrevious W id.idx.0 id.seq id.idx.0 (id.seq - 1)
      × (previous_of h notes versions id id.idx.0 ≡ event_of h notes id.idx.0 (id.seq - 1))
  previous-accepted l m =
      (past-own W id.idx.0 id.seq l (own-entry w id.idx.0 id.seq l m), previous-own h notes versions id id.idx.0 refl)

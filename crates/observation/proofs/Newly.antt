-- `newly_observed_by` on every history that calls reached: of a held event it lists exactly the retained events that it is the first of its replica to have
-- in its past. Where the id is not held it is empty on any history (`newly-none` of the history's Lists).
use mathlib.Core.Bool.{true, and-false}
use mathlib.Core.List.Memᴰ
use mathlib.Core.List.{List, [], Memᴰ}
use mathlib.Core.Logic.{◌↔◌, ⊎_elim}
use mathlib.Core.Path.{◌≡◌, refl, ap, ◌∙◌}
use Prim.Native.Nat.{ℕ, ◌-◌, ◌<◌, ◌≤◌, max, min}
use native.Mathlib.Nat.{le-min, min-le_left, min-le_right, le-max_left, le-max_right}
use native.Mathlib.Decide.{ℕ_discrete}
use native.Mathlib.Omega.{arith}
use lib.Dec.{ltb}
use borrow.Author.Tests.{eq-eqb, ne_eqb}
use Rattle.laws.proofs.Orders.{le-or-lt, max-lt, le-but}
use Rattle.clocks.specs.Vectors.{entry}
use Rattle.history.specs.Traces.{replicas, pruned_of, last_of, held, holds, is_boundary, version_with_boundary}
use Rattle.history.specs.Lists.{strict_past, past_of, seen_before, newly_rows}
use Rattle.history.proofs.Tables.{padded-entry}
use Rattle.history.proofs.Traces.{held_tells, held-is, held_in, holds-held, holds-in}
use Rattle.history.proofs.Lists.{newly-held}
use Rattle.history.proofs.Members.{spans-member, spans-cases}
use Rattle.history.specs.Whole.{EventHistory}
use Rattle.observation.specs.Reached.{Versions, Reached}
use Rattle.observation.specs.Observation.{NewlyObserves, NewRow}
use Rattle.clocks.specs.declared.id.EventId.{EventId}
use Rattle.observation.proofs.Carried.{looked-up, not-held}
use Rattle.observation.proofs.Kept.{reached-kept}
use Rattle.observation.proofs.Held.{row-entry, own-entry, versions-rise}

-- ---- what an event strictly saw

past-own : (v : List ℕ) (own s i : ℕ) → i ≡ own → strict_past v own s i ≡ s - 1
unfolding strict_past
past-own v own s i e = rw (eq-eqb i own e)

past-other : (v : List ℕ) (own s i : ℕ) → (i ≡ own → ⊥) → strict_past v own s i ≡ entry v i
unfolding strict_past
past-other v own s i z = rw (ne_eqb i own z)

past-none : (own i : ℕ) → strict_past [] own (entry [] own) i ≡ 0
past-none own i = elim (ℕ_discrete i own) [ yes q ↦ past-own [] own 0 i q | no q ↦ past-other [] own 0 i q ]

-- before sequence 1 there is no version
no-version : (h : EventHistory) (versions boundaries : List ℕ) (r : ℕ) → version_with_boundary h versions boundaries r 0 ≡ []
unfolding version_with_boundary is_boundary
no-version h versions boundaries r = rw (not-held h r 0 (omega arith), and-false (ltb r (replicas h)))

module _ {h : EventHistory} {versions notes boundaries : List ℕ} {W : Versions} {accepted gone : ℕ} (w : Reached h versions notes boundaries W accepted gone)
    (id : EventId) (e : holds h notes id ≡ true) where
  abbrev r : ℕ
  r = id.idx.0

  abbrev s : ℕ
  s = id.seq

  abbrev seen : ℕ → ℕ
  seen = seen_before h versions boundaries id

  abbrev past : ℕ → ℕ
  past = past_of h versions id

  retained : held h r s ≡ true
  retained = holds-held h notes id e

  low : 1 ≤ s
  low = (holds-in h notes id e).1

  high : s ≤ last_of h r
  high = (held_tells h r s retained).2

  past-self : past r ≡ s - 1
  past-self = past-own _ r s r refl

  past-of : (q : ℕ) → (q ≡ r → ⊥) → past q ≡ entry (W r s) q
  past-of q z = past-other _ r s q z ∙ row-entry w r s retained q

  -- sequence 1 has no predecessor
  seen_first : (q : ℕ) → s ≡ 1 → seen q ≡ 0
  seen_first q p =
      let z : s - 1 ≡ 0 = omega arith in
      rw (z, no-version h versions boundaries r) (past-none r q)

  -- any other has one, retained or the last pruned
  before : 2 ≤ s → (i : ℕ) → entry (version_with_boundary h versions boundaries r (s - 1)) i ≡ entry (W r (s - 1)) i
  before l i =
      let k = reached-kept w in
      ap (λ (x : List ℕ). entry x i)
      (looked-up h versions boundaries W k.ok k.carried r (s - 1) (omega arith) (omega (arith, (held_tells h r s retained).1)) (omega (arith, high)))
      ∙ padded-entry (W r (s - 1)) (replicas h) (k.carried.long r (s - 1) (omega arith) (omega (arith, high))) i

  seen_self : 2 ≤ s → seen r ≡ s - 1 - 1
  seen_self l = past-own _ r _ r refl ∙ ap (λ (x : ℕ). x - 1) (before l r ∙ own-entry w r (s - 1) (omega arith) (omega (arith, high)))

  seen_of : (q : ℕ) → (q ≡ r → ⊥) → 2 ≤ s → seen q ≡ entry (W r (s - 1)) q
  seen_of q z l = past-other _ r _ q z ∙ before l q

  -- ---- between what the predecessor had seen and what the event strictly saw are those that are newly observed

  own-within : (t : ℕ) → 1 ≤ t → seen r < t → t ≤ past r → NewlyObserves W r s r t
  own-within t l a b = record {
    past = record { some = l; seen = omega (arith, past-self, own-entry w r s low high); other = λ x y. omega (arith, past-self, low) };
    first = λ d m n p. none d m n p.seen (p.other refl);
  }
    where
      none : (d : ℕ) → 1 ≤ d → d < s → t ≤ entry (W r d) r → (t ≡ d → ⊥) → ⊥
      none d m n p z =
          let o = own-entry w r d m (omega (arith, high)) in
          elim (ℕ_discrete t d) [ yes q ↦ z q | no q ↦ omega (arith, seen_self (omega arith)) ]

  other-within : (q t : ℕ) → (q ≡ r → ⊥) → 1 ≤ t → seen q < t → t ≤ past q → NewlyObserves W r s q t
  other-within q t z l a b = record {
    past = record { some = l; seen = omega (arith, past-of q z); other = λ x y. z x };
    first = λ d m n p. omega (arith, p.seen, versions-rise w r d (s - 1) q m (omega arith) (omega (arith, high)), seen_of q z (omega arith));
  }

  own-between : (t : ℕ) → NewlyObserves W r s r t → (seen r < t) × (t ≤ past r)
  own-between t n =
      let p = n.past in
      let b : t ≤ s - 1 = le-but t s (omega (arith, p.seen, own-entry w r s low high)) (p.other refl) in
      let c : 2 ≤ s = omega (arith, p.some) in (
        ⊎_elim
            (λ (m : t ≤ seen r).
            absurd (n.first (s - 1) (omega arith) (omega arith)
            (record { some = p.some; seen = omega (arith, seen_self c, own-entry w r (s - 1) (omega arith) (omega (arith, high))); other = λ x y. omega (arith, seen_self c) })))
            (λ (m : seen r < t). m) (le-or-lt t (seen r)),
        omega (arith, past-self),
      )

  other-between : (q t : ℕ) → (q ≡ r → ⊥) → NewlyObserves W r s q t → (seen q < t) × (t ≤ past q)
  other-between q t z n =
      let p = n.past in (
        ⊎_elim
            (λ (m : s ≤ 1). omega (arith, seen_first q (omega (arith, low)), p.some))
            (λ (m : 1 < s).
            ⊎_elim
            (λ (k : t ≤ seen q).
            absurd (n.first (s - 1) (omega arith) (omega arith) (record { some = p.some; seen = omega (arith, seen_of q z m); other = λ x y. z x })))
            (λ (k : seen q < t). k) (le-or-lt t (seen q)))
            (le-or-lt s 1),
        omega (arith, past-of q z, p.seen),
      )

  within : (q t : ℕ) → 1 ≤ t → seen q < t → t ≤ past q → NewlyObserves W r s q t
  within q t l a b = elim (ℕ_discrete q r) [
    | yes p ↦ rw p (own-within t l (rw p at a) (rw p at b))
    | no p ↦ other-within q t p l a b
  ]

  between : (q t : ℕ) → NewlyObserves W r s q t → (seen q < t) × (t ≤ past q)
  between q t n = elim (ℕ_discrete q r) [
    | yes p ↦ rw p (own-between t (rw p at n))
    | no p ↦ other-between q t p n
  ]

  -- ---- the list

  abbrev from : ℕ → ℕ
  from q = max (pruned_of h q) (seen q)

  abbrev to : ℕ → ℕ
  to q = min (last_of h q) (past q)

  newly-tells : (x : ℕ) → Memᴰ x (newly_rows h notes versions boundaries id) → NewRow h W r s x
  newly-tells x m =
      let t = spans-cases h.index from to (replicas h) x (rw (newly-held h notes versions boundaries id e) at m) in
      let q = t.replica in
      let u = t.sequence in
      let a = le-max_left (pruned_of h q) (seen q) in
      let b = le-max_right (pruned_of h q) (seen q) in
      let c = min-le_left (last_of h q) (past q) in
      let d = min-le_right (last_of h q) (past q) in
      let kept : held h q u ≡ true = held-is h q u t.desk (omega (arith, t.above)) (omega (arith, t.upto)) in
      record {
        replica = q;
        sequence = u;
        kept = kept;
        newly = within q u (held_in h q u kept).1 (omega (arith, t.above)) (omega (arith, t.upto));
        row = t.row;
      }

  newly-lists : (x : ℕ) → NewRow h W r s x → Memᴰ x (newly_rows h notes versions boundaries id)
  newly-lists x n =
      let q = n.replica in
      let u = n.sequence in
      let t = held_tells h q u n.kept in
      let b = between q u n.newly in
      rw (newly-held h notes versions boundaries id e)
      (Memᴰ.cast n.row (spans-member h.index from to (replicas h) q u t.0 (max-lt (pruned_of h q) (seen q) u t.1 b.0) (le-min t.2 b.1)))

  pub newly-exact : (x : ℕ) → Memᴰ x (newly_rows h notes versions boundaries id) ↔ NewRow h W id.idx.0 id.seq x
  newly-exact x = (newly-tells x, newly-lists x)

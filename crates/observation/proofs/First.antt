-- `first_observer` on every history that calls reached. A trace's versions never fall, so the last pruned one, which is the boundary version, covers an id
-- exactly when some pruned one does; and then the first of all that cover it is pruned.
use mathlib.Core.Bool.{Bool, true, false, false≢true}
use mathlib.Core.List.{List}
use mathlib.Core.Logic.{⊎_elim}
use mathlib.Core.Path.{◌≡◌, sym, ap, ◌∙◌}
use Prim.Native.Nat.{ℕ, ◌+◌, ◌-◌, ◌*◌, ◌<◌, ◌≤◌}
use native.Mathlib.Nat.{min-le_right}
use native.Mathlib.Decide.{ℕ_discrete}
use native.Mathlib.Omega.{arith}
use lib.Dec.{leb}
use borrow.Author.Tests.{leb-true, le-leb, lt-ltb, le-ltb}
use Rattle.std.proofs.Common.{Some}
use Rattle.laws.proofs.Orders.{le-or-lt, true-or-false}
use Rattle.clocks.specs.Vectors.{desks, entry, covers}
use Rattle.clocks.proofs.Vectors.{covers-intro, covers-elim}
use Rattle.history.specs.Whole.{EventHistory}
use Rattle.history.specs.Tables.{note_at}
use Rattle.history.specs.Traces.{replicas, pruned_of, last_of, retained_of, held, event_of, version_row, boundary_row}
use Rattle.history.specs.Lists.{is_absent}
use Rattle.history.specs.Neighbours.{first_covering, next_of}
use Rattle.history.specs.First.{observer, first_observer}
use Rattle.history.proofs.Tables.{row-says}
use Rattle.history.proofs.Traces.{held-is, event-past}
use Rattle.history.proofs.First.{present, stray-absent, first_absent, first-pruned, first-kept, pruned-own, pruned-other, pruned-nothing}
use Rattle.observation.specs.Reached.{Versions, Reached}
use Rattle.observation.specs.Observation.{NewlyObserves}
use Rattle.observation.specs.First.{Observes, IsFirst, TellsFirst}
use Rattle.clocks.specs.declared.id.EventId.{EventId}
use Rattle.history.specs.declared.event_history.FirstObserver.{FirstObserver}
use Rattle.history.specs.declared.event_history.FirstObserver.TheVariants.{NoneYet, Pruned}
use Rattle.observation.proofs.Carried.{known}
use Rattle.observation.proofs.Kept.{reached-kept}
use Rattle.observation.proofs.Held.{row-entry, own-entry, versions-rise}
use Rattle.observation.proofs.Next.{First, one, no_one, first_of, next-own-is, next-other-is}
use Rattle.observation.proofs.Accepted.{accepted-range, accepted-some}
use Rattle.observation.proofs.FirstAnswers.{Which, kept, gone, unseen, tells, observes-past, past-observes}

event-held : (h : EventHistory) (notes : List ℕ) (r s : ℕ) → held h r s ≡ true → event_of h notes r s ≡ Some (note_at h notes r s)
unfolding event_of
event-held h notes r s e = rw e

module _ {h : EventHistory} {versions notes boundaries : List ℕ} {W : Versions} {accepted gone' : ℕ} (w : Reached h versions notes boundaries W accepted gone') (id : EventId) (q : ℕ) where
  abbrev r : ℕ
  r = id.idx.0

  abbrev s : ℕ
  s = id.seq

  abbrev f : FirstObserver
  f = first_observer h notes versions boundaries id q

  abbrev Answer : Type 0
  Answer = Which h notes W r s q f

  below : pruned_of h q ≤ last_of h q
  below = (reached-kept w).ok.below q

  -- a boundary row says what the last pruned version said
  boundary-entry : 0 < pruned_of h q → (i : ℕ) → entry (boundary_row h boundaries q) i ≡ entry (W q (pruned_of h q)) i
  boundary-entry l =
      let c = (reached-kept w).carried in
      row-says boundaries (16 * q) (W q (pruned_of h q)) (replicas h) (min-le_right h.len desks) (c.long q (pruned_of h q) l below) (c.boundary q l)

  -- ---- a replica with no event since creation or clear, or R or above

  silent : last_of h q ≡ 0 → (t : ℕ) → Observes W q t r s → ⊥
  silent e t o = let a = accepted-range w q t o.accepted in omega (arith, a.0, a.1)

  absent-last : is_absent h q ≡ true → last_of h q ≡ 0
  absent-last e = ⊎_elim
      (λ (l : last_of h q ≤ 0). omega arith)
      (λ (l : 0 < last_of h q). absurd (false≢true (sym (present h q (known h (reached-kept w).ok q l) l) ∙ e))) (le-or-lt (last_of h q) 0)

  -- ---- what is found among the retained events

  found-one : (u : ℕ) → IsFirst W r s q u → pruned_of h q < u → next_of h notes versions id q ≡ event_of h notes q u → f ≡ observer (next_of h notes versions id q) → Answer
  found-one u i l n e =
      let a = accepted-range w q u i.past.accepted in
      let k = held-is h q u (known h (reached-kept w).ok q (omega (arith, a.0, a.1))) l a.1 in
      kept u i k (e ∙ ap observer (n ∙ event-held h notes q u k))

  found_none : (u : ℕ) → last_of h q < u → next_of h notes versions id q ≡ event_of h notes q u → f ≡ observer (next_of h notes versions id q) → f ≡ NoneYet
  found_none u l n e = e ∙ ap observer (n ∙ event-past h notes q u l)

  -- ---- the own replica

  module _ (z : q ≡ id.idx.0) where
    own_is : (u : ℕ) → 1 ≤ u → u ≤ last_of h q → entry (W q u) r ≡ u
    own_is u l m = ap (entry (W q u)) (sym z) ∙ own-entry w q u l m

    above : (u : ℕ) → Observes W q u r s → s + 1 ≤ u
    above u o =
        let a = accepted-range w q u o.accepted in
        elim (ℕ_discrete s u) [ yes e ↦ absurd (o.other (sym z) e) | no e ↦ omega (arith, o.seen, own_is u a.0 a.1) ]

    after : s < last_of h q → IsFirst W r s q (s + 1)
    after l = record {
      past = record {
        accepted = accepted-some w q (s + 1) (omega arith) (omega arith);
        seen = omega (arith, own_is (s + 1) (omega arith) (omega arith));
        other = λ a b. omega arith;
      };
      first = above;
    }

    own-event : next_of h notes versions id q ≡ event_of h notes q (s + 1)
    own-event = rw z (next-own-is h notes versions id)

    answer-own : is_absent h q ≡ false → Answer
    answer-own p = ⊎_elim
        (λ (l : pruned_of h q ≤ s).
        let e = first-kept h notes versions boundaries id q p (pruned-own h notes versions boundaries id q z ∙ le-ltb s (pruned_of h q) l) in
        ⊎_elim
        (λ (m : last_of h q ≤ s). unseen (λ t o. omega (arith, above t o, (accepted-range w q t o.accepted).1)) (found_none (s + 1) (omega arith) own-event e))
        (λ (m : s < last_of h q). found-one (s + 1) (after m) (omega arith) own-event e)
        (le-or-lt (last_of h q) s))
        (λ (l : s < pruned_of h q).
        gone (s + 1) (after (omega (arith, below))) (omega arith)
        (first-pruned h notes versions boundaries id q p (pruned-own h notes versions boundaries id q z ∙ lt-ltb s (pruned_of h q) l)))
        (le-or-lt (pruned_of h q) s)

  -- ---- another replica

  module _ (z : q ≡ id.idx.0 → ⊥) where
    observes : (u : ℕ) → 1 ≤ u → u ≤ last_of h q → s ≤ entry (W q u) r → Observes W q u r s
    observes u l m e = record { accepted = accepted-some w q u l m; seen = e; other = λ a b. z (sym a) }

    -- ---- the boundary version does not cover the id: no pruned version does

    unpruned : (0 < pruned_of h q → covers (boundary_row h boundaries q) id ≡ false) → (u : ℕ) → Observes W q u r s → pruned_of h q < u
    unpruned n u o =
        let a = accepted-range w q u o.accepted in
        ⊎_elim
        (λ (l : u ≤ pruned_of h q).
        let c = covers-intro (boundary_row h boundaries q) id
        (omega (arith, o.seen, versions-rise w q u (pruned_of h q) r a.0 l below, boundary-entry (omega (arith, a.0)) r)) in
        absurd (false≢true (sym (n (omega (arith, a.0))) ∙ c)))
        (λ (l : pruned_of h q < u). l) (le-or-lt u (pruned_of h q))

    abbrev test : ℕ → Bool
    test k = covers (version_row h versions q (pruned_of h q + k + 1)) id

    tested : (u : ℕ) → pruned_of h q < u → u ≤ last_of h q → s ≤ entry (W q u) r → test (u - pruned_of h q - 1) ≡ true
    tested u l m e =
        let same : pruned_of h q + (u - pruned_of h q - 1) + 1 ≡ u = omega arith in
        let k = held-is h q u (known h (reached-kept w).ok q (omega arith)) l m in
        rw same (covers-intro (version_row h versions q u) id (omega (arith, e, row-entry w q u k r)))

    fails : (u : ℕ) → pruned_of h q < u → Observes W q u r s → test (u - pruned_of h q - 1) ≡ false → ⊥
    fails u l o n = false≢true (sym n ∙ tested u l (accepted-range w q u o.accepted).1 o.seen)

    answer-kept : (0 < pruned_of h q → covers (boundary_row h boundaries q) id ≡ false) → f ≡ observer (next_of h notes versions id q)
        → First test (retained_of h q) → Answer
    answer-kept n e (one i m t before x) =
        let u : ℕ = pruned_of h q + i + 1 in
        let k = held-is h q u (known h (reached-kept w).ok q (omega arith)) (omega arith) (omega arith) in
        let seen : s ≤ entry (W q u) r = omega (arith, covers-elim (version_row h versions q u) id t, row-entry w q u k r) in
        found-one u
        (record {
          past = observes u (omega arith) (omega arith) seen;
          first = λ y o.
              let l = unpruned n y o in
              ⊎_elim (λ (p : u ≤ y). p) (λ (p : y < u). absurd (fails y l o (before (y - pruned_of h q - 1) (omega (arith, l))))) (le-or-lt u y);
        })
        (omega arith)
        (next-other-is h notes versions id q z ∙ ap (λ (k : ℕ). event_of h notes q (pruned_of h q + k + 1)) x) e
    answer-kept n e (no_one none x) =
        unseen (λ y o. let l = unpruned n y o in fails y l o (none (y - pruned_of h q - 1) (omega (arith, l, (accepted-range w q y o.accepted).1))))
        (found_none (first_covering h versions id q) (omega (arith, x, below)) (next-other-is h notes versions id q z) e)

    -- ---- it covers the id: so does some pruned version, and the first one that does is pruned

    abbrev sees : ℕ → Bool
    sees k = leb s (entry (W q (k + 1)) r)

    sees-at : (u : ℕ) → 1 ≤ u → s ≤ entry (W q u) r → sees (u - 1) ≡ true
    sees-at u l e = let same : u - 1 + 1 ≡ u = omega arith in rw same (le-leb s (entry (W q u) r) e)

    answer-gone : 0 < pruned_of h q → covers (boundary_row h boundaries q) id ≡ true → f ≡ Pruned → First sees (pruned_of h q) → Answer
    answer-gone l c e (one i m t before x) =
        gone (i + 1)
        (record {
          past = observes (i + 1) (omega arith) (omega (arith, below)) (leb-true s (entry (W q (i + 1)) r) t);
          first = λ y o.
              let a = (accepted-range w q y o.accepted).0 in
              ⊎_elim (λ (p : i + 1 ≤ y). p) (λ (p : y < i + 1). absurd (false≢true (sym (before (y - 1) (omega arith)) ∙ sees-at y a o.seen))) (le-or-lt (i + 1) y);
        })
        (omega arith) e
    answer-gone l c e (no_one none x) =
        let d : s ≤ entry (W q (pruned_of h q)) r = omega (arith, covers-elim (boundary_row h boundaries q) id c, boundary-entry l r) in
        absurd (false≢true (sym (none (pruned_of h q - 1) (omega arith)) ∙ sees-at (pruned_of h q) l d))

    answer-other : is_absent h q ≡ false → Answer
    answer-other p = ⊎_elim
        (λ (l : pruned_of h q ≤ 0).
        answer-kept (λ m. absurd (omega arith)) (first-kept h notes versions boundaries id q p (pruned-nothing h notes versions boundaries id q (omega arith)))
        (first_of test (retained_of h q)))
        (λ (l : 0 < pruned_of h q).
        ⊎_elim
        (λ (c : covers (boundary_row h boundaries q) id ≡ true).
        answer-gone l c (first-pruned h notes versions boundaries id q p (pruned-other h notes versions boundaries id q z l ∙ c)) (first_of sees (pruned_of h q)))
        (λ (c : covers (boundary_row h boundaries q) id ≡ false).
        answer-kept (λ m. c) (first-kept h notes versions boundaries id q p (pruned-other h notes versions boundaries id q z l ∙ c)) (first_of test (retained_of h q)))
        (true-or-false (covers (boundary_row h boundaries q) id)))
        (le-or-lt (pruned_of h q) 0)

  -- ---- every id and every replica

  which : Answer
  which = ⊎_elim
      (λ (e : is_absent h q ≡ true). unseen (silent (absent-last e)) (first_absent h notes versions boundaries id q e))
      (λ (e : is_absent h q ≡ false). elim (ℕ_discrete q r) [ yes z ↦ answer-own z e | no z ↦ answer-other z e ])
      (true-or-false (is_absent h q))

  pub first-tells : TellsFirst h notes W id.idx.0 id.seq q (first_observer h notes versions boundaries id q)
  first-tells = tells h notes W r s q f which

  -- ---- the edges

  -- a replica R or above has no event
  pub first-stray-none : replicas h ≤ q → (t : ℕ) → Observes W q t id.idx.0 id.seq → ⊥
  first-stray-none l = silent (absent-last (stray-absent h q l))

  -- sequence 0 is in the past of every event, so the first of them is sequence 1
  pub first-zero : id.seq ≡ 0 → 0 < last_of h q → IsFirst W id.idx.0 id.seq q 1
  first-zero e l = record {
    past = record { accepted = accepted-some w q 1 (omega arith) l; seen = omega arith; other = λ a b. omega arith };
    first = λ u o. (accepted-range w q u o.accepted).0;
  }

  -- of the id's own replica it is the next sequence
  pub first-own : q ≡ id.idx.0 → id.seq < last_of h q → IsFirst W id.idx.0 id.seq q (id.seq + 1)
  first-own z l = after z l

  -- it is the event that newly observes the id
  pub first-newly : 1 ≤ id.seq → (t : ℕ) → IsFirst W id.idx.0 id.seq q t → NewlyObserves W q t id.idx.0 id.seq
  first-newly l t i = record {
    past = observes-past W q t r s l i.past;
    first = λ e a b p.
        let m = (accepted-range w q t i.past.accepted).1 in
        omega (arith, i.first e (past-observes W q e r s (accepted-some w q e a (omega (arith, m))) p));
  }

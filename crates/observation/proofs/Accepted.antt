-- On every history that calls reached: a version was accepted exactly for the sequences from 1 to the last one, and for none of a replica that is not one of R.
use mathlib.Core.Bool.{true, false}
use mathlib.Core.List.{List, []}
use mathlib.Core.Logic.{⊎_elim, ◌↔◌}
use mathlib.Core.Path.{◌≡◌, refl, ap, ◌∙◌}
use Prim.Native.Nat.{ℕ, ◌<◌, ◌≤◌}
use native.Mathlib.Decide.{ℕ_discrete}
use native.Mathlib.Omega.{arith}
use lib.Dec.{eqb}
use borrow.Author.Tests.{eqb-true}
use Rattle.laws.specs.Counting.{pick}
use Rattle.laws.proofs.Orders.{le-or-lt, true-or-false}
use Rattle.clocks.specs.Vectors.{entry}
use Rattle.history.specs.Whole.{EventHistory, whole}
use Rattle.history.specs.Traces.{last_of, new_history, widened_whole}
use Rattle.history.specs.Rooms.{HistoryOk}
use Rattle.history.specs.Appends.{append_refusal, appended, Appends}
use Rattle.history.specs.Prunes.{Prunes, PrunesOr}
use Rattle.history.proofs.Appends.{Accepted, accepted-tells}
use Rattle.history.proofs.Histories.{last-own, last-other}
use Rattle.history.proofs.Raises.{widen-history-cases}
use Rattle.observation.specs.Reached.{Versions, none, with_version, Reached, created, append, remove, prune, retain, raise, clear}
use Rattle.clocks.specs.declared.event.Event.{Event}
use Rattle.clocks.specs.declared.id.EventId.{EventId}
use Rattle.history.specs.Answers.{Removed, PruneAnswer}
use Rattle.observation.proofs.CarriedAppends.{with-replica, with-sequence}
use Rattle.observation.proofs.Kept.{reached-kept}
use Rattle.observation.proofs.Held.{own-entry}

-- no version beside the sequences from 1 to the last one
record Within (h : EventHistory) (W : Versions) : Type 0 where
  low : (r : ℕ) → W r 0 ≡ []
  high : (r s : ℕ) → last_of h r < s → W r s ≡ []

append-within : (h : EventHistory) (versions boundaries : List ℕ) (W : Versions) (id : EventId) (v : List ℕ) → HistoryOk h → Accepted h versions boundaries id v
    → Within h W → Within (appended h id) (with_version W id v)
append-within h versions boundaries W id v ok a w = record {
  low = λ r. with-sequence W id v r 0 (λ e. omega (arith, a.low)) ∙ w.low r;
  high = λ r s l. elim (ℕ_discrete r id.idx.0) [
    | yes q ↦
        let m : id.seq < s = rw (q, last-own h versions boundaries id v ok a) at l in
        with-sequence W id v r s (λ e. omega arith) ∙ w.high r s (rw q (omega (arith, a.turn)))
    | no q ↦ with-replica W id v r s q ∙ w.high r s (rw (last-other h versions boundaries id v ok a r q) at l)
  ];
}

appends-within : (h : EventHistory) (versions notes boundaries : List ℕ) (W : Versions) → HistoryOk h → Within h W
    → (event : Event) (v versions' notes' : List ℕ) (number : ℕ) (h' : EventHistory) → Appends h event v versions notes boundaries versions' notes' number h'
    → Within h' (pick (eqb number 0) (with_version W event.id v) W)
appends-within h versions notes boundaries W ok w event v versions' notes' number h' p = ⊎_elim
    (λ (t : eqb (append_refusal h versions boundaries event.id v) 0 ≡ true).
    rw (p.number, p.trace, t)
    (append-within h versions boundaries W event.id v ok (accepted-tells h versions boundaries event.id v (eqb-true (append_refusal h versions boundaries event.id v) 0 t)) w))
    (λ (f : eqb (append_refusal h versions boundaries event.id v) 0 ≡ false). rw (p.number, p.trace, f) w)
    (true-or-false (eqb (append_refusal h versions boundaries event.id v) 0))

-- a removal changes no last sequence
prunes-within : (h : EventHistory) (versions boundaries : List ℕ) (W : Versions) → Within h W
    → (to boundaries' : List ℕ) (a : Removed) → Prunes h to versions boundaries boundaries' a → Within (whole a.history h.index) W
prunes-within h versions boundaries W w to boundaries' a p = rw p.trace (record { low = w.low; high = w.high })

prunes-or-within : (h : EventHistory) (versions boundaries : List ℕ) (W : Versions) → Within h W
    → (number : ℕ) (to boundaries' : List ℕ) (a : PruneAnswer) → PrunesOr number h to versions boundaries boundaries' a → Within (whole a.history h.index) W
prunes-or-within h versions boundaries W w number to boundaries' a p = ⊎_elim
    (λ (t : eqb number 0 ≡ true). rw (p.trace, t) (record { low = w.low; high = w.high }))
    (λ (f : eqb number 0 ≡ false). rw (p.trace, f) w)
    (true-or-false (eqb number 0))

raised-within : (h : EventHistory) (r : ℕ) (W : Versions) → Within h W → Within (widened_whole h r) W
raised-within h r W w = widen-history-cases (λ (g : EventHistory). Within g W) h r w (λ l m p. record { low = w.low; high = w.high })

nothing : (h : EventHistory) → Within h none
nothing h = record { low = λ r. refl; high = λ r s l. refl }

reached-within : {h : EventHistory} {versions notes boundaries : List ℕ} {W : Versions} {accepted gone : ℕ} → Reached h versions notes boundaries W accepted gone → Within h W
reached-within (created r index versions notes boundaries e i a b d) = nothing (whole (new_history r).history index)
reached-within (append w event v versions' notes' number h' p) = appends-within _ _ _ _ _ (reached-kept w).ok (reached-within w) event v versions' notes' number h' p
reached-within (remove w id boundaries' a p) = prunes-within _ _ _ _ (reached-within w) _ boundaries' a p
reached-within (prune w frontier boundaries' a p) = prunes-or-within _ _ _ _ (reached-within w) _ frontier boundaries' a p
reached-within (retain w mask boundaries' a p) = prunes-or-within _ _ _ _ (reached-within w) _ _ boundaries' a p
reached-within (raise w r) = raised-within _ r _ (reached-within w)
reached-within (clear w) = nothing _

module _ {h : EventHistory} {versions notes boundaries : List ℕ} {W : Versions} {accepted gone : ℕ} (w : Reached h versions notes boundaries W accepted gone) where
  pub accepted-range : (r s : ℕ) → (W r s ≡ [] → ⊥) → (1 ≤ s) × (s ≤ last_of h r)
  accepted-range r s z = (
    ⊎_elim (λ (l : 1 ≤ s). l) (λ (l : s < 1). let e : s ≡ 0 = omega arith in absurd (z (rw e ((reached-within w).low r)))) (le-or-lt 1 s),
    ⊎_elim (λ (l : s ≤ last_of h r). l) (λ (l : last_of h r < s). absurd (z ((reached-within w).high r s l))) (le-or-lt s (last_of h r)),
  )

  pub accepted-some : (r s : ℕ) → 1 ≤ s → s ≤ last_of h r → W r s ≡ [] → ⊥
  accepted-some r s l m e = let z : entry (W r s) r ≡ 0 = ap (λ (x : List ℕ). entry x r) e in omega (arith, z, own-entry w r s l m)

  pub accepted-exact : (r s : ℕ) → (W r s ≡ [] → ⊥) ↔ ((1 ≤ s) × (s ≤ last_of h r))
  accepted-exact r s = (accepted-range r s, λ p. accepted-some r s p.0 p.1)

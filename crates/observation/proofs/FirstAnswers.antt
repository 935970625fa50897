-- The three answers of `first_observer`: one of them is given, and so each exactly where it is due.
use mathlib.Core.Bool.{true}
use mathlib.Core.List.{List, []}
use mathlib.Core.Path.{◌≡◌, sym, ap, ◌∙◌}
use Prim.Native.Nat.{ℕ, ◌≤◌}
use native.Mathlib.Nat.{le_antisymm}
use native.Mathlib.Omega.{arith}
use Rattle.history.specs.Whole.{EventHistory}
use Rattle.history.specs.Tables.{note_at}
use Rattle.history.specs.Traces.{pruned_of, held}
use Rattle.history.proofs.Traces.{held_tells}
use Rattle.observation.specs.Reached.{Versions}
use Rattle.observation.specs.Observation.{InPast}
use Rattle.observation.specs.First.{Observes, IsFirst, TellsFirst}
use Rattle.clocks.specs.declared.tagged_op.TaggedOp.{TaggedOp}
use Rattle.history.specs.declared.event_history.FirstObserver.{FirstObserver}
use Rattle.history.specs.declared.event_history.FirstObserver.TheVariants.{Event, NoneYet, Pruned}

-- ---- of a sequence that some event may have, it is the past that `previous` and `next` speak of

pub observes-past : (W : Versions) (q u r s : ℕ) → 1 ≤ s → Observes W q u r s → InPast W q u r s
observes-past W q u r s l o = record { some = l; seen = o.seen; other = o.other }

pub past-observes : (W : Versions) (q u r s : ℕ) → (W q u ≡ [] → ⊥) → InPast W q u r s → Observes W q u r s
past-observes W q u r s a p = record { accepted = a; seen = p.seen; other = p.other }

-- there is one answer
pub first-once : (W : Versions) (r s q t u : ℕ) → IsFirst W r s q t → IsFirst W r s q u → t ≡ u
first-once W r s q t u a b = le_antisymm (a.first u b.past) (b.first t a.past)

-- ---- the answers differ

event-pruned : {A : Type 0} (op : TaggedOp) → Event op ≡ Pruned → A
event-pruned op e = let z : ◌≡◌ {A = ℕ} 0 1 = cc in absurd (omega arith)

event-none : {A : Type 0} (op : TaggedOp) → Event op ≡ NoneYet → A
event-none op e = let z : ◌≡◌ {A = ℕ} 0 1 = cc in absurd (omega arith)

pruned-none : {A : Type 0} → Pruned ≡ NoneYet → A
pruned-none e = let z : ◌≡◌ {A = ℕ} 0 1 = cc in absurd (omega arith)

event-same : (a b : TaggedOp) → Event a ≡ Event b → b ≡ a
event-same a b e = cc

-- ---- one of three

pub data Which (h : EventHistory) (notes : List ℕ) (W : Versions) (r s q : ℕ) (f : FirstObserver) : Type 0 where
  kept : (t : ℕ) → IsFirst W r s q t → held h q t ≡ true → f ≡ Event (note_at h notes q t) → Which h notes W r s q f
  gone : (t : ℕ) → IsFirst W r s q t → t ≤ pruned_of h q → f ≡ Pruned → Which h notes W r s q f
  unseen : ((t : ℕ) → Observes W q t r s → ⊥) → f ≡ NoneYet → Which h notes W r s q f

-- so each exactly where it is due
pub tells : (h : EventHistory) (notes : List ℕ) (W : Versions) (r s q : ℕ) (f : FirstObserver) → Which h notes W r s q f → TellsFirst h notes W r s q f
tells h notes W r s q f (kept t i k e) = record {
  event = λ op. (
    (λ x. (t, i, k, event-same (note_at h notes q t) op (sym e ∙ x))),
    (λ x. e ∙ ap Event (ap (note_at h notes q) (first-once W r s q t x.0 i x.1) ∙ sym x.3)),
  );
  pruned = (
    (λ x. event-pruned (note_at h notes q t) (sym e ∙ x)),
    (λ x. absurd (omega (arith, (held_tells h q t k).1, first-once W r s q t x.0 i x.1, x.2))),
  );
  none = ((λ x. event-none (note_at h notes q t) (sym e ∙ x)), (λ x. absurd (x t i.past)));
}
tells h notes W r s q f (gone t i k e) = record {
  event = λ op. (
    (λ x. event-pruned op (sym x ∙ e)),
    (λ x. absurd (omega (arith, (held_tells h q x.0 x.2).1, first-once W r s q t x.0 i x.1, k))),
  );
  pruned = ((λ x. (t, i, k)), (λ x. e));
  none = ((λ x. pruned-none (sym e ∙ x)), (λ x. absurd (x t i.past)));
}
tells h notes W r s q f (unseen n e) = record {
  event = λ op. ((λ x. event-none op (sym x ∙ e)), (λ x. absurd (n x.0 x.1.past)));
  pruned = ((λ x. pruned-none (sym x ∙ e)), (λ x. absurd (n x.0 x.1.past)));
  none = ((λ x. n), (λ x. e));
}

-- What is asked of one desk's trace depends on that trace alone: its versions, its boundary version and its notes, whatever rows they stand in. What other desks appended is seen only
-- through the numbers that its own versions hold, and by 8: what an append refuses is the same but for 8, and where the desk retains fewer than eight it is the same.
use mathlib.Core.Bool.{true, false}
use mathlib.Core.List.{List}
use mathlib.Core.Logic.{◌⊎◌, ⊎_elim}
use mathlib.Core.Path.{◌≡◌, refl, sym, ap, ◌∙◌}
use Prim.Native.Nat.{ℕ, ◌+◌, ◌-◌, ◌*◌, ◌<◌}
use native.Mathlib.Omega.{arith}
use lib.Dec.{eqb}
use lib.ListN.{length, get_or}
use borrow.Author.Tests.{eq-eqb, eqb-true}
use Rattle.std.specs.Prelude.{Some, Result}
use Rattle.laws.proofs.Orders.{true-or-false}
use Rattle.laws.proofs.Lists.{length-tabulate, get_or-tabulate}
use Rattle.history.specs.Whole.{EventHistory}
use Rattle.history.specs.Tables.{row_of, note_at, with_version_at, noted}
use Rattle.history.specs.Traces.{retained_of, held, event_of, holds, got, version_of, last_version}
use Rattle.history.specs.Rooms.{given_row, HistoryOk, NotesOk}
use Rattle.history.specs.Appends.{append_refusal, appended, Appends}
use Rattle.history.specs.Lists.{Lists, span, is_absent, is_bad_range, range_refusal, event_at}
use Rattle.history.specs.Neighbours.{previous_of, next_of}
use Rattle.history.proofs.Tables.{length-version}
use Rattle.history.proofs.Rooms.{given-in}
use Rattle.history.proofs.Appends.{Accepted, accepted-tells}
use Rattle.history.proofs.Histories.{append-ok}
use Rattle.clocks.proofs.Refusals.{count-once}
use Rattle.history.proofs.Lists.{range-held}
use Rattle.history.proofs.Own.{SameTrace, same-held, same-last, ButFull, append-own-but, few-own, append-other}
use Rattle.history.proofs.Notes.{append-notes, kept-note, event-at-row}
use Rattle.clocks.specs.declared.event.Event.{Event}
use Rattle.clocks.specs.declared.id.EventId.{EventId}
use Rattle.clocks.specs.declared.id.Disambiguator.{Disambiguator}
use Rattle.clocks.specs.declared.refusal.Refusal.{Refusal}

-- an id of desk r
abbrev pub of : ℕ → ℕ → Disambiguator → EventId
of r s d = record { idx = record { 0 = r }; seq = s; disambiguator = d }

-- what two histories with their tables have in common: the trace of desk r, and the notes of what is retained of it
pub record SameNotes (h : EventHistory) (notes versions boundaries : List ℕ) (g : EventHistory) (notes' versions' boundaries' : List ℕ) (r : ℕ) : Type 0 where
  pub trace : SameTrace h versions boundaries g versions' boundaries' r
  pub texts : (s : ℕ) → held h r s ≡ true → note_at h notes r s ≡ note_at g notes' r s

-- what both answer alike: `get`, `version`, `last_version`, `replica_events` with the event in each row that it lists, `previous` and `next` on the own desk, and
-- what an append refuses, but for 8
pub record OwnAnswers (h : EventHistory) (notes versions boundaries : List ℕ) (g : EventHistory) (notes' versions' boundaries' : List ℕ) (r : ℕ) : Type 0 where
  pub get : (s : ℕ) (d : Disambiguator) → got h notes (of r s d) ≡ got g notes' (of r s d)
  pub version : (s : ℕ) (d : Disambiguator) → version_of h notes versions (of r s d) ≡ version_of g notes' versions' (of r s d)
  pub last : last_version h versions boundaries r ≡ last_version g versions' boundaries' r
  pub refused : (start end : ℕ) → range_refusal h r start end ≡ range_refusal g r start end
  pub counted : (start end : ℕ) (out a b : List ℕ) (x y : Result ℕ Refusal) → Lists (range_refusal h r start end) (span h.index r start (end - start)) out a x
      → Lists (range_refusal g r start end) (span g.index r start (end - start)) out b y → x ≡ y
  pub events : (start end k : ℕ) → range_refusal h r start end ≡ 0 → k < end - start
      → event_at h notes (get_or (span h.index r start (end - start)) k 0) ≡ event_at g notes' (get_or (span g.index r start (end - start)) k 0)
  pub event : (s : ℕ) → held h r s ≡ true → event_at h notes (row_of h r s) ≡ event_at g notes' (row_of g r s)
  pub previous : (s : ℕ) (d : Disambiguator) → previous_of h notes versions (of r s d) r ≡ previous_of g notes' versions' (of r s d) r
  pub next : (s : ℕ) (d : Disambiguator) → next_of h notes versions (of r s d) r ≡ next_of g notes' versions' (of r s d) r
  pub append : (s : ℕ) (d : Disambiguator) (v : List ℕ)
      → (append_refusal h versions boundaries (of r s d) v ≡ append_refusal g versions' boundaries' (of r s d) v)
      ⊎ ButFull (append_refusal h versions boundaries (of r s d) v) (append_refusal g versions' boundaries' (of r s d) v)
  pub few : retained_of h r < 8 → (s : ℕ) (d : Disambiguator) (v : List ℕ)
      → append_refusal h versions boundaries (of r s d) v ≡ append_refusal g versions' boundaries' (of r s d) v

module _ {h g : EventHistory} {notes versions boundaries notes' versions' boundaries' : List ℕ} {r : ℕ}
    (m : SameNotes h notes versions boundaries g notes' versions' boundaries' r) (n : NotesOk h notes) (n' : NotesOk g notes') where
  held_same : (s : ℕ) → held h r s ≡ held g r s
  held_same s = same-held h g versions boundaries versions' boundaries' r s m.trace

  -- what is retained of the one is retained of the other
  also : (s : ℕ) → held h r s ≡ true → held g r s ≡ true
  also s e = sym (held_same s) ∙ e

  event-same : (s : ℕ) → event_of h notes r s ≡ event_of g notes' r s
  unfolding event_of
  event-same s = ⊎_elim (λ (e : held h r s ≡ true). rw (also s e, e, m.texts s e)) (λ (e : held h r s ≡ false). rw (sym (held_same s) ∙ e, e)) (true-or-false (held h r s))

  get-same : (s : ℕ) (d : Disambiguator) → got h notes (of r s d) ≡ got g notes' (of r s d)
  unfolding got holds
  get-same s d = ⊎_elim (λ (e : held h r s ≡ true). rw (also s e, e, m.texts s e)) (λ (e : held h r s ≡ false). rw (sym (held_same s) ∙ e, e)) (true-or-false (held h r s))

  version-same : (s : ℕ) (d : Disambiguator) → version_of h notes versions (of r s d) ≡ version_of g notes' versions' (of r s d)
  unfolding version_of holds
  version-same s d =
      ⊎_elim (λ (e : held h r s ≡ true). rw (also s e, e, m.texts s e, m.trace.rows s e)) (λ (e : held h r s ≡ false). rw (sym (held_same s) ∙ e, e)) (true-or-false (held h r s))

  range_same : (start end : ℕ) → range_refusal h r start end ≡ range_refusal g r start end
  unfolding range_refusal is_absent is_bad_range
  range_same start end = rw (m.trace.size, m.trace.pruned, m.trace.last)

  -- as many rows, whichever they are
  counted_same : (start end : ℕ) (out a b : List ℕ) (x y : Result ℕ Refusal) → Lists (range_refusal h r start end) (span h.index r start (end - start)) out a x
      → Lists (range_refusal g r start end) (span g.index r start (end - start)) out b y → x ≡ y
  counted_same start end out a b x y p q =
      count-once x y _ _ (rw (range_same start end, length-tabulate) at p.answer ∙ sym (rw length-tabulate at q.answer))
      (length-tabulate _ (end - start) ∙ sym (length-tabulate _ (end - start))) p.count q.count

  row_same : (s : ℕ) → held h r s ≡ true → event_at h notes (row_of h r s) ≡ event_at g notes' (row_of g r s)
  row_same s e = event-at-row h notes r s n e ∙ (ap Some (m.texts s e) ∙ sym (event-at-row g notes' r s n' (also s e)))

  listed_same : (start end k : ℕ) → range_refusal h r start end ≡ 0 → k < end - start
      → event_at h notes (get_or (span h.index r start (end - start)) k 0) ≡ event_at g notes' (get_or (span g.index r start (end - start)) k 0)
  listed_same start end k e l =
      rw (get_or-tabulate (λ j. row_of h r (start + j + 1)) (end - start) k l, get_or-tabulate (λ j. row_of g r (start + j + 1)) (end - start) k l)
      (row_same (start + k + 1) (range-held h r start end k e l))

  previous-same : (s : ℕ) (d : Disambiguator) → previous_of h notes versions (of r s d) r ≡ previous_of g notes' versions' (of r s d) r
  unfolding previous_of
  previous-same s d = rw (eq-eqb r r refl) (event-same (s - 1))

  next-same : (s : ℕ) (d : Disambiguator) → next_of h notes versions (of r s d) r ≡ next_of g notes' versions' (of r s d) r
  unfolding next_of
  next-same s d = rw (eq-eqb r r refl) (event-same (s + 1))

  pub own-answers : OwnAnswers h notes versions boundaries g notes' versions' boundaries' r
  own-answers = record {
    get = get-same;
    version = version-same;
    last = same-last h g versions boundaries versions' boundaries' r m.trace;
    refused = range_same;
    counted = counted_same;
    events = listed_same;
    event = row_same;
    previous = previous-same;
    next = next-same;
    append = λ s d v. append-own-but h g versions boundaries versions' boundaries' (of r s d) v m.trace;
    few = λ l s d v. few-own h g versions boundaries versions' boundaries' (of r s d) v m.trace l;
  }

-- ---- so what other desks append, accepted or refused, changes none of them

-- the appends of desks other than r, one after the other, each by its contract
pub data Others (r : ℕ) (h : EventHistory) (notes versions boundaries : List ℕ) : EventHistory → List ℕ → List ℕ → Type 0 where
  none : Others r h notes versions boundaries h notes versions
  more : {g : EventHistory} {notes' versions' : List ℕ} → Others r h notes versions boundaries g notes' versions'
      → (event : Event) (v versions'' notes'' : List ℕ) (number : ℕ) (g' : EventHistory) → Appends g event v versions' notes' boundaries versions'' notes'' number g'
      → (r ≡ event.id.idx.0 → ⊥) → Others r h notes versions boundaries g' notes'' versions''

-- what the steps keep
record Kept (r : ℕ) (h : EventHistory) (notes versions boundaries : List ℕ) (g : EventHistory) (notes' versions' : List ℕ) : Type 0 where
  ok : HistoryOk g
  long : length versions' ≡ 8192
  owned : NotesOk g notes'
  same : SameNotes h notes versions boundaries g notes' versions' boundaries r

-- one accepted append of another desk
module _ {r : ℕ} {h : EventHistory} {notes versions boundaries : List ℕ} {g : EventHistory} {notes' versions' : List ℕ}
    (k : Kept r h notes versions boundaries g notes' versions') (event : Event) (v : List ℕ) (a : Accepted g versions' boundaries event.id v)
    (z : r ≡ event.id.idx.0 → ⊥) where
  abbrev row : ℕ
  row = given_row g event.id.idx.0

  abbrev trace-other : SameTrace g versions' boundaries (appended g event.id) (with_version_at versions' (16 * row) v) boundaries r
  trace-other = append-other g versions' boundaries event.id v k.ok a k.long r z

  still : (s : ℕ) → held h r s ≡ true → held g r s ≡ true
  still s e = sym (same-held h g versions boundaries versions' boundaries r s k.same.trace) ∙ e

  kept_more : Kept r h notes versions boundaries (appended g event.id) (noted notes' row event) (with_version_at versions' (16 * row) v)
  kept_more = record {
    ok = append-ok g versions' boundaries event.id v k.ok a;
    long = length-version versions' row v (omega (arith, k.long, given-in g event.id.idx.0)) ∙ k.long;
    owned = append-notes g versions' boundaries notes' event v k.ok a k.owned;
    same = record {
      trace = record {
        size = k.same.trace.size;
        pruned = k.same.trace.pruned;
        last = k.same.trace.last ∙ trace-other.last;
        rows = λ s e. k.same.trace.rows s e ∙ trace-other.rows s (still s e);
        boundary = k.same.trace.boundary;
      };
      texts = λ s e. k.same.texts s e ∙ sym (kept-note g versions' boundaries notes' event v k.ok a r s (still s e));
    };
  }

others_keep : {r : ℕ} {h : EventHistory} {notes versions boundaries : List ℕ} {g : EventHistory} {notes' versions' : List ℕ} → HistoryOk h → length versions ≡ 8192
    → NotesOk h notes → Others r h notes versions boundaries g notes' versions' → Kept r h notes versions boundaries g notes' versions'
others_keep ok l n none = record {
  ok = ok;
  long = l;
  owned = n;
  same = record { trace = record { size = refl; pruned = refl; last = refl; rows = λ s e. refl; boundary = refl }; texts = λ s e. refl };
}
others_keep {boundaries = boundaries} ok l n (more {g} {notes'} {versions'} before event v versions'' notes'' number g' p z) =
    let k = others_keep ok l n before in
    ⊎_elim (λ (t : eqb (append_refusal g versions' boundaries event.id v) 0 ≡ true).
    let told = accepted-tells g versions' boundaries event.id v (eqb-true (append_refusal g versions' boundaries event.id v) 0 t) in
    rw (p.trace, p.row, p.note, t) (kept_more k event v told z))
    (λ (f : eqb (append_refusal g versions' boundaries event.id v) 0 ≡ false). rw (p.trace, p.row, p.note, f) k)
    (true-or-false (eqb (append_refusal g versions' boundaries event.id v) 0))

pub others-answers : {r : ℕ} {h : EventHistory} {notes versions boundaries : List ℕ} {g : EventHistory} {notes' versions' : List ℕ} → HistoryOk h → length versions ≡ 8192
    → NotesOk h notes → Others r h notes versions boundaries g notes' versions' → OwnAnswers h notes versions boundaries g notes' versions' boundaries r
others-answers ok l n o = let k = others_keep ok l n o in own-answers k.same n k.owned

-- Demand 3, from its two halves: what two such logs hold is the same, and logs that hold the same agree, whatever they removed.
use mathlib.Core.List.{List}
use mathlib.Core.Logic.{inl, inr, ⊎_elim}
use mathlib.Core.Path.{◌≡◌, sym, ap, ◌∙◌}
use Prim.Native.Nat.{ℕ}
use native.Mathlib.Omega.{arith}
use Rattle.clocks.specs.Vectors.{entry}
use Rattle.graph.specs.Whole.{EventGraph}
use Rattle.graph.specs.Raises.{widened_graph}
use Rattle.graph.proofs.RaiseLaws.{sized, widen-graph-cases}
use Rattle.promises.specs.Reached.{Versions}
use Rattle.promises.specs.Demand.{Note, Last, Start, SameLast, neither, both, Accepts, Log, begin, append, flush, advance, raise, Among, SameNote, Demand3}
use Rattle.promises.specs.Removals.{RemovalLog, HeldIn}
use Rattle.promises.specs.Documented.{HoldsEvent}
use Rattle.clocks.specs.declared.event.Event.{Event}
use Rattle.promises.proofs.LogOk.{LogOk}
use Rattle.promises.proofs.Standing.{Standing, standing-ok, starts}
use Rattle.promises.proofs.SurvivesRemovals.{standing, survives-removals}
use Rattle.promises.proofs.WhatIsHeld.{NoteAt, Contained, Holding, not-contained, start-holding}
use Rattle.promises.proofs.HeldAppends.{append-holding}
use Rattle.promises.proofs.HeldFlushes.{flush-holding, advance-holding}
use Rattle.promises.specs.Removals as removals

-- two slots with one note
same-note : {g h : EventGraph} {W U : Versions} {j k : ℕ} {n m : Note} → NoteAt g W j n → NoteAt h U k m → n.event ≡ m.event → SameNote g h j k
same-note {h = h} {k = k} x y e =
    let a = x.event in
    let b : HoldsEvent h k _ = rw (← e) at y.event in
    record {
      id = record { replica = a.replica ∙ sym b.replica; seq = a.seq ∙ sym b.seq; code = a.code ∙ sym b.code };
      lamport = a.lamport ∙ sym b.lamport;
      op = a.op ∙ sym b.op;
      revision = a.revision ∙ sym b.revision;
    }

-- a log that removes nothing by name is one that may, and stands; it holds accepted notes that the last flushed frontier does not contain, and all of those, each with its version
pub record Kept (start g : EventGraph) (ns : List Note) (last : Last) : Type 0 where
  pub versions : Versions
  pub log : RemovalLog start g versions ns last
  pub stands : Standing start g versions last
  pub holding : Holding g versions ns last
  pub outside : (k : ℕ) (n : Note) → NoteAt g versions k n → Contained last n → ⊥

same-last-back : {last last' : Last} → SameLast last last' → SameLast last' last
same-last-back neither = neither
same-last-back (both f k l) = both k f (λ r. sym (l r))

-- a raise leaves what is held
wide-note : (g : EventGraph) (W : Versions) (r k : ℕ) (n : Note) → NoteAt g W k n → NoteAt (sized g r) W k n
wide-note g W r k n a = record {
  small = a.small;
  event = record { replica = a.event.replica; seq = a.event.seq; code = a.event.code; lamport = a.event.lamport; op = a.event.op; revision = a.event.revision };
  version = a.version;
}

raise-holding : (g : EventGraph) (W : Versions) (ns : List Note) (last : Last) → LogOk g W → Holding g W ns last → (r : ℕ) → Holding (widened_graph g r).graph W ns last
raise-holding g W ns last ok held r = widen-graph-cases g r ok.notes.one_size (λ (x : EventGraph). Holding x W ns last) held (λ a b c. record {
  each = λ k l. let w = held.each k l in (w.0, w.1, wide-note g W r k w.0 w.2);
  all = λ n a. ⊎_elim (λ (c : Contained last n). inl c) (λ (w : (k : ℕ) × NoteAt g W k n). inr (w.0, wide-note g W r w.0 n w.1)) (held.all n a);
})

-- what the one frontier contains the other contains
contained-too : {last last' : Last} → SameLast last last' → (m n : Note) → m.event ≡ n.event → Contained last' m → Contained last n
contained-too neither m n e c = c
contained-too (both f k l) m n e c = omega (arith, c, l n.event.id.idx.0, ap (λ (x : Event). x.id.seq) e, ap (λ (x : Event). entry k x.id.idx.0) e)

-- what the one holds the other holds: it was accepted there too, and is not contained
found : {start start' g h : EventGraph} {ms ns : List Note} {last last' : Last} → SameLast last last' → ((n : Note) → Among n ms → Accepts n ns)
    → (a : Kept start g ms last) (b : Kept start' h ns last') → HeldIn g a.versions h b.versions
found {h = h} {last' = last'} l more a b j small =
    let w = a.holding.each j small in
    let n = w.0 in
    let m = more n w.1 in
    ⊎_elim
    (λ (c : Contained last' m.0). absurd (a.outside j n w.2 (contained-too l m.0 n m.2 c)))
    (λ (x : (k : ℕ) × NoteAt h b.versions k m.0). (
      x.0,
      x.1.small,
      same-note w.2 x.1 (sym m.2),
      λ r. ap (λ (v : List ℕ). entry v r) w.2.version ∙ (sym (m.3 r) ∙ ap (λ (v : List ℕ). entry v r) (sym x.1.version)),
    ))
    (b.holding.all m.0 m.1)

kept-so : {start g : EventGraph} {W : Versions} {ns : List Note} {last : Last} → Start start → RemovalLog start g W ns last → Holding g W ns last → Kept start g ns last
kept-so {start} {g} {W} {ns} {last} s l h =
    let w = standing s l in
    record {
      versions = W;
      log = l;
      stands = w;
      holding = h;
      outside = λ k n. not-contained start g W last k n (standing-ok w).notes w.told.roots;
    }

pub what-is-held : {start g : EventGraph} {ns : List Note} {last : Last} → Start start → Log start g ns last → Kept start g ns last
what-is-held s begin = kept-so s removals.begin (start-holding s)
what-is-held s (append l e v) =
    let w = what-is-held s l in
    kept-so s (removals.append w.log e v) (append-holding _ w.versions _ _ (standing-ok w.stands) w.holding e v)
what-is-held {start = start} s (flush l f) =
    let w = what-is-held s l in
    kept-so s (removals.flush w.log f) (flush-holding start _ w.versions _ _ (standing-ok w.stands) w.stands.told w.holding f)
what-is-held {start = start} {ns = ns} s (advance {g = g} {last = last} l bound) =
    let w = what-is-held s l in
    kept-so s (removals.advance w.log bound) (advance-holding start g w.versions ns last (standing-ok w.stands) w.stands.told w.holding bound)
what-is-held s (raise l r) =
    let w = what-is-held s l in
    kept-so s (removals.raise w.log r) (raise-holding _ w.versions _ _ (standing-ok w.stands) w.holding r)

pub demand3 : Demand3
demand3 start start' g h ms ns last last' s x y same l size =
    let a = what-is-held (starts s).0 x in
    let b = what-is-held (starts s).1 y in
    survives-removals start start' g h a.versions b.versions ms ns last last' s a.log b.log same l size
    (record { left = found l same.left a b; right = found (same-last-back l) same.right b a })

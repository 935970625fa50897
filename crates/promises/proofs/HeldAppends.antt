-- Append keeps what a log holds: a new note is no held one's, so it stands beside the others with its version; and none is accepted twice.
use mathlib.Core.Bool.{true, false, false≢true}
use mathlib.Core.List.{List, ◌∷◌}
use mathlib.Core.Logic.{◌⊎◌, inl, inr, ⊎_elim}
use mathlib.Core.Path.{◌≡◌, refl, sym, ap, ◌∙◌}
use Prim.Native.Nat.{ℕ, ◌<◌}
use native.Mathlib.Decide.{ℕ_discrete}
use native.Mathlib.Omega.{arith}
use lib.Dec.{eqb}
use borrow.Author.Tests.{eq-eqb, eqb-true}
use Rattle.laws.specs.Counting.{pick}
use Rattle.laws.proofs.Orders.{true-or-false}
use Rattle.clocks.specs.Vectors.{entry}
use Rattle.clocks.specs.Ids.{code_of}
use Rattle.clocks.proofs.Vectors.{well-formed-for}
use Rattle.graph.specs.Whole.{EventGraph}
use Rattle.graph.specs.Refusals.{refusal_of}
use Rattle.graph.specs.Graphs.{pushed, appended}
use Rattle.graph.specs.Invariant.{replica_at, seq_at, code_at}
use Rattle.graph.proofs.DescentLaws.{accepted-facts}
use Rattle.graph.proofs.AppendNotes.{OneMore, push-one-more, more-notes}
use Rattle.graph.proofs.AcceptedLaws.{other-id}
use Rattle.promises.specs.Reached.{Versions, with_version}
use Rattle.promises.specs.Demand.{Note, Last, never, at, Among, here, there}
use Rattle.clocks.specs.declared.event.Event.{Event}
use Rattle.clocks.specs.declared.id.EventId.{EventId}
use Rattle.promises.proofs.RootsTold.{RootsAre}
use Rattle.promises.proofs.WhatIsHeld.{NoteAt, Contained, Holding, note-moves}
use Rattle.promises.proofs.LogOk.{LogOk}
use Rattle.promises.proofs.AppendLog.{old-version, new-version}
use Rattle.promises.proofs.DocumentedAppend.{new-event, old-note-stays}

among_cases : {n m : Note} {ns : List Note} → Among n (m ∷ ns) → (n ≡ m) ⊎ Among n ns
among_cases here = inl refl
among_cases (there a) = inr a

module _ (g : EventGraph) (W : Versions) (ns : List Note) (last : Last) (ok : LogOk g W) (held : Holding g W ns last) where
  module _ (e : Event) (v : List ℕ) (taken : refusal_of g e.id e.revision v ≡ 0) where
    abbrev more : EventGraph
    more = pushed g e v

    abbrev versions : Versions
    versions = with_version W e.id v

    abbrev note : Note
    note = record { event = e; version = v }

    one_more : OneMore g more e v
    one_more =
        let a = accepted-facts g e.id e.revision v taken in
        push-one-more g e v ok.graph ok.notes a.fits (well-formed-for g.named.len v e.id a.vector).0

    -- the new one
    new-note : NoteAt more versions g.held note
    unfolding pushed
    new-note =
        let p = one_more in
        record { small = omega arith; event = new-event g more e v p; version = new-version g more W e v ok taken p }

    -- an old one
    old-note : (k : ℕ) (n : Note) → NoteAt g W k n → NoteAt more versions k n
    unfolding pushed
    old-note k n a =
        let p = one_more in
        let l = a.small in
        note-moves k k n (omega arith) (old-note-stays g more e v p k l) (old-version g more W e v ok taken p k l) a

    push-holding : Holding more versions (note ∷ ns) last
    unfolding pushed
    push-holding = record {
      each = λ k l. elim (ℕ_discrete k g.held) [
        | yes z ↦ (note, here, rw z new-note)
        | no z ↦ let w = held.each k (omega arith) in (w.0, there w.1, old-note k w.0 w.2)
      ];
      all = λ n a. ⊎_elim
          (λ (q : n ≡ note). inr (g.held, rw q new-note))
          (λ (q : Among n ns). ⊎_elim
          (λ (c : Contained last n). inl c)
          (λ (w : (k : ℕ) × NoteAt g W k n). inr (w.0, old-note w.0 n w.1)) (held.all n q)) (among_cases a);
    }

  -- refused or not
  pub append-holding : (e : Event) (v : List ℕ) → Holding (appended g e v).graph (pick (eqb (appended g e v).refusal 0) (with_version W e.id v) W)
      (pick (eqb (appended g e v).refusal 0) (record { event = e; version = v } ∷ ns) ns) last
  unfolding appended
  append-holding e v = ⊎_elim
      (λ (t : eqb (refusal_of g e.id e.revision v) 0 ≡ true). rw t (push-holding e v (eqb-true (refusal_of g e.id e.revision v) 0 t)))
      (λ (z : eqb (refusal_of g e.id e.revision v) 0 ≡ false). rw z held) (true-or-false (eqb (refusal_of g e.id e.revision v) 0))

  -- an accepted note is accepted once: where it is held it is known, and where it is gone its sequence is not above roots
  pub accepted-once : (start : EventGraph) → RootsAre start g last → (e : Event) (v : List ℕ) (n : Note) → Among n ns → n.event.id ≡ e.id → refusal_of g e.id e.revision v ≡ 0 → ⊥
  accepted-once start roots e v n a same taken = ⊎_elim (gone last roots)
      (λ (w : (k : ℕ) × NoteAt g W k n).
      let s = w.1 in
      let z = other-id g e.id e.revision v ok.graph taken w.0 s.small in
      false≢true (sym z ∙ rw (
        eq-eqb (replica_at g w.0) e.id.idx.0 (s.event.replica ∙ ap (λ (i : EventId). i.idx.0) same),
        eq-eqb (seq_at g w.0) e.id.seq (s.event.seq ∙ ap (λ (i : EventId). i.seq) same),
        eq-eqb (code_at g w.0) (code_of e.id.disambiguator) (s.event.code ∙ ap (λ (i : EventId). code_of i.disambiguator) same),
      ))) (held.all n a)
    where
      above : entry g.roots.entries e.id.idx.0 < e.id.seq
      above =
          let p = one_more e v taken in
          let m = (more-notes g e v ok.notes taken (pushed g e v) p).above_roots g.held (omega (arith, p.held)) in
          rw (p.roots, p.new_replica, p.new_seq) at m

      gone : (last : Last) → RootsAre start g last → Contained last n → ⊥
      gone never r c = c
      gone (at f) r c =
          omega (arith, above, r.1 e.id.idx.0, c, ap (λ (i : EventId). i.seq) same, ap (λ (i : EventId). entry f i.idx.0) same)

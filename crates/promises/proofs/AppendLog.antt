-- Append keeps what holds of a log: the new event descends from exactly what its version covers, and comes before nothing that an older one covers.
use mathlib.Core.Bool.{true, false}
use mathlib.Core.List.{List}
use mathlib.Core.Logic.{⊎_elim}
use mathlib.Core.Path.{◌≡◌, refl, ◌∙◌}
use Prim.Native.Nat.{ℕ, ◌-◌, ◌<◌, ◌≤◌}
use native.Mathlib.Decide.{ℕ_discrete}
use native.Mathlib.Omega.{arith}
use borrow.Author.Tests.{lt-ltb, le-ltb, eq-eqb}
use Rattle.laws.proofs.Orders.{le-or-lt, imp-of, true-or-false, is_false}
use Rattle.clocks.specs.Vectors.{entry, well_formed}
use Rattle.clocks.specs.Ids.{code_of}
use Rattle.clocks.proofs.Vectors.{well-formed-for, well-formed-length, at-most-elim}
use Rattle.tables.specs.Slots.{descends}
use Rattle.graph.specs.Whole.{EventGraph}
use Rattle.graph.specs.Refusals.{is_behind, refusal_of}
use Rattle.graph.specs.Graphs.{pushed}
use Rattle.graph.specs.Invariant.{GraphOk, replica_at, seq_at, Siblings}
use Rattle.graph.proofs.DescentLaws.{Accepted, accepted-facts}
use Rattle.graph.proofs.InvariantLaws.{push_ok}
use Rattle.graph.proofs.AppendNotes.{OneMore, push-one-more, more-notes, older}
use Rattle.graph.proofs.AcceptedLaws.{timely-cases, AfterSibling, other-id}
use Rattle.promises.specs.Reached.{Versions, with_version, version_at}
use Rattle.clocks.specs.declared.event.Event.{Event}
use Rattle.clocks.specs.declared.id.EventId.{EventId}
use Rattle.promises.proofs.LogOk.{LogOk}

-- an event that roots do not refuse has a version that is at least roots in every entry
pub accepted-after : (g : EventGraph) (W : Versions) → LogOk g W → (id : EventId) (revision : ℕ) (v : List ℕ) → refusal_of g id revision v ≡ 0 → (r : ℕ) → entry g.roots.entries r ≤ entry v r
unfolding is_behind
accepted-after g W ok id revision v h r = ⊎_elim
    (λ (t : g.rooted ≡ true). at-most-elim g.roots.entries v (imp-of g.rooted _ (accepted-facts g id revision v h).after t) r)
    (λ (z : g.rooted ≡ false). rw (ok.notes.unrooted z r) (omega arith)) (true-or-false g.rooted)

-- nothing descends from its own position or a later one
not-later : (h : EventGraph) → GraphOk h → (i j : ℕ) → i < h.held → i ≤ j → descends h.pasts i j ≡ false
not-later h ok i j l m = is_false (descends h.pasts i j) (λ t. omega (arith, ok.earlier i j l t))

module _ (g h : EventGraph) (W : Versions) (e : Event) (v : List ℕ) (ok : LogOk g W) (accepted : refusal_of g e.id e.revision v ≡ 0) (p : OneMore g h e v) where
  abbrev id : EventId
  id = e.id

  -- the versions of the held events stay, since none has this id
  pub old-version : (k : ℕ) → k < g.held → version_at h (with_version W id v) k ≡ version_at g W k
  old-version k l = rw (p.old_replica k l, p.old_seq k l, p.old_code k l, other-id g id e.revision v ok.graph accepted k l)

  pub new-version : version_at h (with_version W id v) g.held ≡ v
  new-version = rw (p.new_replica, p.new_seq, p.new_code, eq-eqb id.idx.0 id.idx.0 refl, eq-eqb id.seq id.seq refl, eq-eqb (code_of id.disambiguator) (code_of id.disambiguator) refl)

  -- what an older version covers is no new event, but for a sibling behind its siblings
  covered-sibling : (i : ℕ) → i < g.held → id.seq ≤ entry (version_at g W i) id.idx.0 → (replica_at g i ≡ id.idx.0) × (seq_at g i ≡ id.seq)
  covered-sibling i l c = ⊎_elim
      (λ (q : entry g.named.entries id.idx.0 < id.seq). absurd (omega (arith, ok.upto i id.idx.0 l)))
      (λ (q : (id.seq ≡ entry g.named.entries id.idx.0) × AfterSibling g id e.revision). behind q.1) (timely-cases g id e.revision facts.timely facts.alike)
    where
      facts : Accepted g id e.revision v
      facts = accepted-facts g id e.revision v accepted

      behind : AfterSibling g id e.revision → (replica_at g i ≡ id.idx.0) × (seq_at g i ≡ id.seq)
      behind a = elim (ℕ_discrete i (g.held - 1)) [
        | yes z ↦ rw z (a.replica, a.seq)
        | no z ↦
            let s = ok.first i (g.held - 1) (omega arith) (omega arith) (rw (a.replica, a.seq) c) in
            (s.0 ∙ a.replica, s.1 ∙ a.seq)
      ]

  pub more-log : GraphOk h → LogOk h (with_version W id v)
  more-log fine = record {
    graph = fine;
    notes = more-notes g e v ok.notes accepted h p;
    long = λ k l. elim (ℕ_discrete k g.held) [
      | yes z ↦ rw (z, new-version, p.size) (well-formed-length g.named.len v vector.0)
      | no z ↦ let o = older p k l z in rw (old-version k o, p.size) (ok.long k o)
    ];
    own = λ k l. elim (ℕ_discrete k g.held) [
      | yes z ↦ rw (z, new-version, p.new_replica, p.new_seq) vector.1
      | no z ↦ let o = older p k l z in rw (old-version k o, p.old_replica k o, p.old_seq k o) (ok.own k o)
    ];
    upto = λ k r l. elim (ℕ_discrete k g.held) [
      | yes z ↦ rw (z, new-version) (p.takes r)
      | no z ↦ let o = older p k l z in rw (old-version k o) (omega (arith, ok.upto k r o, p.rises r))
    ];
    after = λ k r l. elim (ℕ_discrete k g.held) [
      | yes z ↦ rw (z, new-version, p.roots) (accepted-after g W ok id e.revision v accepted r)
      | no z ↦ let o = older p k l z in rw (old-version k o, p.roots) (ok.after k r o)
    ];
    descent = λ i j l m. ⊎_elim
        (λ (q : i ≤ j). not-later h fine i j l q ∙ rw (le-ltb j i q))
        (λ (q : j < i). rw (lt-ltb j i q) (elim (ℕ_discrete i g.held) [
          | yes z ↦
              let o : j < g.held = omega arith in
              rw (z, new-version, p.old_replica j o, p.old_seq j o) (p.new_past j o)
          | no z ↦
              let a = older p i l z in
              let o : j < g.held = omega arith in
              rw (old-version i a, p.old_replica j o, p.old_seq j o, p.old_past i j a) (ok.descent i j a o ∙ rw (lt-ltb j i q))
        ])) (le-or-lt i j);
    first = λ i k l m c. elim (ℕ_discrete k g.held) [
      | yes z ↦ newest i k z m c
      | no z ↦ between i k (older p k l z) m c
    ];
  }
    where
      vector : (well_formed g.named.len v ≡ true) × (entry v id.idx.0 ≡ id.seq)
      vector = well-formed-for g.named.len v id (accepted-facts g id e.revision v accepted).vector

      newest : (i k : ℕ) → k ≡ g.held → i < k → seq_at h k ≤ entry (version_at h (with_version W id v) i) (replica_at h k) → Siblings h i k
      newest i k z m c =
          let o : i < g.held = omega arith in
          let s = covered-sibling i o (rw (z, p.new_seq, p.new_replica, old-version i o) at c) in
          rw (z, p.new_replica, p.new_seq, p.old_replica i o, p.old_seq i o) s

      between : (i k : ℕ) → k < g.held → i < k → seq_at h k ≤ entry (version_at h (with_version W id v) i) (replica_at h k) → Siblings h i k
      between i k b m c =
          let o : i < g.held = omega arith in
          let s = ok.first i k b m (rw (p.old_seq k b, p.old_replica k b, old-version i o) at c) in
          rw (p.old_replica i o, p.old_seq i o, p.old_replica k b, p.old_seq k b) s

-- the graph that an accepted append leaves
pub push-log : (g : EventGraph) (W : Versions) (e : Event) (v : List ℕ) → LogOk g W → refusal_of g e.id e.revision v ≡ 0 → LogOk (pushed g e v) (with_version W e.id v)
push-log g W e v ok h =
    let a = accepted-facts g e.id e.revision v h in
    more-log g (pushed g e v) W e v ok h
    (push-one-more g e v ok.graph ok.notes a.fits (well-formed-for g.named.len v e.id a.vector).0) (push_ok g v ok.graph a.fits a.closed e)

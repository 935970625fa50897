-- Flush keeps what a log holds: what the frontier contains goes, the rest stands as it was, and what is gone stays contained, since roots only rise.
use mathlib.Core.Bool.{true, false}
use mathlib.Core.List.{List}
use mathlib.Core.Logic.{◌⊎◌, inl, inr, ⊎_elim}
use mathlib.Core.Path.{◌≡◌, ap}
use Prim.Native.Nat.{ℕ, suc, ◌<◌, ◌≤◌}
use native.Mathlib.Omega.{arith}
use lib.Dec.{eqb}
use lib.ListN.{take}
use borrow.Author.Tests.{lt-ltb, ne_eqb}
use Rattle.laws.specs.Counting.{pick, count_below}
use Rattle.laws.proofs.Orders.{true-or-false}
use Rattle.laws.proofs.Counting.{count-rises}
use Rattle.clocks.specs.Vectors.{entry}
use Rattle.positions.specs.Members.{set_of}
use Rattle.positions.specs.Compacting.{rank}
use Rattle.graph.specs.Whole.{EventGraph, Removed}
use Rattle.graph.specs.Refusals.{covered}
use Rattle.graph.specs.Cuts.{prefix_frontier, base_of, is_critical, at_base}
use Rattle.graph.specs.Removals.{kept, rooted_at, flushed}
use Rattle.graph.specs.Advances.{advanced}
use Rattle.graph.specs.Invariant.{GraphOk, NotesOk}
use Rattle.graph.proofs.CoverLaws.{covered-elim}
use Rattle.graph.proofs.FrontierLaws.{base-entry, prefix-base}
use Rattle.graph.proofs.CriticalLaws.{AtCut, critical-cut, same_entries}
use Rattle.graph.proofs.RemainLaws.{closed_at, was, was-held, stands}
use Rattle.tables.proofs.ClosingLaws.{rank-count}
use Rattle.graph.proofs.RemovalCases.{stays, stays-held, flush-cases}
use Rattle.promises.specs.Reached.{Versions}
use Rattle.promises.specs.Demand.{Note, Last, never, at}
use Rattle.promises.proofs.LogOk.{LogOk}
use Rattle.promises.proofs.AdvanceLog.{advance-documented}
use Rattle.promises.proofs.RootsTold.{RootsAre, RootsTold}
use Rattle.promises.proofs.WhatIsHeld.{NoteAt, Contained, Holding, note-moves}

-- a critical frontier is nowhere below roots
critical-above : (g : EventGraph) (f : List ℕ) → NotesOk g → is_critical g f ≡ true → (r : ℕ) → entry g.roots.entries r ≤ entry f r
critical-above g f notes c r = ⊎_elim
    (λ (s : at_base g f ≡ true). omega (arith, base-entry g notes r, same_entries (base_of g).entries f s r))
    (λ (w : AtCut g f).
    omega (arith, base-entry g notes r, prefix-base g notes (suc w.0) r, same_entries (prefix_frontier g (suc w.0)).entries f w.2 r)) (critical-cut g f c)

module _ (start g : EventGraph) (W : Versions) (ns : List Note) (last : Last) (log : LogOk g W) (told : RootsTold start g last) (held : Holding g W ns last) where
  abbrev ok : GraphOk g
  ok = log.graph

  module _ (f : List ℕ) (critical : is_critical g f ≡ true) where
    abbrev rest : EventGraph
    rest = rooted_at (kept g (stays g f)) f

    -- what remains is what stood there
    was-note : (k : ℕ) (l : k < count_below (stays g f) 256) (n : Note) → NoteAt g W (was g (stays g f) ok (stays-held g f) k l) n → NoteAt rest W k n
    unfolding kept
    was-note k l n a =
        let r = stands g (stays g f) ok (stays-held g f) g.replicas k l in
        let s = stands g (stays g f) ok (stays-held g f) g.seqs k l in
        let c = stands g (stays g f) ok (stays-held g f) g.codes k l in
        note-moves k (was g (stays g f) ok (stays-held g f) k l) n l (record {
          id = record { replica = r; seq = s; code = c };
          lamport = stands g (stays g f) ok (stays-held g f) g.lamports k l;
          op = stands g (stays g f) ok (stays-held g f) g.ops k l;
          revision = stands g (stays g f) ok (stays-held g f) g.revisions k l;
        }) (rw (r, s, c)) a

    -- and what is not contained remains
    kept-note : (k : ℕ) (n : Note) → stays g f k ≡ true → NoteAt g W k n → NoteAt rest W (rank (set_of (stays g f)) k) n
    unfolding kept
    kept-note k n e a =
        let l : k < 256 = omega (arith, a.small, ok.room) in
        let r = closed_at (stays g f) g.replicas k l e in
        let s = closed_at (stays g f) g.seqs k l e in
        let c = closed_at (stays g f) g.codes k l e in
        note-moves (rank (set_of (stays g f)) k) k n (omega (arith, rank-count (stays g f) k (omega arith), count-rises (stays g f) k 256 l e))
        (record {
          id = record { replica = r; seq = s; code = c };
          lamport = closed_at (stays g f) g.lamports k l e;
          op = closed_at (stays g f) g.ops k l e;
          revision = closed_at (stays g f) g.revisions k l e;
        }) (rw (r, s, c)) a

    -- what was contained still is: roots only rise
    still-gone : (last : Last) (n : Note) → RootsAre start g last → Contained last n → Contained (at f) n
    still-gone never n r c = absurd c
    still-gone (at b) n r c = omega (arith, c, r.1 n.event.id.idx.0, critical-above g f log.notes critical n.event.id.idx.0)

    gone-or-kept : (k : ℕ) (n : Note) → NoteAt g W k n → Contained (at f) n ⊎ ((j : ℕ) × NoteAt rest W j n)
    gone-or-kept k n a = ⊎_elim
        (λ (t : covered g f k ≡ true). inl (omega (arith, (covered-elim g f k t).1, a.event.seq, ap (λ (i : ℕ). entry f i) a.event.replica)))
        (λ (z : covered g f k ≡ false). inr (rank (set_of (stays g f)) k, kept-note k n (rw (lt-ltb k g.held a.small, z)) a)) (true-or-false (covered g f k))

    rest-holding : Holding rest W ns (at f)
    unfolding kept
    rest-holding = record {
      each = λ k l. let w = held.each (was g (stays g f) ok (stays-held g f) k l) (was-held g (stays g f) ok (stays-held g f) k l) in (w.0, w.1, was-note k l w.0 w.2);
      all = λ n a. ⊎_elim
          (λ (c : Contained last n). inl (still-gone last n told.roots c))
          (λ (w : (k : ℕ) × NoteAt g W k n). gone-or-kept w.0 n w.1) (held.all n a);
    }

  -- refused or not
  pub flush-holding : (f : List ℕ) → Holding (flushed g f).graph W ns (pick (eqb (flushed g f).refusal 0) (at f) last)
  flush-holding f = flush-cases (λ (x : Removed). Holding x.graph W ns (pick (eqb x.refusal 0) (at f) last)) g f (λ formed critical. rest-holding f critical) (λ n z. rw (ne_eqb n 0 z) held)

-- an advance is a flush at the frontier that it finds
pub advance-holding : (start g : EventGraph) (W : Versions) (ns : List Note) (last : Last) → LogOk g W → RootsTold start g last → Holding g W ns last → (bound : List ℕ)
    → Holding (advanced g bound).graph W ns (pick (advanced g bound).found (at (take g.named.len (advanced g bound).frontier.entries)) last)
advance-holding start g W ns last ok told held bound = ⊎_elim
    (λ (t : (advanced g bound).found ≡ true).
    let f : List ℕ = take g.named.len (advanced g bound).frontier.entries in
    let h : Holding (flushed g f).graph W ns (pick (eqb (flushed g f).refusal 0) (at f) last) = flush-holding start g W ns last ok told held f in
    rw t (rw ((advance-documented g W ok bound).flush t) at h))
    (λ (z : (advanced g bound).found ≡ false). rw (z, ((advance-documented g W ok bound).none z).0) held) (true-or-false (advanced g bound).found)

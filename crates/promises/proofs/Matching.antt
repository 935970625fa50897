-- Two logs that hold the same notes, each with the same version, in whatever order: descent is the same in both, and so are parents and heads.
use mathlib.Core.Bool.{true, false, true≢false}
use mathlib.Core.Logic.{⊎_elim}
use mathlib.Core.Path.{◌≡◌, sym, ◌∙◌}
use Prim.Native.Nat.{ℕ, ◌<◌, ◌≤◌}
use native.Mathlib.Decide.{ℕ_discrete}
use native.Mathlib.Omega.{arith}
use Rattle.laws.proofs.Orders.{le-or-lt, is_false}
use Rattle.clocks.specs.Vectors.{entry}
use Rattle.tables.specs.Slots.{descends}
use Rattle.graph.specs.Whole.{EventGraph}
use Rattle.graph.specs.Graphs.{parents, heads}
use Rattle.graph.specs.Invariant.{NotesOk, replica_at, seq_at}
use Rattle.graph.proofs.MeaningLaws.{parent-elim, parent-intro, head-elim, head-intro}
use Rattle.promises.specs.Reached.{Versions, version_at}
use Rattle.promises.specs.Demand.{Says, SameId, Holds, SameR}
use Rattle.promises.specs.Removals.{HeldIn}
use Rattle.promises.proofs.LogOk.{LogOk}
use Rattle.promises.proofs.Documented.{before_of, of-before}

pub record Match (g : EventGraph) (W : Versions) (h : EventGraph) (U : Versions) : Type 0 where
  pub left : LogOk g W
  pub right : LogOk h U
  pub size : SameR g h
  pub rooted : g.rooted ≡ h.rooted
  pub roots : g.roots ≡ h.roots
  pub to : HeldIn g W h U
  pub back : HeldIn h U g W

-- what is said of the one is said of the other
pub swapped : {g h : EventGraph} {W U : Versions} → Match g W h U → Match h U g W
swapped m = record { left = m.right; right = m.left; size = sym m.size; rooted = sym m.rooted; roots = sym m.roots; to = m.back; back = m.to }

-- ---- ids

pub same_back : {g h : EventGraph} {j k : ℕ} → SameId g h j k → SameId h g k j
same_back s = record { replica = sym s.replica; seq = sym s.seq; code = sym s.code }

pub same-through : {f g h : EventGraph} {i j k : ℕ} → SameId f g i j → SameId g h j k → SameId f h i k
same-through s t = record { replica = s.replica ∙ t.replica; seq = s.seq ∙ t.seq; code = s.code ∙ t.code }

-- a slot is told by its id
pub told : (g : EventGraph) → NotesOk g → (j k : ℕ) → j < g.held → k < g.held → SameId g g j k → j ≡ k
told g notes j k l m s = elim (ℕ_discrete j k) [
  | yes e ↦ e
  | no e ↦ ⊎_elim
      (λ (q : j ≤ k). absurd (omega (arith, s.code, notes.rising j k (omega arith) m (s.replica, s.seq))))
      (λ (q : k < j). absurd (omega (arith, s.code, notes.rising k j q l (sym s.replica, sym s.seq)))) (le-or-lt j k)
]

module _ {g h : EventGraph} {W U : Versions} (m : Match g W h U) where
  -- the versions of an id say the same
  pub one-version : (j k : ℕ) → j < g.held → k < h.held → SameId g h j k → Says (version_at g W j) (version_at h U k)
  one-version j k a b s =
      let w = m.to j a in
      let e : w.0 ≡ k = told h m.right.notes w.0 k w.1 b (same-through (same_back w.2.id) s) in
      let v : Says (version_at g W j) (version_at h U w.0) = w.3 in
      rw e at v

  -- and one slot
  pub one-slot : (i j k : ℕ) → i < g.held → j < g.held → SameId g h i k → SameId g h j k → i ≡ j
  one-slot i j k a b s t = told g m.left.notes i j a b (same-through s (same_back t))

  -- ---- descent

  -- what stands before and is covered stands before in the other too
  before : (i j a b : ℕ) → i < g.held → a < h.held → b < h.held → SameId g h i a → SameId g h j b → j < i
      → seq_at h b ≤ entry (version_at h U a) (replica_at h b) → b < a
  before i j a b l p q s t d c = ⊎_elim
      (λ (o : a ≤ b). elim (ℕ_discrete a b) [
        | yes e ↦ let z : i ≡ j = one-slot i j b l (omega arith) (rw e at s) t in absurd (omega arith)
        | no e ↦
            let w = m.right.first a b q (omega arith) c in
            absurd (omega (
              arith,
              s.code,
              t.code,
              m.right.notes.rising a b (omega arith) q w,
              m.left.notes.rising j i d l (t.replica ∙ sym w.0 ∙ sym s.replica, t.seq ∙ sym w.1 ∙ sym s.seq),
            ))
      ]) (λ (o : b < a). o) (le-or-lt a b)

  pub descends-over : (i j a b : ℕ) → i < g.held → a < h.held → b < h.held → SameId g h i a → SameId g h j b
      → descends g.pasts i j ≡ true → descends h.pasts a b ≡ true
  descends-over i j a b l p q s t d =
      let x = before_of g W m.left i j l d in
      let v : seq_at h b ≤ entry (version_at h U a) (replica_at h b) = rw (t.seq, t.replica, one-version i a l p s (replica_at h b)) at x.covered in
      of-before h U m.right a b (record { held = p; earlier = before i j a b l p q s t x.earlier v; covered = v })

module _ {g h : EventGraph} {W U : Versions} (m : Match g W h U) where
  pub descends-not : (i j a b : ℕ) → i < g.held → j < g.held → a < h.held → SameId g h i a → SameId g h j b
      → descends g.pasts i j ≡ false → descends h.pasts a b ≡ false
  descends-not i j a b l q p s t d =
      is_false (descends h.pasts a b) (λ y. true≢false (sym (descends-over (swapped m) a b i j p l q (same_back s) (same_back t) y) ∙ d))

  -- ---- parents and heads are defined from descent

  pub parents-over : (j p k : ℕ) → j < g.held → k < h.held → SameId g h j k → parents g j p ≡ true → (q : ℕ) × (q < h.held) × SameId g h p q × (parents h k q ≡ true)
  parents-over j p k a b s e =
      let u = parent-elim g j p e in
      let l = m.left.graph.earlier j p a u.0 in
      let w = m.to p (omega arith) in (
        w.0,
        w.1,
        w.2.id,
        parent-intro h k w.0 (descends-over m j p k w.0 a b w.1 s w.2.id u.0) (λ i d.
            let o = m.right.graph.earlier k i b d in
            let x = m.back i (omega arith) in
            descends-not x.0 p i w.0 x.1 (omega arith) (omega arith) (same_back x.2.id) w.2.id
            (u.1 x.0 (descends-over (swapped m) k i j x.0 b a x.1 (same_back s) x.2.id d))),
      )

  pub heads-over : (j k : ℕ) → j < g.held → k < h.held → SameId g h j k → heads g j ≡ true → heads h k ≡ true
  heads-over j k a b s e =
      let u = head-elim g m.left.graph j e in
      head-intro h k b (λ i l.
      let x = m.back i l in
      descends-not x.0 j i k x.1 a l (same_back x.2.id) s (u.1 x.0 x.1))

  pub holds : Holds g h
  holds = record { notes = λ j l. let w = m.to j l in (w.0, w.1, w.2); parents = parents-over; heads = heads-over }

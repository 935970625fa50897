-- A sheet tells held ids apart: the codes that reached graphs hold are those of disambiguators, so a slot is told by the id that is printed of it.
use mathlib.Core.Bool.{Bool, true, false, ◌&&◌}
use mathlib.Core.List.{List}
use mathlib.Core.Logic.{⊎_elim}
use mathlib.Core.Path.{◌≡◌, refl, sym, ap, ◌∙◌}
use Prim.Native.Nat.{ℕ, zero, suc, ◌%◌, ◌^◌, ◌≤◌, ◌<◌}
use native.Mathlib.Decide.{ℕ_discrete}
use native.Mathlib.Omega.{arith}
use lib.Dec.{ltb, eqb}
use borrow.Author.Tests.{ltb-true, eqb-true}
use Rattle.std.specs.Prelude.{Option, Some, None}
use Rattle.laws.specs.Counting.{pick}
use Rattle.laws.proofs.Orders.{true-or-false}
use Rattle.clocks.proofs.Vectors.{well-formed-for}
use Rattle.clocks.specs.Ids.{code_of, decoded}
use Rattle.graph.specs.Refusals.{refusal_of}
use Rattle.graph.specs.Graphs.{pushed, appended, op_at, event_at}
use Rattle.graph.specs.Removals.{kept, flushed, cleared}
use Rattle.graph.specs.Invariant.{GraphOk, NotesOk, code_at}
use Rattle.graph.proofs.DescentLaws.{accepted-facts}
use Rattle.graph.proofs.AppendNotes.{push-one-more, older}
use Rattle.graph.proofs.MeaningLaws.{clear-held}
use Rattle.graph.proofs.RemainLaws.{was, was-held, stands}
use Rattle.graph.proofs.RemovalCases.{picks, picks_held, stays, stays-held, remove-cases, retain-cases, flush-cases}
use Rattle.listing.specs.Sheets.{id_text, SmallTag, SmallId}
use Rattle.listing.proofs.Telling.{text-tells-ids}
use Rattle.graph.specs.Whole.{EventGraph, Removed}
use Rattle.graph.proofs.RaiseLaws.{widen-graph-cases}
use Rattle.promises.specs.Reached.{Versions, Reached, created, checkpointed, append, flush, advance, raise, remove, retain, clear}
use Rattle.promises.specs.Printed.{PrintsApart, OfType}
use Rattle.clocks.specs.declared.event.Event.{Event}
use Rattle.clocks.specs.declared.id.Disambiguator.{Disambiguator}
use Rattle.clocks.specs.declared.id.Disambiguator.TheVariants.{Absent, Number}
use Rattle.clocks.specs.declared.id.EventId.{EventId}
use Rattle.clocks.specs.declared.tagged_op.TaggedOp.{TaggedOp}
use Rattle.promises.proofs.AdvanceLog.{advance-is}
use Rattle.promises.proofs.ReachedLog.{reached-ok, created-held, checkpointed-held}
use Rattle.promises.proofs.Matching.{told}
use Rattle.graph.specs.Graphs as graphs

-- ---- the codes are those of disambiguators

abbrev Coded : EventGraph → Type 0
Coded g = (k : ℕ) → k < g.held → code_at g k ≤ 2 ^ 32

code-small : (d : Disambiguator) → SmallTag d → code_of d ≤ 2 ^ 32
code-small Absent h = omega arith
code-small (Number d) h = omega arith

none-coded : (g : EventGraph) → g.held ≡ 0 → Coded g
none-coded g h k l = absurd (omega (arith, h))

push-coded : (g : EventGraph) (e : Event) (v : List ℕ) → GraphOk g → NotesOk g → SmallTag e.id.disambiguator → refusal_of g e.id e.revision v ≡ 0 → Coded g → Coded (pushed g e v)
push-coded g e v ok notes small taken c k l =
    let a = accepted-facts g e.id e.revision v taken in
    let p = push-one-more g e v ok notes a.fits (well-formed-for g.named.len v e.id a.vector).0 in
    elim (ℕ_discrete k g.held) [
      | yes z ↦ rw (z, p.new_code) (code-small e.id.disambiguator small)
      | no z ↦ let o = older p k l z in rw (p.old_code k o) (c k o)
    ]

append-coded : (g : EventGraph) (e : Event) (v : List ℕ) → GraphOk g → NotesOk g → SmallTag e.id.disambiguator → Coded g → Coded (appended g e v).graph
unfolding appended
append-coded g e v ok notes small c = ⊎_elim
    (λ (t : eqb (refusal_of g e.id e.revision v) 0 ≡ true). rw t (push-coded g e v ok notes small (eqb-true (refusal_of g e.id e.revision v) 0 t) c))
    (λ (z : eqb (refusal_of g e.id e.revision v) 0 ≡ false). rw z c) (true-or-false (eqb (refusal_of g e.id e.revision v) 0))

kept-coded : (g : EventGraph) (f : ℕ → Bool) → GraphOk g → ((k : ℕ) → k < 256 → f k ≡ true → k < g.held) → Coded g → Coded (kept g f)
unfolding kept
kept-coded g f ok held c k l = omega (arith, stands g f ok held g.codes k l, c (was g f ok held k l) (was-held g f ok held k l))

abbrev Left : Removed → Type 0
Left x = Coded x.graph

some-coded : (g : EventGraph) → GraphOk g → Coded g → (f : ℕ → Bool) → Coded (kept g (picks g f))
some-coded g ok c f = kept-coded g (picks g f) ok (picks_held g f) c

flush-coded : (g : EventGraph) (f : List ℕ) → GraphOk g → Coded g → Left (flushed g f)
flush-coded g f ok c = flush-cases Left g f (λ w d. kept-coded g (stays g f) ok (stays-held g f) c) (λ n z. c)

reached-coded : {g : EventGraph} {W : Versions} {accepted gone : ℕ} (p : Reached g W accepted gone) → OfType p → Coded g
reached-coded (created r h) t = none-coded (graphs.created r).graph (created-held r)
reached-coded (checkpointed r v h) t = none-coded (graphs.checkpointed r v).graph (checkpointed-held r v)
reached-coded (append {g = g} p e v) t = append-coded g e v (reached-ok p).graph (reached-ok p).notes t.0 (reached-coded p t.1)
reached-coded (flush {g = g} p f) t = flush-coded g f (reached-ok p).graph (reached-coded p t)
reached-coded (advance {g = g} {W = W} p bound) t = advance-is g W (reached-ok p) bound Left (λ f. flush-coded g f (reached-ok p).graph (reached-coded p t)) (reached-coded p t)
reached-coded (raise {g = g} p r) t = widen-graph-cases g r (reached-ok p).notes.one_size Coded (reached-coded p t) (λ a b c. reached-coded p t)
reached-coded (remove {g = g} p id) t = remove-cases Left g id (some-coded g (reached-ok p).graph (reached-coded p t)) (reached-coded p t)
reached-coded (retain {g = g} p mask) t = retain-cases Left g mask (some-coded g (reached-ok p).graph (reached-coded p t)) (reached-coded p t)
reached-coded (clear {g = g} p) t = none-coded (cleared g).graph (clear-held g).0

-- ---- so a disambiguator that is read from a slot tells its code

decoded-told : (a b : ℕ) → a ≤ 2 ^ 32 → b ≤ 2 ^ 32 → decoded a ≡ decoded b → a ≡ b
decoded-told zero zero ha hb e = refl
decoded-told zero (suc b) ha hb e = let z : ◌≡◌ {A = ℕ} 0 1 = cc in absurd (omega arith)
decoded-told (suc a) zero ha hb e = let z : ◌≡◌ {A = ℕ} 0 1 = cc in absurd (omega arith)
decoded-told (suc a) (suc b) ha hb e = let q : a % 2 ^ 32 ≡ b % 2 ^ 32 = cc in omega arith

decoded-small : (c : ℕ) → SmallTag (decoded c)
decoded-small zero = tt
decoded-small (suc c) = omega arith

-- ---- the event at a position is the one in that slot

stands_at : (g : EventGraph) (k : ℕ) (e : TaggedOp) → event_at g k ≡ Some e → (k < g.held) × ((op_at g k).tag.id ≡ e.tag.id)
unfolding event_at
stands_at g k e h = by (ltb k g.held) (ltb k 256) refl h
  where
    by : (s t : Bool) → ltb k g.held ≡ s → ◌≡◌ {A = Option TaggedOp} (pick (s && t) (Some (op_at g k)) None) (Some e) → (k < g.held) × ((op_at g k).tag.id ≡ e.tag.id)
    by true true q r = let z : op_at g k ≡ e = cc in (ltb-true k g.held q, ap (λ (x : TaggedOp). x.tag.id) z)
    by true false q r = absurd cc
    by false t q r = absurd cc

module _ (g : EventGraph) (notes : NotesOk g) (coded : Coded g) where
  small : (k : ℕ) → k < g.held → SmallId (op_at g k).tag.id
  small k l = (omega (arith, notes.known k l, notes.named_ok.room), omega (arith, (notes.counted k l).1), decoded-small (code_at g k))

  pub apart : PrintsApart g
  apart j k d e hj hk q =
      let a = stands_at g j d hj in
      let b = stands_at g k e hk in
      let same = text-tells-ids (op_at g j).tag.id (op_at g k).tag.id (small j a.0) (small k b.0) (ap id_text a.1 ∙ q ∙ ap id_text (sym b.1)) in
      told g notes j k a.0 b.0 (record {
        replica = ap (λ (i : EventId). i.idx.0) same;
        seq = ap (λ (i : EventId). i.seq) same;
        code = decoded-told (code_at g j) (code_at g k) (coded j a.0) (coded k b.0) (ap (λ (i : EventId). i.disambiguator) same);
      })

pub sheet-tells-ids : {g : EventGraph} {W : Versions} {accepted gone : ℕ} (p : Reached g W accepted gone) → OfType p → PrintsApart g
sheet-tells-ids {g = g} p t = apart g (reached-ok p).notes (reached-coded p t)

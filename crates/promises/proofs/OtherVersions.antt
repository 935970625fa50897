-- Without the versions P13 is false. Two desks; b = (1,1) with [0,1] and x = (0,1) with [1,0] know nothing of each other. The sibling 0 of x is accepted with
-- [1,0], removed and accepted with [1,1] in the one log, and the other way round in the other: the cuts are 2 and 3 in the one, and 3 in the other.
use mathlib.Core.Bool.{true, false, true≢false}
use mathlib.Core.Path.{◌≡◌, refl, sym, ◌∙◌}
use mathlib.Core.List.{List, [], ◌∷◌}
use Prim.Native.Nat.{ℕ}
use Rattle.clocks.specs.Frontiers.{new_frontier}
use Rattle.positions.specs.Bits.{bit}
use Rattle.positions.specs.Members.{has}
use Rattle.graph.specs.Whole.{EventGraph}
use Rattle.graph.specs.Refusals.{refusal_of}
use Rattle.graph.specs.Graphs.{created, pushed, appended}
use Rattle.promises.specs.Reached.{Versions, none, with_version}
use Rattle.promises.specs.Demand.{Note, Last, never, both_fresh, neither, Among, here, there, Accepts}
use Rattle.promises.specs.Removals.{RemovalLog, begin, append, remove, NotesIn, WithoutVersions}
use Rattle.clocks.specs.declared.event.Event.{Event}
use Rattle.promises.proofs.OtherVersionsGraphs.{note_b, note_x, sibling, one, two, three, b-taken, x-taken, two_is, taken-without, taken-with, three-without, three-with, removes}

-- an accepted append
accepted : {start g : EventGraph} {W : Versions} {ms : List Note} {last : Last} → RemovalLog start g W ms last → (e : Event) (v : List ℕ) (h : EventGraph)
    → refusal_of g e.id e.revision v ≡ 0 → pushed g e v ≡ h → RemovalLog start h (with_version W e.id v) (record { event = e; version = v } ∷ ms) last
unfolding appended
accepted l e v h t p = rw p at (rw t at (append l e v))

-- and the sibling's removal
without : {start : EventGraph} {W : Versions} {ms : List Note} {last : Last} (past cuts : ℕ) → RemovalLog start (three past cuts) W ms last → RemovalLog start two W ms last
without past cuts l = rw (removes past cuts) at (remove l sibling.id)

two-desks : (created 2).refusal ≡ 0
unfolding created new_frontier
two-desks = refl

begun : RemovalLog (created 2).graph two (with_version (with_version none note_b.id (0 ∷ 1 ∷ [])) note_x.id (1 ∷ 0 ∷ []))
    (record { event = note_x; version = 1 ∷ 0 ∷ [] } ∷ record { event = note_b; version = 0 ∷ 1 ∷ [] } ∷ []) never
begun = accepted (accepted begin note_b (0 ∷ 1 ∷ []) one b-taken refl) note_x (1 ∷ 0 ∷ []) two x-taken two_is

-- they accepted the same notes
swapped : {a b : Note} {ns : List Note} → (n : Note) → Among n (a ∷ b ∷ ns) → Accepts n (b ∷ a ∷ ns)
swapped n here = (n, there here, refl, λ r. refl)
swapped n (there here) = (n, here, refl, λ r. refl)
swapped n (there (there p)) = (n, there (there p), refl, λ r. refl)

-- and hold the same
alone : (p q c d : ℕ) → NotesIn (three p c) (three q d)
alone p q c d j l =
    (j, l, record { id = record { replica = refl; seq = refl; code = refl }; lamport = refl; op = refl; revision = refl })

-- the length 2 is a cut where the sibling covers b
cut : has (three 3 6).cuts 1 ≡ true
unfolding has bit
cut = refl

no_cut : has (three 2 4).cuts 1 ≡ false
unfolding has bit
no_cut = refl

pub without-versions : WithoutVersions → ⊥
without-versions all =
    let with-b = accepted (without 2 4 (accepted begun sibling (1 ∷ 0 ∷ []) (three 2 4) taken-without three-without)) sibling (1 ∷ 1 ∷ []) (three 3 6) taken-with three-with in
    let without-b = accepted (without 3 6 (accepted begun sibling (1 ∷ 1 ∷ []) (three 3 6) taken-with three-with)) sibling (1 ∷ 0 ∷ []) (three 2 4) taken-without three-without in
    let agree = all (created 2).graph (created 2).graph (three 3 6) (three 2 4) _ _ _ _ never never (both_fresh 2 2 two-desks two-desks) with-b without-b
    (record { left = swapped; right = swapped }) neither refl (alone 3 2 6 4) (alone 2 3 4 6) in
    true≢false (sym cut ∙ agree.cuts 1 ∙ no_cut)

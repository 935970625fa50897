-- Document 01, Examples beside each edge: graph G with its events a, b, c, d, and one table of all starred examples, those of G and those of history H.
use Rattle.std.specs.Prelude.{Bool, true, false, ◌&&◌, not, List, [], ◌∷◌, ◌++◌, ℕ, ◌+◌, eqb, take}
use Rattle.laws.specs.Lists.{list_below}
use Rattle.positions.specs.Members.{has}
use Rattle.graph.specs.Whole.{EventGraph}
use Rattle.graph.specs.Refusals.{late_no, not_closed_no, refusal_of}
use Rattle.graph.specs.Graphs.{created, appended, parents, place_of}
use Rattle.graph.specs.Cuts.{FrontierFound, greatest, is_critical}
use Rattle.graph.specs.Removals.{without_id, flushed}
use Rattle.history.specs.Examples.{answers, expected}
use Rattle.clocks.specs.declared.event.Event.{Event}
use Rattle.clocks.specs.declared.id.Disambiguator.TheVariants.{Absent}

-- the events of G with their versions, all for revision 0
abbrev pub note : ℕ → ℕ → ℕ → ℕ → Event
note r s l p = record { id = record { idx = record { 0 = r }; seq = s; disambiguator = Absent }; lamport = l; op = p; revision = 0 }

abbrev pub add_a : EventGraph → EventGraph
add_a g = (appended g (note 0 1 1 10) (1 ∷ 0 ∷ 0 ∷ [])).graph

abbrev pub add_b : EventGraph → EventGraph
add_b g = (appended g (note 1 1 2 11) (1 ∷ 1 ∷ 0 ∷ [])).graph

abbrev pub add_c : EventGraph → EventGraph
add_c g = (appended g (note 2 1 2 12) (1 ∷ 0 ∷ 1 ∷ [])).graph

abbrev pub add_d : EventGraph → EventGraph
add_d g = (appended g (note 0 2 3 13) (2 ∷ 1 ∷ 1 ∷ [])).graph

abbrev pub fresh : EventGraph
fresh = (created 3).graph

abbrev pub graph_g : EventGraph
graph_g = add_d (add_c (add_b (add_a fresh)))

-- G after the flush at [1,1,1], and without b
abbrev pub flushed_g : EventGraph
flushed_g = (flushed graph_g (1 ∷ 1 ∷ 1 ∷ [])).graph

abbrev pub without_b : EventGraph
without_b = (without_id graph_g (note 1 1 2 11).id).graph

-- two lists of numbers are the same
abbrev pub is : List ℕ → List ℕ → Bool
is [] [] = true
is [] (y ∷ ys) = false
is (x ∷ xs) [] = false
is (x ∷ xs) (y ∷ ys) = eqb x y && is xs ys

-- the recorded cuts as lengths, the positions of an event's parents, and a found frontier's R entries
abbrev pub cuts_of : EventGraph → List ℕ
cuts_of g = list_below (has g.cuts) (λ k. k + 1) 256

abbrev pub parents_of : EventGraph → Event → List ℕ
parents_of g e = list_below (parents g (place_of g e.id)) (λ k. k) 256

abbrev pub gives : FrontierFound → List ℕ → Bool
gives r v = r.found && is (take 3 r.frontier.entries) v

-- the starred examples of G, in document 01's order
abbrev pub starred : List Bool
starred =
    is (cuts_of (add_a fresh)) (1 ∷ [])
    ∷ is (cuts_of (add_b (add_a fresh))) (1 ∷ 2 ∷ [])
    ∷ is (cuts_of (add_c (add_b (add_a fresh)))) (1 ∷ 3 ∷ [])
    ∷ is (cuts_of graph_g) (1 ∷ 3 ∷ 4 ∷ [])
    ∷ is (cuts_of (add_d (add_b (add_c (add_a fresh))))) (1 ∷ 3 ∷ 4 ∷ [])
    ∷ gives (greatest graph_g (1 ∷ 1 ∷ 1 ∷ [])) (1 ∷ 1 ∷ 1 ∷ [])
    ∷ not (greatest graph_g (0 ∷ 1 ∷ 1 ∷ [])).found
    ∷ not (is_critical graph_g (1 ∷ 1 ∷ 0 ∷ []))
    ∷ is_critical graph_g (0 ∷ 0 ∷ 0 ∷ [])
    ∷ is_critical flushed_g (1 ∷ 1 ∷ 1 ∷ [])
    ∷ not (is_critical flushed_g (0 ∷ 0 ∷ 0 ∷ []))
    ∷ not (greatest flushed_g (1 ∷ 1 ∷ 0 ∷ [])).found
    ∷ is (cuts_of without_b) (1 ∷ 2 ∷ 3 ∷ [])
    ∷ is (parents_of without_b (note 0 2 3 13)) (1 ∷ [])
    ∷ is (parents_of without_b (note 2 1 2 12)) (0 ∷ [])
    ∷ eqb (refusal_of (add_b fresh) (note 0 1 1 10).id 0 (1 ∷ 0 ∷ 0 ∷ [])) late_no
    ∷ eqb (refusal_of (add_b (add_a fresh)) (note 2 1 2 12).id 0 (0 ∷ 1 ∷ 1 ∷ [])) not_closed_no
    ∷ []

-- every test of a table holds
abbrev pub holds : List Bool → Bool
holds [] = true
holds (t ∷ ts) = t && holds ts

-- what was answered, row by row, against what is expected; more or fewer rows than expected is a row that fails
abbrev pub compared : List (List ℕ) → List (List ℕ) → List Bool
compared [] [] = []
compared [] (y ∷ ys) = false ∷ []
compared (x ∷ xs) [] = false ∷ []
compared (x ∷ xs) (y ∷ ys) = is x y ∷ compared xs ys

-- the table: the seventeen rows of G, then the seven of H
abbrev pub table : List Bool
table = starred ++ compared answers expected

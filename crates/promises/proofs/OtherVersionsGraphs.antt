-- The graphs of the logs that differ in the last versions (OtherVersions.antt), each written out: the checker computes each call once, from one to the next.
use mathlib.Core.Bool.{Bool, true, false, ◌&&◌, not}
use mathlib.Core.Path.{◌≡◌, refl, sym, ap, ◌∙◌, fun_ext}
use mathlib.Core.List.{List, [], ◌∷◌, ◌++◌}
use mathlib.Core.Logic.{⊎_elim}
use Prim.Native.Nat.{ℕ, ◌<◌}
use native.Mathlib.Decide.{ℕ_discrete}
use native.Mathlib.Omega.{arith}
use lib.Dec.{ltb, eqb}
use lib.ListN.{replicate}
use borrow.Author.Tests.{ltb-true, eqb-false, not-true}
use Rattle.laws.specs.Counting.{pick, count_below, any_below, all_below, first_below, max_below}
use Rattle.laws.specs.Lists.{list_below, tabulate, concat_below, written}
use Rattle.clocks.specs.Vectors.{well_formed, well_formed_for, at_most}
use Rattle.clocks.specs.Frontiers.{new_frontier, join_entries, zeros}
use Rattle.positions.specs.Bits.{bit}
use Rattle.positions.specs.Members.{has, set_of, number_of}
use Rattle.positions.specs.Compacting.{moves}
use Rattle.positions.proofs.Sets.{has-set}
use Rattle.positions.proofs.Words.{none as nobody-has}
use Rattle.laws.proofs.Searching.{any_none}
use Rattle.laws.proofs.Orders.{and_both, true-or-false}
use Rattle.tables.specs.Slots.{same_slot, is_at, covered_at, row_at, past_of}
use Rattle.graph.specs.Whole.{EventGraph}
use Rattle.graph.specs.Refusals.{is_known, sibling_last, follows_sibling, is_late, is_mixed, is_behind, is_not_closed, refusal_of}
use Rattle.graph.specs.Graphs.{created, pushed, place_of}
use Rattle.tables.specs.Ranks.{highest_seq, cut_at, closed, closed_rows}
use Rattle.graph.specs.Seen.{recounted}
use Rattle.graph.specs.Removals.{kept, without_id}
use Rattle.positions.specs.declared.Positions.{Positions}
use Rattle.clocks.specs.declared.event.Event.{Event}
use Rattle.clocks.specs.declared.id.Disambiguator.{Disambiguator}
use Rattle.clocks.specs.declared.id.Disambiguator.TheVariants.{Absent, Number}

abbrev note : ℕ → Disambiguator → ℕ → Event
note r d p = record { id = record { idx = record { 0 = r }; seq = 1; disambiguator = d }; lamport = 2; op = p; revision = 0 }

abbrev pub note_b : Event
note_b = note 1 Absent 10

abbrev pub note_x : Event
note_x = note 0 Absent 11

-- the sibling 0 of x
abbrev pub sibling : Event
sibling = note 0 (Number 0) 12

-- ---- the graphs, written out: b, b and x, and the sibling behind them

abbrev pub one : EventGraph
one = pushed (created 2).graph note_b (0 ∷ 1 ∷ [])

abbrev pub two : EventGraph
two = record {
  held = 2;
  replicas = 1 ∷ 0 ∷ replicate 254 0;
  seqs = 1 ∷ 1 ∷ replicate 254 0;
  codes = replicate 256 0;
  lamports = 2 ∷ 2 ∷ replicate 254 0;
  ops = 10 ∷ 11 ∷ replicate 254 0;
  revisions = replicate 256 0;
  pasts = replicate 1024 0;
  rooted = false;
  roots = zeros 2;
  named = record { len = 2; entries = 1 ∷ 1 ∷ replicate 14 0 };
  cuts = record { words = 2 ∷ 0 ∷ 0 ∷ 0 ∷ [] };
  highs = 1 ∷ 1 ∷ replicate 14 0;
}

pub b-taken : refusal_of (created 2).graph note_b.id 0 (0 ∷ 1 ∷ []) ≡ 0
unfolding any_below all_below tabulate well_formed well_formed_for at_most new_frontier join_entries bit has set_of number_of same_slot is_at covered_at row_at past_of is_known sibling_last follows_sibling is_late is_mixed is_behind is_not_closed refusal_of created pushed
b-taken = refl

pub x-taken : refusal_of one note_x.id 0 (1 ∷ 0 ∷ []) ≡ 0
unfolding any_below all_below tabulate well_formed well_formed_for at_most new_frontier join_entries bit has set_of number_of same_slot is_at covered_at row_at past_of is_known sibling_last follows_sibling is_late is_mixed is_behind is_not_closed refusal_of created pushed
x-taken = refl

pub two_is : pushed one note_x (1 ∷ 0 ∷ []) ≡ two
unfolding all_below tabulate new_frontier join_entries bit has set_of number_of covered_at created pushed
two_is = refl

-- the sibling's ancestors and the cuts are words: bits 0, 1 and 2 stand for b, x and the sibling
abbrev pub three : ℕ → ℕ → EventGraph
three past cuts = record {
  held = 3;
  replicas = 1 ∷ 0 ∷ replicate 254 0;
  seqs = 1 ∷ 1 ∷ 1 ∷ replicate 253 0;
  codes = 0 ∷ 0 ∷ 1 ∷ replicate 253 0;
  lamports = 2 ∷ 2 ∷ 2 ∷ replicate 253 0;
  ops = 10 ∷ 11 ∷ 12 ∷ replicate 253 0;
  revisions = replicate 256 0;
  pasts = replicate 8 0 ++ (past ∷ replicate 1015 0);
  rooted = false;
  roots = zeros 2;
  named = record { len = 2; entries = 1 ∷ 1 ∷ replicate 14 0 };
  cuts = record { words = cuts ∷ 0 ∷ 0 ∷ 0 ∷ [] };
  highs = 1 ∷ 1 ∷ replicate 14 0;
}

pub taken-without : refusal_of two sibling.id 0 (1 ∷ 0 ∷ []) ≡ 0
unfolding any_below all_below well_formed well_formed_for bit has same_slot is_at covered_at row_at past_of is_known sibling_last follows_sibling is_late is_mixed is_behind is_not_closed refusal_of
taken-without = refl

pub taken-with : refusal_of two sibling.id 0 (1 ∷ 1 ∷ []) ≡ 0
unfolding any_below all_below well_formed well_formed_for bit has same_slot is_at covered_at row_at past_of is_known sibling_last follows_sibling is_late is_mixed is_behind is_not_closed refusal_of
taken-with = refl

pub three-without : pushed two sibling (1 ∷ 0 ∷ []) ≡ three 2 4
unfolding all_below tabulate join_entries bit has set_of number_of covered_at pushed
three-without = refl

pub three-with : pushed two sibling (1 ∷ 1 ∷ []) ≡ three 3 6
unfolding all_below tabulate join_entries bit has set_of number_of covered_at pushed
three-with = refl

sibling-place : (past cuts : ℕ) → place_of (three past cuts) sibling.id ≡ 2
unfolding first_below any_below same_slot is_at place_of
sibling-place past cuts = refl

-- ---- without the sibling it is as before, whatever its version was

-- the slots that stay
abbrev keeps : ℕ → Bool
keeps k = ltb k 3 && not (eqb k 2)

-- slots 0 and 1, as a set
abbrev first_two : Positions
first_two = record { words = 3 ∷ 0 ∷ 0 ∷ 0 ∷ [] }

keep-count : count_below keeps 256 ≡ 2
unfolding count_below
keep-count = refl

keep-set : set_of keeps ≡ first_two
unfolding set_of tabulate number_of
keep-set = refl

keep-replicas : closed keeps (three 0 0).replicas ≡ two.replicas
unfolding list_below closed
keep-replicas = refl

keep-seqs : closed keeps (three 0 0).seqs ≡ two.seqs
unfolding list_below closed
keep-seqs = refl

keep-codes : closed keeps (three 0 0).codes ≡ two.codes
unfolding list_below closed
keep-codes = refl

keep-lamports : closed keeps (three 0 0).lamports ≡ two.lamports
unfolding list_below closed
keep-lamports = refl

keep_ops : closed keeps (three 0 0).ops ≡ two.ops
unfolding list_below closed
keep_ops = refl

keep-revisions : closed keeps (three 0 0).revisions ≡ two.revisions
unfolding list_below closed
keep-revisions = refl

-- no ancestors, and none of them move
abbrev nobody : Positions
nobody = record { words = 0 ∷ 0 ∷ 0 ∷ 0 ∷ [] }

none-set : set_of (λ j. false) ≡ nobody
unfolding set_of tabulate number_of
none-set = refl

none-move : set_of (λ j. any_below (moves nobody first_two j) 256) ≡ nobody
none-move = ap set_of (fun_ext (λ j. any_none (moves nobody first_two j) 256 (λ k l. rw (nobody-has k)))) ∙ none-set

abbrev row_of : List ℕ → ℕ → List ℕ
row_of pasts k = pick (has first_two k) (set_of (λ j. any_below (moves (row_at pasts k) first_two j) 256)).words []

row-none : (pasts : List ℕ) (k : ℕ) → row_at pasts k ≡ nobody → row_of pasts k ≡ pick (has first_two k) nobody.words []
row-none pasts k e = rw (e, none-move)

kept_small : (k : ℕ) → has first_two k ≡ true → k < 2
kept_small k e =
    let t : has (set_of keeps) k ≡ true = rw keep-set e in
    let w = (and_both (ltb k 256) (keeps k) (sym (has-set keeps k) ∙ t)).1 in
    let u = and_both (ltb k 3) (not (eqb k 2)) w in
    omega (arith, ltb-true k 3 u.0, eqb-false k 2 (not-true (eqb k 2) u.1))

row-0 : (past : ℕ) → row_at (three past 0).pasts 0 ≡ nobody
unfolding row_at
row-0 past = refl

row-1 : (past : ℕ) → row_at (three past 0).pasts 1 ≡ nobody
unfolding row_at
row-1 past = refl

rows_same : (past k : ℕ) → row_of (three past 0).pasts k ≡ pick (has first_two k) nobody.words []
rows_same past k = ⊎_elim
    (λ (t : has first_two k ≡ true). elim (ℕ_discrete k 0) [
      | yes z ↦ row-none (three past 0).pasts k (ap (row_at (three past 0).pasts) z ∙ row-0 past)
      | no z ↦ row-none (three past 0).pasts k (ap (row_at (three past 0).pasts) (omega (arith, kept_small k t)) ∙ row-1 past)
    ])
    (λ (z : has first_two k ≡ false). rw z) (true-or-false (has first_two k))

none_rows : written (concat_below (λ k. pick (has first_two k) nobody.words []) 256) (replicate 1024 0) ≡ two.pasts
unfolding concat_below has bit
none_rows = refl

keep-rows : (past : ℕ) → closed_rows first_two (three past 0).pasts ≡ two.pasts
unfolding closed_rows
keep-rows past = ap (λ (f : ℕ → List ℕ). written (concat_below f 256) (replicate 1024 0)) (fun_ext (rows_same past)) ∙ none_rows

keep-cuts : set_of (cut_at 2 two.pasts) ≡ two.cuts
unfolding set_of tabulate number_of cut_at all_below has row_at bit
keep-cuts = refl

back : (past cuts : ℕ) → kept (three past cuts) keeps ≡ two
unfolding kept
back past cuts = rw (
  keep-count,
  keep-set,
  keep-replicas,
  keep-seqs,
  keep-codes,
  keep-lamports,
  keep_ops,
  keep-revisions,
  keep-rows past,
  keep-cuts,
)

-- the highest held sequences, counted anew
highs-back : recounted two ≡ two
unfolding tabulate highest_seq max_below
highs-back = refl

pub removes : (past cuts : ℕ) → (without_id (three past cuts) sibling.id).graph ≡ two
unfolding without_id
removes past cuts = rw (sibling-place past cuts) (ap recounted (back past cuts) ∙ highs-back)

-- The starred examples of graph G, for Examples.antt. The checker computes each row by itself.
use mathlib.Core.Bool.{true, not}
use mathlib.Core.Path.{◌≡◌, refl}
use mathlib.Core.List.{[], ◌∷◌}
use lib.Dec.{eqb}
use Rattle.laws.specs.Counting.{count_below, any_below, all_below, last_below, first_below, max_below}
use Rattle.laws.specs.Lists.{list_below, tabulate, concat_below}
use Rattle.clocks.specs.Vectors.{well_formed, well_formed_for, covers, at_most}
use Rattle.clocks.specs.Frontiers.{new_frontier, from_entries, join_entries}
use Rattle.positions.specs.Bits.{bit}
use Rattle.positions.specs.Members.{has, set_of, number_of}
use Rattle.tables.specs.Slots.{same_slot, is_at, covered_at, row_at, past_of}
use Rattle.graph.specs.Refusals.{is_known, sibling_last, follows_sibling, is_late, is_mixed, is_behind, is_not_closed, refusal_of, late_no, not_closed_no}
use Rattle.graph.specs.Graphs.{created, pushed, appended, place_of}
use Rattle.tables.specs.Ranks.{cut_at, highest_seq, closed, closed_rows}
use Rattle.graph.specs.Cuts.{prefix_frontier, cut_inside, greatest, is_critical}
use Rattle.graph.specs.Removals.{kept, without_id, flushed}
use Rattle.examples.specs.Examples.{starred, holds, is, gives, cuts_of, parents_of, fresh, add_a, add_b, add_c, add_d, graph_g, flushed_g, without_b, note}

t0 : (is (cuts_of (add_a fresh)) (1 ∷ [])) ≡ true
unfolding count_below any_below all_below last_below first_below max_below list_below tabulate concat_below well_formed well_formed_for covers at_most new_frontier from_entries join_entries bit has set_of number_of same_slot is_at covered_at row_at past_of is_known sibling_last follows_sibling is_late is_mixed is_behind is_not_closed refusal_of created pushed appended place_of cut_at highest_seq prefix_frontier cut_inside greatest is_critical closed closed_rows kept without_id flushed
t0 = refl

t1 : (is (cuts_of (add_b (add_a fresh))) (1 ∷ 2 ∷ [])) ≡ true
unfolding count_below any_below all_below last_below first_below max_below list_below tabulate concat_below well_formed well_formed_for covers at_most new_frontier from_entries join_entries bit has set_of number_of same_slot is_at covered_at row_at past_of is_known sibling_last follows_sibling is_late is_mixed is_behind is_not_closed refusal_of created pushed appended place_of cut_at highest_seq prefix_frontier cut_inside greatest is_critical closed closed_rows kept without_id flushed
t1 = refl

t2 : (is (cuts_of (add_c (add_b (add_a fresh)))) (1 ∷ 3 ∷ [])) ≡ true
unfolding count_below any_below all_below last_below first_below max_below list_below tabulate concat_below well_formed well_formed_for covers at_most new_frontier from_entries join_entries bit has set_of number_of same_slot is_at covered_at row_at past_of is_known sibling_last follows_sibling is_late is_mixed is_behind is_not_closed refusal_of created pushed appended place_of cut_at highest_seq prefix_frontier cut_inside greatest is_critical closed closed_rows kept without_id flushed
t2 = refl

t3 : (is (cuts_of graph_g) (1 ∷ 3 ∷ 4 ∷ [])) ≡ true
unfolding count_below any_below all_below last_below first_below max_below list_below tabulate concat_below well_formed well_formed_for covers at_most new_frontier from_entries join_entries bit has set_of number_of same_slot is_at covered_at row_at past_of is_known sibling_last follows_sibling is_late is_mixed is_behind is_not_closed refusal_of created pushed appended place_of cut_at highest_seq prefix_frontier cut_inside greatest is_critical closed closed_rows kept without_id flushed
t3 = refl

t4 : (is (cuts_of (add_d (add_b (add_c (add_a fresh))))) (1 ∷ 3 ∷ 4 ∷ [])) ≡ true
unfolding count_below any_below all_below last_below first_below max_below list_below tabulate concat_below well_formed well_formed_for covers at_most new_frontier from_entries join_entries bit has set_of number_of same_slot is_at covered_at row_at past_of is_known sibling_last follows_sibling is_late is_mixed is_behind is_not_closed refusal_of created pushed appended place_of cut_at highest_seq prefix_frontier cut_inside greatest is_critical closed closed_rows kept without_id flushed
t4 = refl

t5 : (gives (greatest graph_g (1 ∷ 1 ∷ 1 ∷ [])) (1 ∷ 1 ∷ 1 ∷ [])) ≡ true
unfolding count_below any_below all_below last_below first_below max_below list_below tabulate concat_below well_formed well_formed_for covers at_most new_frontier from_entries join_entries bit has set_of number_of same_slot is_at covered_at row_at past_of is_known sibling_last follows_sibling is_late is_mixed is_behind is_not_closed refusal_of created pushed appended place_of cut_at highest_seq prefix_frontier cut_inside greatest is_critical closed closed_rows kept without_id flushed
t5 = refl

t6 : (not (greatest graph_g (0 ∷ 1 ∷ 1 ∷ [])).found) ≡ true
unfolding count_below any_below all_below last_below first_below max_below list_below tabulate concat_below well_formed well_formed_for covers at_most new_frontier from_entries join_entries bit has set_of number_of same_slot is_at covered_at row_at past_of is_known sibling_last follows_sibling is_late is_mixed is_behind is_not_closed refusal_of created pushed appended place_of cut_at highest_seq prefix_frontier cut_inside greatest is_critical closed closed_rows kept without_id flushed
t6 = refl

t7 : (not (is_critical graph_g (1 ∷ 1 ∷ 0 ∷ []))) ≡ true
unfolding count_below any_below all_below last_below first_below max_below list_below tabulate concat_below well_formed well_formed_for covers at_most new_frontier from_entries join_entries bit has set_of number_of same_slot is_at covered_at row_at past_of is_known sibling_last follows_sibling is_late is_mixed is_behind is_not_closed refusal_of created pushed appended place_of cut_at highest_seq prefix_frontier cut_inside greatest is_critical closed closed_rows kept without_id flushed
t7 = refl

t8 : (is_critical graph_g (0 ∷ 0 ∷ 0 ∷ [])) ≡ true
unfolding count_below any_below all_below last_below first_below max_below list_below tabulate concat_below well_formed well_formed_for covers at_most new_frontier from_entries join_entries bit has set_of number_of same_slot is_at covered_at row_at past_of is_known sibling_last follows_sibling is_late is_mixed is_behind is_not_closed refusal_of created pushed appended place_of cut_at highest_seq prefix_frontier cut_inside greatest is_critical closed closed_rows kept without_id flushed
t8 = refl

t9 : (is_critical flushed_g (1 ∷ 1 ∷ 1 ∷ [])) ≡ true
unfolding count_below any_below all_below last_below first_below max_below list_below tabulate concat_below well_formed well_formed_for covers at_most new_frontier from_entries join_entries bit has set_of number_of same_slot is_at covered_at row_at past_of is_known sibling_last follows_sibling is_late is_mixed is_behind is_not_closed refusal_of created pushed appended place_of cut_at highest_seq prefix_frontier cut_inside greatest is_critical closed closed_rows kept without_id flushed
t9 = refl

t10 : (not (is_critical flushed_g (0 ∷ 0 ∷ 0 ∷ []))) ≡ true
unfolding count_below any_below all_below last_below first_below max_below list_below tabulate concat_below well_formed well_formed_for covers at_most new_frontier from_entries join_entries bit has set_of number_of same_slot is_at covered_at row_at past_of is_known sibling_last follows_sibling is_late is_mixed is_behind is_not_closed refusal_of created pushed appended place_of cut_at highest_seq prefix_frontier cut_inside greatest is_critical closed closed_rows kept without_id flushed
t10 = refl

t11 : (not (greatest flushed_g (1 ∷ 1 ∷ 0 ∷ [])).found) ≡ true
unfolding count_below any_below all_below last_below first_below max_below list_below tabulate concat_below well_formed well_formed_for covers at_most new_frontier from_entries join_entries bit has set_of number_of same_slot is_at covered_at row_at past_of is_known sibling_last follows_sibling is_late is_mixed is_behind is_not_closed refusal_of created pushed appended place_of cut_at highest_seq prefix_frontier cut_inside greatest is_critical closed closed_rows kept without_id flushed
t11 = refl

t12 : (is (cuts_of without_b) (1 ∷ 2 ∷ 3 ∷ [])) ≡ true
unfolding count_below any_below all_below last_below first_below max_below list_below tabulate concat_below well_formed well_formed_for covers at_most new_frontier from_entries join_entries bit has set_of number_of same_slot is_at covered_at row_at past_of is_known sibling_last follows_sibling is_late is_mixed is_behind is_not_closed refusal_of created pushed appended place_of cut_at highest_seq prefix_frontier cut_inside greatest is_critical closed closed_rows kept without_id flushed
t12 = refl

t13 : (is (parents_of without_b (note 0 2 3 13)) (1 ∷ [])) ≡ true
unfolding count_below any_below all_below last_below first_below max_below list_below tabulate concat_below well_formed well_formed_for covers at_most new_frontier from_entries join_entries bit has set_of number_of same_slot is_at covered_at row_at past_of is_known sibling_last follows_sibling is_late is_mixed is_behind is_not_closed refusal_of created pushed appended place_of cut_at highest_seq prefix_frontier cut_inside greatest is_critical closed closed_rows kept without_id flushed
t13 = refl

t14 : (is (parents_of without_b (note 2 1 2 12)) (0 ∷ [])) ≡ true
unfolding count_below any_below all_below last_below first_below max_below list_below tabulate concat_below well_formed well_formed_for covers at_most new_frontier from_entries join_entries bit has set_of number_of same_slot is_at covered_at row_at past_of is_known sibling_last follows_sibling is_late is_mixed is_behind is_not_closed refusal_of created pushed appended place_of cut_at highest_seq prefix_frontier cut_inside greatest is_critical closed closed_rows kept without_id flushed
t14 = refl

t15 : (eqb (refusal_of (add_b fresh) (note 0 1 1 10).id 0 (1 ∷ 0 ∷ 0 ∷ [])) late_no) ≡ true
unfolding count_below any_below all_below last_below first_below max_below list_below tabulate concat_below well_formed well_formed_for covers at_most new_frontier from_entries join_entries bit has set_of number_of same_slot is_at covered_at row_at past_of is_known sibling_last follows_sibling is_late is_mixed is_behind is_not_closed refusal_of created pushed appended place_of cut_at highest_seq prefix_frontier cut_inside greatest is_critical closed closed_rows kept without_id flushed
t15 = refl

t16 : (eqb (refusal_of (add_b (add_a fresh)) (note 2 1 2 12).id 0 (0 ∷ 1 ∷ 1 ∷ [])) not_closed_no) ≡ true
unfolding count_below any_below all_below last_below first_below max_below list_below tabulate concat_below well_formed well_formed_for covers at_most new_frontier from_entries join_entries bit has set_of number_of same_slot is_at covered_at row_at past_of is_known sibling_last follows_sibling is_late is_mixed is_behind is_not_closed refusal_of created pushed appended place_of cut_at highest_seq prefix_frontier cut_inside greatest is_critical closed closed_rows kept without_id flushed
t16 = refl

pub graph-examples : holds starred ≡ true
graph-examples = rw (t0, t1, t2, t3, t4, t5, t6, t7, t8, t9, t10, t11, t12, t13, t14, t15, t16)

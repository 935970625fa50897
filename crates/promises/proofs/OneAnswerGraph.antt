-- No second answer fits the contract of a public function of `graph`, one statement for each; `Post` as in OneAnswerClocks.antt. A list call answers the
-- same and leaves the same in the buffer, a change the same in both tables.
use mathlib.Core.List.{List, []}
use mathlib.Core.Bool.{true≢false, false≢true}
use mathlib.Core.Path.{◌≡◌, refl, sym, ap, ◌∙◌}
use Prim.Native.Nat.{ℕ}
use lib.ListN.{length}
use Rattle.std.specs.Prelude.{Result, Ok, Err, Option, Some, None, is_some, unwrap_or}
use Rattle.laws.specs.Counting.{pick}
use Rattle.clocks.specs.Refusals.{number_in}
use Rattle.clocks.specs.Frontiers.{zeros}
use Rattle.graph.specs.Whole.{EventGraph, GraphAnswer, Removed, columns, empty_slots, empty_pasts, whole, answered, count_in, leaves}
use Rattle.graph.specs.Graphs.{made}
use Rattle.graph.specs.Cuts.{FrontierFound, found_by}
use Rattle.graph.specs.Removals.{removed}
use Rattle.clocks.proofs.Refusals.{number-some, same-answer, same-refusal}
use Rattle.graph.specs.Advances.{Advanced, advances}
use Rattle.graph.proofs.ColumnLaws.{slots_same}
use Rattle.graph.proofs.append.is_behind.Reads.{Post as is-behind}
use Rattle.graph.proofs.append.empty_graph.Reads.{Post as empty-graph}
use Rattle.graph.proofs.EventGraph.get.Reads.{Post as get}
use Rattle.graph.proofs.EventGraph.event_at.Reads.{Post as event-at}
use Rattle.graph.proofs.EventGraph.delivery_order.Reads.{Post as delivery-order}
use Rattle.graph.proofs.EventGraph.len.Reads.{Post as len}
use Rattle.graph.proofs.EventGraph.is_empty.Reads.{Post as is-empty}
use Rattle.graph.proofs.EventGraph.roots.Reads.{Post as roots}
use Rattle.graph.proofs.EventGraph.named.Reads.{Post as named}
use Rattle.graph.proofs.EventGraph.greatest_critical_frontier.Reads.{Post as greatest-critical-frontier}
use Rattle.graph.proofs.EventGraph.is_critical.Reads.{Post as is-critical}
use Rattle.graph.proofs.EventGraph.seen_all.Reads.{Post as seen_all}
use Rattle.graph.proofs.EventGraph.predecessors.Reads.{Post as predecessors}
use Rattle.graph.proofs.EventGraph.concurrent.Reads.{Post as concurrent}
use Rattle.graph.proofs.EventGraph.iter.Reads.{Post as iter}
use Rattle.graph.proofs.EventGraph.replica_events.Reads.{Post as replica-events}
use Rattle.graph.proofs.EventGraph.direct_predecessors.Reads.{Post as direct-predecessors}
use Rattle.graph.proofs.EventGraph.frontier.Reads.{Post as frontier}
use Rattle.graph.proofs.EventGraph.cuts.Reads.{Post as cuts}
use Rattle.graph.proofs.EventGraph.new.Reads.{Post as new}
use Rattle.graph.proofs.EventGraph.from_checkpoint.Reads.{Post as from-checkpoint}
use Rattle.graph.proofs.EventGraph.append.Reads.{Post as append}
use Rattle.graph.proofs.EventGraph.remove.Reads.{Post as remove}
use Rattle.graph.proofs.EventGraph.retain.Reads.{Post as retain}
use Rattle.graph.proofs.EventGraph.prune_predecessors.Reads.{Post as prune-predecessors}
use Rattle.graph.proofs.EventGraph.advance.Reads.{Post as advance}
use Rattle.graph.proofs.EventGraph.raise.Reads.{Post as raise}
use Rattle.graph.proofs.EventGraph.clear.Reads.{Post as clear}
use Rattle.graph.specs.declared.EventGraph.{EventGraph as Small}
use Rattle.clocks.specs.declared.causal_frontier.CausalFrontier.{CausalFrontier}
use Rattle.clocks.specs.declared.refusal.Refusal.{Refusal}
use Rattle.graph.specs.declared.advance.Advanced.{Advanced as SmallAdvanced}
use Rattle.promises.proofs.OneAnswer.{one_answer, writes-once, lists-if-once, Once, OnceWith}

-- ---- a graph that is lent with its tables: where the slots have as many columns as their type says, the answers are equal, and so are the graph and both tables that are left

abbrev OnceTables : {K : Type 0} {A R S : K → Type 0} → ((κs : K) → A κs → R κs → S κs → Type 0) → ((κs : K) → S κs → Small) → ((κs : K) → S κs → List (List ℕ)) → ((κs : K) → S κs → List ℕ) → Type 0
OnceTables {K} {A} {R} {S} P g b c =
    (κs : K) (a : A κs) (x y : R κs) (s t : S κs) → length (b κs s) ≡ columns → length (b κs t) ≡ columns → P κs a x s → P κs a y t
    → (x ≡ y) × (g κs s ≡ g κs t) × (b κs s ≡ b κs t) × (c κs s ≡ c κs t)

-- without tables
abbrev OnceGraph : {K : Type 0} {A R S : K → Type 0} → ((κs : K) → A κs → R κs → S κs → Type 0) → ((κs : K) → S κs → Small) → Type 0
OnceGraph {K} {A} {R} {S} P g = (κs : K) (a : A κs) (x y : R κs) (s t : S κs) → P κs a x s → P κs a y t → (x ≡ y) × (g κs s ≡ g κs t)

-- what of a graph is in the struct
abbrev pub small : EventGraph → Small
small g = record { held = g.held; roots = pick g.rooted (Some g.roots) None; named = g.named; cuts = g.cuts; highs = g.highs }

roots-back : (roots : Option CausalFrontier) (r : ℕ) → pick (is_some roots) (Some (unwrap_or roots (zeros r))) None ≡ roots
roots-back (Some f) r = refl
roots-back None r = refl

small-back : (g : Small) (slots : List (List ℕ)) (pasts : List ℕ) → small (whole g slots pasts) ≡ g
small-back g slots pasts = ap (λ (o : Option CausalFrontier). record { held = g.held; roots = o; named = g.named; cuts = g.cuts; highs = g.highs }) (roots-back g.roots g.named.len)

small_same : (g h : Small) (slots slots' : List (List ℕ)) (pasts pasts' : List ℕ) → whole g slots pasts ≡ whole h slots' pasts' → g ≡ h
small_same g h slots slots' pasts pasts' e = sym (small-back g slots pasts) ∙ ap small e ∙ small-back h slots' pasts'

whole-once : (g h : Small) (slots slots' : List (List ℕ)) (pasts pasts' : List ℕ) → length slots ≡ columns → length slots' ≡ columns
    → whole g slots pasts ≡ whole h slots' pasts' → (g ≡ h) × (slots ≡ slots') × (pasts ≡ pasts')
whole-once g h slots slots' pasts pasts' l m e =
    (small_same g h slots slots' pasts pasts' e, slots_same g h slots slots' pasts pasts' l m e, ap (λ (a : EventGraph). a.pasts) e)

-- ---- answers that may be refused, by their numbers

count-once : (x y : Result ℕ Refusal) → number_in x ≡ number_in y → count_in x ≡ count_in y → x ≡ y
count-once (Ok m) (Ok n) e q = ap Ok q
count-once (Ok m) (Err n) e q = absurd (number-some n (sym e))
count-once (Err m) (Ok n) e q = absurd (number-some m e)
count-once (Err m) (Err n) e q = ap Err (same-refusal m n e)

found-once : (r : ℕ) (x y : Result (Option CausalFrontier) Refusal) → found_by r x ≡ found_by r y → x ≡ y
found-once r (Ok (Some f)) (Ok (Some h)) e = ap (λ (a : FrontierFound). Ok (Some a.frontier)) e
found-once r (Ok (Some f)) (Ok None) e = absurd (true≢false (ap (λ (a : FrontierFound). a.found) e))
found-once r (Ok (Some f)) (Err n) e = absurd (true≢false (ap (λ (a : FrontierFound). a.found) e))
found-once r (Ok None) (Ok (Some h)) e = absurd (false≢true (ap (λ (a : FrontierFound). a.found) e))
found-once r (Ok None) (Ok None) e = refl
found-once r (Ok None) (Err n) e = absurd (number-some n (sym (ap (λ (a : FrontierFound). a.refusal) e)))
found-once r (Err m) (Ok (Some h)) e = absurd (false≢true (ap (λ (a : FrontierFound). a.found) e))
found-once r (Err m) (Ok None) e = absurd (number-some m (ap (λ (a : FrontierFound). a.refusal) e))
found-once r (Err m) (Err n) e = ap Err (same-refusal m n (ap (λ (a : FrontierFound). a.refusal) e))

advance-same : (x y : Result (Option SmallAdvanced) Refusal) (g h : Small) (slots slots' : List (List ℕ)) (pasts pasts' : List ℕ) → advances x g slots pasts ≡ advances y h slots' pasts' → x ≡ y
advance-same (Ok (Some a)) (Ok (Some b)) g h s t p q e = ap (λ (z : Advanced). Ok (Some (record { frontier = z.frontier; count = z.count }))) e
advance-same (Ok (Some a)) (Ok None) g h s t p q e = absurd (true≢false (ap (λ (z : Advanced). z.found) e))
advance-same (Ok (Some a)) (Err n) g h s t p q e = absurd (true≢false (ap (λ (z : Advanced). z.found) e))
advance-same (Ok None) (Ok (Some b)) g h s t p q e = absurd (false≢true (ap (λ (z : Advanced). z.found) e))
advance-same (Ok None) (Ok None) g h s t p q e = refl
advance-same (Ok None) (Err n) g h s t p q e = absurd (number-some n (sym (ap (λ (z : Advanced). z.refusal) e)))
advance-same (Err m) (Ok (Some b)) g h s t p q e = absurd (false≢true (ap (λ (z : Advanced). z.found) e))
advance-same (Err m) (Ok None) g h s t p q e = absurd (number-some m (ap (λ (z : Advanced). z.refusal) e))
advance-same (Err m) (Err n) g h s t p q e = ap Err (same-refusal m n (ap (λ (z : Advanced). z.refusal) e))

advance-graph : (x : Result (Option SmallAdvanced) Refusal) (g : Small) (slots : List (List ℕ)) (pasts : List ℕ) → (advances x g slots pasts).graph ≡ whole g slots pasts
advance-graph (Ok (Some a)) g s p = refl
advance-graph (Ok None) g s p = refl
advance-graph (Err m) g s p = refl

made-once : (x y : Result Small Refusal) → made x ≡ made y → x ≡ y
made-once (Ok g) (Ok h) e = ap Ok (small_same g h empty_slots empty_slots empty_pasts empty_pasts (ap (λ (a : GraphAnswer). a.graph) e))
made-once (Ok g) (Err n) e = absurd (number-some n (sym (ap (λ (a : GraphAnswer). a.refusal) e)))
made-once (Err m) (Ok h) e = absurd (number-some m (ap (λ (a : GraphAnswer). a.refusal) e))
made-once (Err m) (Err n) e = ap Err (same-refusal m n (ap (λ (a : GraphAnswer). a.refusal) e))

-- ---- a change of the graph and the tables

answers-once : (x y : Result (Unit {0}) Refusal) (g h : Small) (slots slots' : List (List ℕ)) (pasts pasts' : List ℕ) → length slots ≡ columns → length slots' ≡ columns
    → answered x g slots pasts ≡ answered y h slots' pasts' → (x ≡ y) × (g ≡ h) × (slots ≡ slots') × (pasts ≡ pasts')
answers-once x y g h slots slots' pasts pasts' l m e =
    let w = whole-once g h slots slots' pasts pasts' l m (ap (λ (a : GraphAnswer). a.graph) e) in (same-answer x y (ap (λ (a : GraphAnswer). a.refusal) e), w.0, w.1, w.2)

counts-once : (x y : Result ℕ Refusal) (g h : Small) (slots slots' : List (List ℕ)) (pasts pasts' : List ℕ) → length slots ≡ columns → length slots' ≡ columns
    → leaves x g slots pasts ≡ leaves y h slots' pasts' → (x ≡ y) × (g ≡ h) × (slots ≡ slots') × (pasts ≡ pasts')
counts-once x y g h slots slots' pasts pasts' l m e =
    let w = whole-once g h slots slots' pasts pasts' l m (ap (λ (a : Removed). a.graph) e) in (count-once x y (ap (λ (a : Removed). a.refusal) e) (ap (λ (a : Removed). a.count) e), w.0, w.1, w.2)

-- one that is never refused
removed-once : (x y : ℕ) (g h : Small) (slots slots' : List (List ℕ)) (pasts pasts' : List ℕ) → length slots ≡ columns → length slots' ≡ columns
    → removed 0 x (whole g slots pasts) ≡ removed 0 y (whole h slots' pasts') → (x ≡ y) × (g ≡ h) × (slots ≡ slots') × (pasts ≡ pasts')
removed-once x y g h slots slots' pasts pasts' l m e =
    let w = whole-once g h slots slots' pasts pasts' l m (ap (λ (a : Removed). a.graph) e) in (ap (λ (a : Removed). a.count) e, w.0, w.1, w.2)

advanced-once : (x y : Result (Option SmallAdvanced) Refusal) (g h : Small) (slots slots' : List (List ℕ)) (pasts pasts' : List ℕ) → length slots ≡ columns → length slots' ≡ columns
    → advances x g slots pasts ≡ advances y h slots' pasts' → (x ≡ y) × (g ≡ h) × (slots ≡ slots') × (pasts ≡ pasts')
advanced-once x y g h slots slots' pasts pasts' l m e =
    let w = whole-once g h slots slots' pasts pasts' l m (sym (advance-graph x g slots pasts) ∙ ap (λ (a : Advanced). a.graph) e ∙ advance-graph y h slots' pasts') in (advance-same x y g h slots slots' pasts pasts' e, w.0, w.1, w.2)

-- ---- what append has in public beside it

pub is-behind-once : Once is-behind
is-behind-once κs a x y s t p q = one_answer p q

pub empty-graph-once : Once empty-graph
empty-graph-once κs a x y s t p q = small_same x y empty_slots empty_slots empty_pasts empty_pasts (one_answer p q)

-- ---- what is asked

pub get-once : Once get
get-once κs a x y s t p q = one_answer p q

pub event-at-once : Once event-at
event-at-once κs a x y s t p q = one_answer p q

pub delivery-order-once : Once delivery-order
delivery-order-once κs a x y s t p q = one_answer p q

pub len-once : Once len
len-once κs a x y s t p q = one_answer p q

pub is-empty-once : Once is-empty
is-empty-once κs a x y s t p q = one_answer p q

pub roots-once : Once roots
roots-once κs a x y s t p q = one_answer p q

pub named-once : Once named
named-once κs a x y s t p q = one_answer p q

pub greatest-critical-frontier-once : Once greatest-critical-frontier
greatest-critical-frontier-once κs a x y s t p q = found-once _ x y (one_answer p q)

pub is-critical-once : Once is-critical
is-critical-once κs a x y s t p q = one_answer p q

pub seen-all-once : Once seen_all
seen-all-once κs a x y s t p q = one_answer p q

-- ---- lists

pub predecessors-once : OnceWith predecessors (λ κs s. s.1.1.1.0.now)
predecessors-once κs a x y s t p q = lists-if-once p q

pub concurrent-once : OnceWith concurrent (λ κs s. s.1.1.1.0.now)
concurrent-once κs a x y s t p q = lists-if-once p q

pub iter-once : OnceWith iter (λ κs s. s.1.0.now)
iter-once κs a x y s t p q = writes-once p q

pub replica-events-once : OnceWith replica-events (λ κs s. s.1.1.1.1.1.0.now)
replica-events-once κs a x y s t p q = lists-if-once p q

pub direct-predecessors-once : OnceWith direct-predecessors (λ κs s. s.1.1.1.1.0.now)
direct-predecessors-once κs a x y s t p q = writes-once p q

pub frontier-once : OnceWith frontier (λ κs s. s.1.1.0.now)
frontier-once κs a x y s t p q = writes-once p q

pub cuts-once : OnceWith cuts (λ κs s. s.1.0.now)
cuts-once κs a x y s t p q = writes-once p q

-- ---- what makes or changes a graph

pub new-once : Once new
new-once κs a x y s t p q = made-once x y (one_answer p q)

pub from-checkpoint-once : Once from-checkpoint
from-checkpoint-once κs a x y s t p q = made-once x y (one_answer p q)

pub append-once : OnceTables append (λ κs s. s.0.now) (λ κs s. s.1.1.1.0.now) (λ κs s. s.1.1.1.1.0.now)
append-once κs a x y s t l m p q = answers-once x y _ _ _ _ _ _ l m (one_answer p q)

pub remove-once : OnceTables remove (λ κs s. s.0.now) (λ κs s. s.1.1.0.now) (λ κs s. s.1.1.1.0.now)
remove-once κs a x y s t l m p q = removed-once x y _ _ _ _ _ _ l m (one_answer p q)

pub retain-once : OnceTables retain (λ κs s. s.0.now) (λ κs s. s.1.1.0.now) (λ κs s. s.1.1.1.0.now)
retain-once κs a x y s t l m p q = counts-once x y _ _ _ _ _ _ l m (one_answer p q)

pub prune-predecessors-once : OnceTables prune-predecessors (λ κs s. s.0.now) (λ κs s. s.1.1.0.now) (λ κs s. s.1.1.1.0.now)
prune-predecessors-once κs a x y s t l m p q = counts-once x y _ _ _ _ _ _ l m (one_answer p q)

pub clear-once : OnceTables clear (λ κs s. s.0.now) (λ κs s. s.1.0.now) (λ κs s. s.1.1.0.now)
clear-once κs a x y s t l m p q = removed-once x y _ _ _ _ _ _ l m (one_answer p q)

pub advance-once : OnceTables advance (λ κs s. s.0.now) (λ κs s. s.1.1.0.now) (λ κs s. s.1.1.1.0.now)
advance-once κs a x y s t l m p q = advanced-once x y _ _ _ _ _ _ l m (one_answer p q)

-- its contract speaks of any tables
pub raise-once : OnceGraph raise (λ κs s. s.0.now)
raise-once κs a x y s t p q =
    let e = one_answer (p [] []) (q [] []) in (same-answer x y (ap (λ (a : GraphAnswer). a.refusal) e), small_same _ _ [] [] [] [] (ap (λ (a : GraphAnswer). a.graph) e))

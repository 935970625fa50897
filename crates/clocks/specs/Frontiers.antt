-- Frontiers: R entries in an array of sixteen, and what each call on them answers.
use Rattle.std.specs.Prelude.{◌≡◌, ℕ, ◌≤◌, min, max, Bool, ◌&&◌, ◌||◌, List, length, replicate, ◌==◌, nat_le, nat_lt, slice_set, Result, Ok, Err}
use Rattle.laws.specs.Counting.{pick}
use Rattle.laws.specs.Lists.{tabulate}
use Rattle.clocks.specs.Refusals.{accepted, bad_origin, bad_vector, bad_count, number_of, number_in}
use Rattle.clocks.specs.Vectors.{top, desks, entry, well_formed, at_most}
use Rattle.clocks.specs.declared.causal_frontier.CausalFrontier.{CausalFrontier}
use Rattle.clocks.specs.declared.refusal.Refusal.{Refusal}

-- what a call answers: the refusal number, and the frontier that it hands back. A refusal hands back the one that came in, or an empty one
pub record FrontierAnswer : Type 0 where
  pub refusal : ℕ
  pub frontier : CausalFrontier

-- a frontier that some call made: R within the limits, entries up to the top, and nothing at R and above
pub record FrontierOk (f : CausalFrontier) : Type 0 where
  pub room : f.len ≤ desks
  pub long : length f.entries ≡ desks
  pub high : (i : ℕ) → entry f.entries i ≤ top
  pub rest : (i : ℕ) → f.len ≤ i → entry f.entries i ≡ 0

-- a frontier of R zeros
abbrev pub zeros : ℕ → CausalFrontier
zeros r = record { len = r; entries = replicate 16 0 }

abbrev pub answer : ℕ → CausalFrontier → FrontierAnswer
answer number f = record { refusal = number; frontier = f }

-- the answer of a call that makes a frontier
abbrev pub made : Result CausalFrontier Refusal → FrontierAnswer
made (Ok f) = answer accepted f
made (Err refusal) = answer (number_of refusal) (zeros 0)

-- the answer of a call that changes the caller's frontier, and that frontier after it
abbrev pub answered : Result (Unit {0}) Refusal → CausalFrontier → FrontierAnswer
answered r after = answer (number_in r) after

-- R is 0 or above 16
abbrev pub is_bad_count : ℕ → Bool
is_bad_count r = r == 0 || nat_lt desks r

-- a raise from R to s: 17 also for s below R
abbrev pub is_bad_raise : ℕ → ℕ → Bool
is_bad_raise r s = is_bad_count s || nat_lt s r

-- creation: 17, else zeros
unfoldable pub new_frontier : ℕ → FrontierAnswer
new_frontier r = pick (is_bad_count r) (answer bad_count (zeros 0)) (answer accepted (zeros r))

-- creation from a vector: 17, 3, else its entries
unfoldable pub from_entries : ℕ → List ℕ → FrontierAnswer
from_entries r v =
    pick (is_bad_count r) (answer bad_count (zeros 0))
    (pick (well_formed r v) (answer accepted (record { len = r; entries = tabulate (entry v) desks })) (answer bad_vector (zeros 0)))

-- one entry changed: 1 for a replica R or above, then 3 for a value above the top
unfoldable pub set_by_idx : CausalFrontier → ℕ → ℕ → FrontierAnswer
set_by_idx f i value =
    pick (nat_le f.len i) (answer bad_origin f)
    (pick (nat_lt top value) (answer bad_vector f) (answer accepted (record { len = f.len; entries = slice_set f.entries i value })))

-- the same in the caller's frontier: the number that the call answers, and the frontier after it
pub record SetInPlace (before : CausalFrontier) (i value r : ℕ) (after : CausalFrontier) : Type 0 where
  pub refusal : r ≡ (set_by_idx before i value).refusal
  pub frontier : after ≡ (set_by_idx before i value).frontier

-- entry by entry the greater, or the lesser, of both
unfoldable pub join_entries : List ℕ → List ℕ → List ℕ
join_entries v w = tabulate (λ i. max (entry v i) (entry w i)) desks

unfoldable pub meet_entries : List ℕ → List ℕ → List ℕ
meet_entries v w = tabulate (λ i. min (entry v i) (entry w i)) desks

abbrev pub joined : CausalFrontier → CausalFrontier → CausalFrontier
joined f g = record { len = max f.len g.len; entries = join_entries f.entries g.entries }

abbrev pub met : CausalFrontier → CausalFrontier → CausalFrontier
met f g = record { len = max f.len g.len; entries = meet_entries f.entries g.entries }

-- a version joined to a frontier: 3, else the entrywise maximum
unfoldable pub join_version : CausalFrontier → List ℕ → FrontierAnswer
join_version f v =
    pick (well_formed f.len v) (answer accepted (record { len = f.len; entries = join_entries f.entries v })) (answer bad_vector f)

-- more desks: 17, else R is r and the entries stay, so that new ones are 0
unfoldable pub widened : CausalFrontier → ℕ → FrontierAnswer
widened f r = pick (is_bad_raise f.len r) (answer bad_count f) (answer accepted (record { len = r; entries = f.entries }))

-- as long, and equal in every entry
abbrev pub same_frontier : CausalFrontier → CausalFrontier → Bool
same_frontier f g = f.len == g.len && (at_most f.entries g.entries && at_most g.entries f.entries)

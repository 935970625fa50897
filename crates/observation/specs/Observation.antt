-- What it says of two events that one observes the other, told by the versions alone, whether the events are still retained or not; and what that makes
-- of `previous`, `next` and `newly_observed_by`. An event is a replica and a sequence; W gives the version that each was accepted with.
use Rattle.std.specs.Prelude.{true, List, Option, None, ◌⊎◌, ◌≡◌, ℕ, ◌<◌, ◌≤◌}
use Rattle.clocks.specs.Vectors.{entry}
use Rattle.history.specs.Tables.{row_of}
use Rattle.history.specs.Traces.{held, event_of}
use Rattle.observation.specs.Reached.{Versions}
use Rattle.history.specs.Whole.{EventHistory}
use Rattle.clocks.specs.declared.tagged_op.TaggedOp.{TaggedOp}

-- event (q,t) is strictly in the past of event (r,s): it is one, the version of (r,s) covers it, and it is another one
pub record InPast (W : Versions) (r s q t : ℕ) : Type 0 where
  pub some : 1 ≤ t
  pub seen : t ≤ entry (W r s) q
  pub other : q ≡ r → t ≡ s → ⊥

-- t is the last sequence of q strictly in the past of (r,s), 0 if there is none. The Rust: "`previous(v,r)` returns the event `e` from replica `r` such
-- that `v` has `e` in its causal past and there is no `e'` from `r` such that `e` -> `e'` -> `v`."
pub record IsPrevious (W : Versions) (r s q t : ℕ) : Type 0 where
  pub past : 1 ≤ t → InPast W r s q t
  pub last : (u : ℕ) → InPast W r s q u → u ≤ t

-- t is the first retained sequence of q with (r,s) strictly in its past. The Rust: "`next(v, r)` returns the first event `e` from replica `r` such that
-- `e` has `v` in its causal past."
pub record IsNext (h : EventHistory) (W : Versions) (r s q t : ℕ) : Type 0 where
  pub kept : held h q t ≡ true
  pub past : InPast W q t r s
  pub first : (u : ℕ) → held h q u ≡ true → InPast W q u r s → t ≤ u

-- no retained event of q has (r,s) in its past
abbrev pub NoNext : EventHistory → Versions → ℕ → ℕ → ℕ → Type 0
NoNext h W r s q = (u : ℕ) → held h q u ≡ true → InPast W q u r s → ⊥

-- the answer is the first retained event of q with (r,s) in its past, and None where there is none
abbrev pub TellsNext : EventHistory → List ℕ → Versions → ℕ → ℕ → ℕ → Option TaggedOp → Type 0
TellsNext h notes W r s q f = ((t : ℕ) × IsNext h W r s q t × (f ≡ event_of h notes q t)) ⊎ (NoNext h W r s q × (f ≡ None))

-- (q,t) is strictly in the past of (r,s), and of no earlier event of r. The Rust: "`newly_observed_by(e)` returns the set of event ids `v` for which `e`
-- is the first event issued by `r` that has `v` in its causal past."
pub record NewlyObserves (W : Versions) (r s q t : ℕ) : Type 0 where
  pub past : InPast W r s q t
  pub first : (e : ℕ) → 1 ≤ e → e < s → InPast W r e q t → ⊥

-- x is the row of a retained event that (r,s) is the first of its replica to have in its past
pub record NewRow (h : EventHistory) (W : Versions) (r s x : ℕ) : Type 0 where
  pub replica : ℕ
  pub sequence : ℕ
  pub kept : held h replica sequence ≡ true
  pub newly : NewlyObserves W r s replica sequence
  pub row : x ≡ row_of h replica sequence

-- No second answer fits the contract of a public function of `history`, one statement for each; `Post` as in OneAnswerClocks.antt. A version is lent: its
-- numbers are the same. A call that writes answers the same and leaves the same in every table and buffer.
use mathlib.Core.List.{List, []}
use mathlib.Core.Path.{◌≡◌, refl, sym, ap}
use Prim.Native.Nat.{ℕ}
use Rattle.std.specs.Prelude.{Result, Ok, Err}
use Rattle.clocks.specs.Refusals.{number_in}
use Rattle.clocks.specs.declared.event.Event.{Event}
use Rattle.clocks.specs.declared.refusal.Refusal.{Refusal}
use Rattle.history.specs.Whole.{EventHistory, whole, small}
use Rattle.history.specs.Answers.{HistoryAnswer, Removed, count_in, removal, removal_or}
use Rattle.history.specs.Traces.{made}
use Rattle.history.specs.Appends.{Appends}
use Rattle.history.specs.Lists.{Lists}
use Rattle.history.specs.Prunes.{Prunes, PrunesOr}
use Rattle.history.specs.declared.event_history.EventHistory.{EventHistory as Small}
use Rattle.clocks.proofs.Refusals.{number-some, same-answer, same-refusal, result-once, count-once}
use Rattle.history.proofs.event_history.EventHistory.new.Reads.{Post as new}
use Rattle.history.proofs.event_history.EventHistory.raise.Reads.{Post as raise}
use Rattle.history.proofs.event_history.EventHistory.get.Reads.{Post as get}
use Rattle.history.proofs.event_history.EventHistory.len.Reads.{Post as len}
use Rattle.history.proofs.event_history.EventHistory.is_empty.Reads.{Post as is-empty}
use Rattle.history.proofs.event_history.EventHistory.event_at.Reads.{Post as event-at}
use Rattle.history.proofs.event_history.EventHistory.previous.Reads.{Post as previous}
use Rattle.history.proofs.event_history.EventHistory.next.Reads.{Post as next}
use Rattle.history.proofs.event_history.EventHistory.clear.Reads.{Post as clear}
use Rattle.history.proofs.event_history.EventHistory.version.Reads.{Post as version}
use Rattle.history.proofs.event_history.EventHistory.last_version.Reads.{Post as last-version}
use Rattle.history.proofs.event_history.EventHistory.predecessors.Reads.{Post as predecessors}
use Rattle.history.proofs.event_history.EventHistory.concurrent.Reads.{Post as concurrent}
use Rattle.history.proofs.event_history.EventHistory.iter.Reads.{Post as iter}
use Rattle.history.proofs.event_history.EventHistory.replica_events.Reads.{Post as replica-events}
use Rattle.history.proofs.event_history.EventHistory.newly_observed_by.Reads.{Post as newly-observed-by}
use Rattle.history.proofs.event_history.EventHistory.append.Reads.{Post as append}
use Rattle.history.proofs.event_history.EventHistory.remove.Reads.{Post as remove}
use Rattle.history.proofs.event_history.EventHistory.prune_predecessors.Reads.{Post as prune-predecessors}
use Rattle.history.proofs.event_history.EventHistory.retain.Reads.{Post as retain}
use Rattle.promises.proofs.OneAnswer.{one_answer, Once, OnceLent, OnceWith}

-- what an answer leaves in a history and in lent tables, as one value: two answers that fit are equal, and leave the same
abbrev pub OnceLeft : {K : Type 0} {A R S : K → Type 0} {B : Type 0} → ((κs : K) → A κs → R κs → S κs → Type 0) → ((κs : K) → S κs → B) → Type 0
OnceLeft {K} {A} {R} {S} P b = (κs : K) (a : A κs) (x y : R κs) (s t : S κs) → P κs a x s → P κs a y t → (x ≡ y) × (b κs s ≡ b κs t)

-- ---- each form of a contract

-- a history that is made
made-once : (x y : Result Small Refusal) → made x ≡ made y → x ≡ y
made-once (Ok h) (Ok g) e = λ i. Ok (e i).history
made-once (Ok h) (Err k) e = absurd (number-some k (ap (λ (a : HistoryAnswer). a.refusal) (sym e)))
made-once (Err k) (Ok g) e = absurd (number-some k (λ i. (e i).refusal))
made-once (Err k) (Err l) e = let n = same-refusal k l (λ i. (e i).refusal) in λ i. Err (n i)

-- nothing but a refusal
-- a list of rows, with the buffer
pub rows-once : {number : ℕ} {rows out a a' : List ℕ} {r r' : Result ℕ Refusal} → Lists number rows out a r → Lists number rows out a' r' → (r ≡ r') × (a ≡ a')
rows-once {r = r} {r'} p q = (count-once r r' _ _ (one_answer p.answer q.answer) refl p.count q.count, one_answer p.content q.content)

-- `append`, with the history, its table of rows, the versions and the notes
pub appends-once : {h : EventHistory} {e : Event} {v versions notes boundaries a b a' b' : List ℕ} (r r' : Result (Unit {0}) Refusal) (g g' : Small) (index index' : List ℕ)
    → Appends h e v versions notes boundaries a b (number_in r) (whole g index)
    → Appends h e v versions notes boundaries a' b' (number_in r') (whole g' index')
    → (r ≡ r') × (◌≡◌ {A = Small × List ℕ × List ℕ × List ℕ} (g, index, a, b) (g', index', a', b'))
appends-once r r' g g' index index' p q =
    let t = one_answer p.trace q.trace in
    let v = one_answer p.row q.row in
    let n = one_answer p.note q.note in
    (same-answer r r' (one_answer p.number q.number), λ i. (small (t i), (t i).index, v i, n i))

-- a removal, with the history and the table of boundary versions
pub prunes-once : {h : EventHistory} {to versions boundaries a a' : List ℕ} (n n' : ℕ) (g g' : Small)
    → Prunes h to versions boundaries a (removal n g) → Prunes h to versions boundaries a' (removal n' g') → (n ≡ n') × (◌≡◌ {A = Small × List ℕ} (g, a) (g', a'))
prunes-once n n' g g' p q =
    let t = one_answer p.trace q.trace in
    let b = one_answer p.boundary q.boundary in
    (one_answer p.removed q.removed, λ i. (small (t i), b i))

-- and one that may refuse
pub prunes-or-once : {number : ℕ} {h : EventHistory} {to versions boundaries a a' : List ℕ} (r r' : Result ℕ Refusal) (g g' : Small)
    → PrunesOr number h to versions boundaries a (removal_or r g) → PrunesOr number h to versions boundaries a' (removal_or r' g')
    → (r ≡ r') × (◌≡◌ {A = Small × List ℕ} (g, a) (g', a'))
prunes-or-once r r' g g' p q =
    let n : count_in r ≡ count_in r' = one_answer p.removed q.removed in
    let t = one_answer p.trace q.trace in
    let b = one_answer p.boundary q.boundary in
    (result-once r r' (one_answer p.refused q.refused) (λ x y e f. rw (e, f) at n), λ i. (small (t i), b i))

-- ---- what is asked

pub new-once : Once new
new-once κs a x y s t p q = made-once x y (one_answer p q)

pub get-once : Once get
get-once κs a x y s t p q = one_answer p q

pub len-once : Once len
len-once κs a x y s t p q = one_answer (p []) (q [])

pub is-empty-once : Once is-empty
is-empty-once κs a x y s t p q = one_answer (p []) (q [])

pub event-at-once : Once event-at
event-at-once κs a x y s t p q = one_answer p q

pub previous-once : Once previous
previous-once κs a x y s t p q = one_answer p q

pub next-once : Once next
next-once κs a x y s t p q = one_answer p q

pub version-once : OnceLent version
version-once κs a x y s t p q = one_answer p q

pub last-version-once : OnceLent last-version
last-version-once κs a x y s t p q = one_answer p q

-- ---- lists

pub predecessors-once : OnceWith predecessors (λ κs s. s.1.1.1.0.now)
predecessors-once κs a x y s t p q = rows-once p q

pub concurrent-once : OnceWith concurrent (λ κs s. s.1.1.1.0.now)
concurrent-once κs a x y s t p q = rows-once p q

pub iter-once : OnceWith iter (λ κs s. s.1.1.0.now)
iter-once κs a x y s t p q = rows-once p q

pub replica-events-once : OnceWith replica-events (λ κs s. s.1.1.1.1.1.0.now)
replica-events-once κs a x y s t p q = rows-once p q

pub newly-observed-by-once : OnceWith newly-observed-by (λ κs s. s.1.1.1.1.1.1.0.now)
newly-observed-by-once κs a x y s t p q = rows-once p q

-- ---- what changes the traces

-- the history, the table of rows, the versions and the notes
pub append-once : OnceLeft {B = Small × List ℕ × List ℕ × List ℕ} append (λ κs s. (s.0.now, s.1.1.1.0.now, s.1.1.1.1.0.now, s.1.1.1.1.1.0.now))
append-once κs a x y s t p q = appends-once x y s.0.now t.0.now s.1.1.1.0.now t.1.1.1.0.now p q

-- the history and the boundary versions
pub remove-once : OnceLeft {B = Small × List ℕ} remove (λ κs s. (s.0.now, s.1.1.1.1.0.now))
remove-once κs a x y s t p q = prunes-once x y s.0.now t.0.now p q

pub prune-predecessors-once : OnceLeft {B = Small × List ℕ} prune-predecessors (λ κs s. (s.0.now, s.1.1.1.1.0.now))
prune-predecessors-once κs a x y s t p q = prunes-or-once x y s.0.now t.0.now p q

pub retain-once : OnceLeft {B = Small × List ℕ} retain (λ κs s. (s.0.now, s.1.1.1.1.0.now))
retain-once κs a x y s t p q = prunes-or-once x y s.0.now t.0.now p q

-- the history alone
pub clear-once : OnceLeft clear (λ κs s. s.0.now)
clear-once κs a x y s t p q = let e : ◌≡◌ {A = Removed} _ _ = one_answer (p []) (q []) in (λ i. (e i).count, λ i. (e i).history)

pub history-raise-once : OnceLeft raise (λ κs s. s.0.now)
history-raise-once κs a x y s t p q = let e : ◌≡◌ {A = HistoryAnswer} _ _ = one_answer p q in (same-answer x y (λ i. (e i).refusal), λ i. (e i).history)

-- Laws of versions: what `dependencies` lists, and what `id` tells.
use Rattle.std.proofs.Common.{◌≡◌, ℕ, ◌<◌, ◌≤◌, Bool, true, false, ◌&&◌, cond, count_by, [], ◌∷◌, eqb, List, length, Result, Ok, Err, sym, refl, ap, ◌∙◌, le-leb}
use borrow.Author.Tests.{lt-leb}
use Rattle.laws.specs.Counting.{pick, one, count_below}
use Rattle.laws.specs.Lists.{written}
use Rattle.laws.proofs.Counting.{count-first}
use Rattle.std.proofs.lemmas.List.Sums.{sum_by-cons}
use Rattle.clocks.specs.Vectors.{entry, desks}
use Rattle.clocks.specs.contracts.version_vector.VersionPartialEq.TheImpl as version_eq
use Rattle.clocks.specs.Frontiers.{same_frontier}
use Rattle.clocks.proofs.Frontiers.{derived-same-frontier}
use Rattle.std.proofs.Math.Bool.{and_comm}
use Rattle.clocks.specs.Versions.{VersionAnswer, made_v, answered_v, named, own_entry, own_id, identified, dependency_replicas, dependency_sequences, Depends}
use Rattle.clocks.specs.declared.id.EventId.{EventId}
use Rattle.clocks.specs.declared.refusal.Refusal.{Refusal}
use Rattle.clocks.specs.declared.refusal.Refusal.TheVariants.{BadSequence, NoRoom}
use Rattle.clocks.specs.declared.replica.ReplicaIdx.{ReplicaIdx}
use Rattle.clocks.specs.declared.version_vector.Version.{Version}
use Rattle.clocks.proofs.Refusals.{number-some, same-answer, same-refusal}

-- how many entries pass a test
one-cond : (b : Bool) → cond b 1 0 ≡ one b
one-cond true = refl
one-cond false = refl

pub counted : (p : ℕ → Bool) (es : List ℕ) → count_by p es ≡ count_below (λ i. p (entry es i)) (length es)
unfolding count_below
counted p [] = refl
counted p (x ∷ xs) =
    sum_by-cons (λ y. cond (p y) 1 0) x xs ∙ rw (one-cond (p x), counted p xs) (sym (count-first (λ i. p (entry (x ∷ xs) i)) (length xs)))

-- ---- what `id` answered tells of the own entry

Names : Bool → Version → Result EventId Refusal → Type 0
Names b v (Ok e) = (b ≡ false) × (e ≡ own_id v)
Names b v (Err refusal) = (b ≡ true) × (refusal ≡ BadSequence)

names : (b : Bool) (v : Version) → Names b v (pick b (Err BadSequence) (Ok (own_id v)))
unfolding Names
names true v = (refl, refl)
names false v = (refl, refl)

pub identified-id : (v : Version) (e : EventId) → Ok e ≡ identified v → (eqb (own_entry v) 0 ≡ false) × (e ≡ own_id v)
unfolding Names identified
identified-id v e h = rw (← h) at (names (eqb (own_entry v) 0) v)

pub identified-none : (v : Version) (refusal : Refusal) → Err refusal ≡ identified v → (eqb (own_entry v) 0 ≡ true) × (refusal ≡ BadSequence)
unfolding Names identified
identified-none v refusal h = rw (← h) at (names (eqb (own_entry v) 0) v)

-- ---- what a creation and a change answered tell the Result

pub made_v-tells : (idx : ReplicaIdx) (r s : Result Version Refusal) → made_v idx r ≡ made_v idx s → r ≡ s
made_v-tells idx (Ok v) (Ok w) e = ap (λ (a : VersionAnswer). Ok a.version) e
made_v-tells idx (Ok v) (Err b) e = absurd (number-some b (ap (λ (a : VersionAnswer). a.refusal) (sym e)))
made_v-tells idx (Err a) (Ok w) e = absurd (number-some a (ap (λ (a : VersionAnswer). a.refusal) e))
made_v-tells idx (Err a) (Err b) e = ap Err (same-refusal a b (ap (λ (a : VersionAnswer). a.refusal) e))

pub answered_v-tells : (r s : Result (Unit {0}) Refusal) (v w : Version) → answered_v r v ≡ answered_v s w → (r ≡ s) × (v ≡ w)
answered_v-tells r s v w e = (same-answer r s (ap (λ (a : VersionAnswer). a.refusal) e), ap (λ (a : VersionAnswer). a.version) e)

-- ---- what `dependencies` answers, from the tests that led there

module _ (v : Version) (replicas seqs : List ℕ) where
  abbrev names-count : ℕ
  names-count = count_below (named v.entries.entries) desks

  pub no-room-left : length replicas < names-count → Depends v replicas seqs replicas seqs (Err NoRoom)
  no-room-left l = record { answer = rw (lt-leb _ _ l); names = rw (lt-leb _ _ l); sequences = rw (lt-leb _ _ l) }

  pub no-room-right : names-count ≤ length replicas → length seqs < names-count → Depends v replicas seqs replicas seqs (Err NoRoom)
  no-room-right p l =
      record { answer = rw (le-leb _ _ p, lt-leb _ _ l); names = rw (le-leb _ _ p, lt-leb _ _ l); sequences = rw (le-leb _ _ p, lt-leb _ _ l) }

  -- both buffers written
  pub depends : (replicas' seqs' : List ℕ) → names-count ≤ length replicas → names-count ≤ length seqs
      → replicas' ≡ written (dependency_replicas v) replicas → seqs' ≡ written (dependency_sequences v) seqs → Depends v replicas seqs replicas' seqs' (Ok names-count)
  depends replicas' seqs' p q a b = record {
    answer = rw (le-leb _ _ p, le-leb _ _ q);
    names = rw (le-leb _ _ p, le-leb _ _ q) a;
    sequences = rw (le-leb _ _ p, le-leb _ _ q) b;
  }

-- ---- what the derived `==` answers

pub derived-same-version : (v w : Version) → length v.entries.entries ≡ length w.entries.entries
    → (version_eq.ghosts).eq v w ≡ (eqb v.origin_idx.0 w.origin_idx.0 && same_frontier v.entries w.entries)
derived-same-version v w l =
    rw (derived-same-frontier v.entries w.entries l) (and_comm (same_frontier v.entries w.entries) (eqb v.origin_idx.0 w.origin_idx.0))

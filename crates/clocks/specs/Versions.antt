-- Versions: the entries of a frontier with the replica that they belong to, and what each call on them answers.
use Rattle.std.specs.Prelude.{◌≡◌, ℕ, ◌+◌, ◌-◌, Bool, ◌&&◌, ◌||◌, List, length, ◌==◌, nat_le, nat_lt, Result, Ok, Err}
use Rattle.laws.specs.Counting.{pick, count_below}
use Rattle.laws.specs.Lists.{list_below, written}
use Rattle.clocks.specs.Refusals.{accepted, bad_origin, bad_sequence, bad_vector, number_of, number_in}
use Rattle.clocks.specs.Vectors.{top, desks, entry, covers}
use Rattle.clocks.specs.Frontiers.{FrontierAnswer, zeros, joined, new_frontier, set_by_idx}
use Rattle.clocks.specs.declared.id.EventId.{EventId}
use Rattle.clocks.specs.declared.id.Disambiguator.TheVariants.{Absent}
use Rattle.clocks.specs.declared.refusal.Refusal.{Refusal}
use Rattle.clocks.specs.declared.refusal.Refusal.TheVariants.{BadSequence, NoRoom}
use Rattle.clocks.specs.declared.replica.ReplicaIdx.{ReplicaIdx}
use Rattle.clocks.specs.declared.version_vector.Version.{Version}

-- what a call answers: the refusal number, and the version that it hands back. A refusal hands back the one that came in
pub record VersionAnswer : Type 0 where
  pub refusal : ℕ
  pub version : Version

abbrev pub answer_v : ℕ → Version → VersionAnswer
answer_v number v = record { refusal = number; version = v }

-- the answer of a call that makes a version; a refused one is empty
abbrev pub made_v : ReplicaIdx → Result Version Refusal → VersionAnswer
made_v idx (Ok v) = answer_v accepted v
made_v idx (Err refusal) = answer_v (number_of refusal) (record { entries = zeros 0; origin_idx = idx })

-- the answer of a call that changes the caller's version, and that version after it
abbrev pub answered_v : Result (Unit {0}) Refusal → Version → VersionAnswer
answered_v r after = answer_v (number_in r) after

-- the entry at a version's own replica
abbrev pub own_entry : Version → ℕ
own_entry v = entry v.entries.entries v.origin_idx.0

-- the version's own event
abbrev pub own_id : Version → EventId
own_id v = record { idx = v.origin_idx; seq = own_entry v; disambiguator = Absent }

-- the event that a version is of: 2 where its own entry is 0
unfoldable pub identified : Version → Result EventId Refusal
identified v = pick (own_entry v == 0) (Err BadSequence) (Ok (own_id v))

-- what a call on the entries answered, as a call on the version
abbrev pub carried : FrontierAnswer → Version → VersionAnswer
carried a v = record { refusal = a.refusal; version = record { entries = a.frontier; origin_idx = v.origin_idx } }

-- zeros for R replicas, or 17
abbrev pub new_version : ReplicaIdx → ℕ → VersionAnswer
new_version idx r = record { refusal = (new_frontier r).refusal; version = record { entries = (new_frontier r).frontier; origin_idx = idx } }

-- the origin is no replica of the version
abbrev pub stray_origin : Version → Bool
stray_origin v = nat_le v.entries.len v.origin_idx.0

-- the own entry one higher: 1 for an origin R or above, then 3 where it is already the top
unfoldable pub incremented : Version → VersionAnswer
incremented v =
    pick (stray_origin v) (answer_v bad_origin v)
    (pick (nat_le top (own_entry v)) (answer_v bad_vector v)
    (carried (set_by_idx v.entries v.origin_idx.0 (own_entry v + 1)) v))

-- `Version::join`: 1 for either origin R or above, then 2 where the other's own entry is 0. Where the other's event is covered nothing changes
unfoldable pub joined_versions : Version → Version → VersionAnswer
joined_versions v w =
    pick (stray_origin v || stray_origin w) (answer_v bad_origin v)
    (pick (own_entry w == 0) (answer_v bad_sequence v)
    (pick (covers v.entries.entries (own_id w)) (answer_v accepted v)
    (answer_v accepted (record { entries = joined v.entries w.entries; origin_idx = v.origin_idx }))))

-- `dependencies`: the replicas that a version names, rising, and beside each the sequence that it depends on, one less at its own replica
abbrev pub named : List ℕ → ℕ → Bool
named es i = nat_lt 0 (entry es i)

abbrev pub needed : List ℕ → ℕ → ℕ → ℕ
needed es origin i = pick (i == origin) (entry es i - 1) (entry es i)

abbrev pub dependency_replicas : Version → List ℕ
dependency_replicas v = list_below (named v.entries.entries) (λ i. i) desks

abbrev pub dependency_sequences : Version → List ℕ
dependency_sequences v = list_below (named v.entries.entries) (needed v.entries.entries v.origin_idx.0) desks

-- both buffers hold the list
abbrev pub has_room : Version → List ℕ → List ℕ → Bool
has_room v replicas seqs =
    nat_le (count_below (named v.entries.entries) desks) (length replicas) && nat_le (count_below (named v.entries.entries) desks) (length seqs)

pub record Depends (v : Version) (replicas seqs replicas' seqs' : List ℕ) (r : Result ℕ Refusal) : Type 0 where
  pub answer : r ≡ pick (has_room v replicas seqs) (Ok (count_below (named v.entries.entries) desks)) (Err NoRoom)
  pub names : replicas' ≡ pick (has_room v replicas seqs) (written (dependency_replicas v) replicas) replicas
  pub sequences : seqs' ≡ pick (has_room v replicas seqs) (written (dependency_sequences v) seqs) seqs

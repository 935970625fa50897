-- Each of the eight commands, written with single spaces, reads back as that command with its vector: what the rules allow is not refused.
use mathlib.Core.List.{List, [], ◌∷◌, ◌++◌}
use mathlib.Core.Path.{◌≡◌, refl}
use Prim.Native.Nat.{ℕ, ◌+◌, ◌^◌, ◌≤◌, ◌<◌}
use native.Mathlib.Omega.{arith}
use lib.ListN.{length, drop, length-append}
use borrow.Author.Tests.{lt-ltb, le-ltb, le-leb}
use Rattle.text.specs.Numbers.{digits_in, spelled}
use Rattle.text.specs.Bytes.{bytes_before}
use Rattle.text.proofs.Spelling.{digits_le}
use Rattle.listing.specs.Commands.{numbered_line, remove_line, sheet_line, vector_line, vector_at, spaced_rest, spaced_note, append_line, by_word, line_told}
use Rattle.listing.specs.Laying.{joined, spaced}
use Rattle.listing.specs.Sheets.{SmallId}
use Rattle.listing.specs.Words.{bytes, same_bytes}
use Rattle.clocks.specs.declared.event.Event.{Event}
use Rattle.clocks.specs.declared.id.Disambiguator.{Disambiguator}
use Rattle.clocks.specs.declared.id.Disambiguator.TheVariants.{Absent, Number as number}
use Rattle.clocks.specs.declared.id.EventId.{EventId}
use Rattle.listing.specs.declared.command.Command.{Command}
use Rattle.listing.specs.declared.command.Command.TheVariants.{Replicas, Append, Greatest, Check, Advance, Remove, Sheet, Why}
use Rattle.std.proofs.Common.{Some}
use Rattle.listing.proofs.Laying.{size-spaced}
use Rattle.listing.proofs.Said.{text, Small, tag_text, id_then, spaced-at, end-left, digits-text, entries_at, id-at}

-- a vector that a line can give: 1 to 16 entries below 2^64
pub record Sayable (v : List ℕ) : Type 0 where
  pub some : 0 < length v
  pub room : length v ≤ 16
  pub small : Small v

vector-told : (make : ℕ → Command) (s : List ℕ) (at : ℕ) (v : List ℕ) → Sayable v → drop at s ≡ text v → vector_line make 16 s at ≡ (Some (make (length v)), v)
unfolding vector_line vector_at
vector-told make s at v ok e =
    let read = entries_at 16 s at v ok.room ok.small e in
    rw (read.0, lt-ltb 0 (length v) ok.some, le-leb _ _ read.1)

-- a line of a word and a vector
module _ (n : ℕ) (ns : List ℕ) (ok : Sayable (n ∷ ns)) where
  short : (word : List ℕ) → length word ≤ 8 → length (word ++ text (n ∷ ns)) ≤ 512
  short word h = omega (arith, length-append word (text (n ∷ ns)), size-spaced (n ∷ ns), ok.room)

  pub read-greatest : line_told 16 (bytes "greatest" ++ text (n ∷ ns)) ≡ (Some (Greatest (length (n ∷ ns))), n ∷ ns)
  unfolding line_told by_word bytes_before same_bytes bytes joined spaced
  read-greatest =
      rw (le-ltb 512 (length (bytes "greatest" ++ text (n ∷ ns))) (short (bytes "greatest") (omega arith)))
      (vector-told Greatest (bytes "greatest" ++ text (n ∷ ns)) 8 (n ∷ ns) ok refl)

  pub read-check : line_told 16 (bytes "check" ++ text (n ∷ ns)) ≡ (Some (Check (length (n ∷ ns))), n ∷ ns)
  unfolding line_told by_word bytes_before same_bytes bytes joined spaced
  read-check =
      rw (le-ltb 512 (length (bytes "check" ++ text (n ∷ ns))) (short (bytes "check") (omega arith)))
      (vector-told Check (bytes "check" ++ text (n ∷ ns)) 5 (n ∷ ns) ok refl)

  pub read-advance : line_told 16 (bytes "advance" ++ text (n ∷ ns)) ≡ (Some (Advance (length (n ∷ ns))), n ∷ ns)
  unfolding line_told by_word bytes_before same_bytes bytes joined spaced
  read-advance =
      rw (le-ltb 512 (length (bytes "advance" ++ text (n ∷ ns))) (short (bytes "advance") (omega arith)))
      (vector-told Advance (bytes "advance" ++ text (n ∷ ns)) 7 (n ∷ ns) ok refl)

pub read-replicas : (r : ℕ) → r < 2 ^ 64 → line_told 16 (bytes "replicas" ++ text (r ∷ [])) ≡ (Some (Replicas r), [])
unfolding line_told by_word bytes_before same_bytes bytes joined spaced numbered_line digits_in
read-replicas r h =
    let s : List ℕ = bytes "replicas" ++ text (r ∷ []) in
    let told = spaced-at s [] 8 r refl h refl in
    rw (le-ltb 512 (length s) (omega (arith, length-append (bytes "replicas") (text (r ∷ [])), size-spaced (r ∷ []))), told.0, le-leb _ _ (end-left s _ told.1))

pub read-why : (n : ℕ) → n < 2 ^ 64 → line_told 16 (bytes "why" ++ text (n ∷ [])) ≡ (Some (Why n), [])
unfolding line_told by_word bytes_before same_bytes bytes joined spaced numbered_line digits_in
read-why n h =
    let s : List ℕ = bytes "why" ++ text (n ∷ []) in
    let told = spaced-at s [] 3 n refl h refl in
    rw (le-ltb 512 (length s) (omega (arith, length-append (bytes "why") (text (n ∷ [])), size-spaced (n ∷ []))), told.0, le-leb _ _ (end-left s _ told.1))

pub read-sheet : line_told 16 (bytes "sheet") ≡ (Some Sheet, [])
unfolding line_told by_word bytes_before same_bytes bytes sheet_line
read-sheet = refl

-- how long the text of an id is
tag-le : (d : Disambiguator) → length (tag_text d) ≤ 21
tag-le Absent = omega arith
tag-le (number d) = omega (arith, digits_le d)

id-le : (id : EventId) (rest : List ℕ) → length (id_then id rest) ≤ 63 + length rest
id-le id rest =
    let last = tag_text id.disambiguator ++ rest in
    omega (
      arith,
      length-append (spelled id.idx.0) (32 ∷ (spelled id.seq ++ last)),
      length-append (spelled id.seq) last,
      length-append (tag_text id.disambiguator) rest,
      digits_le id.idx.0,
      digits_le id.seq,
      tag-le id.disambiguator,
    )

pub read-remove : (id : EventId) → SmallId id → line_told 16 (bytes "remove" ++ id_then id []) ≡ (Some (Remove id), [])
unfolding line_told by_word bytes_before same_bytes bytes remove_line digits_in
read-remove id small =
    let s : List ℕ = bytes "remove" ++ id_then id [] in
    let told = id-at s [] 6 id refl small refl in
    rw (le-ltb 512 (length s) (omega (arith, length-append (bytes "remove") (id_then id []), id-le id [])), told.1, le-leb _ _ (end-left s _ told.2))

-- the text of a note's fields, and what follows it
abbrev pub note_then : Event → List ℕ → List ℕ
note_then e v = id_then e.id (text (e.lamport ∷ e.op ∷ e.revision ∷ v))

-- an event whose numbers are of their types
pub record SmallEvent (e : Event) : Type 0 where
  pub id : SmallId e.id
  pub lamport : e.lamport < 2 ^ 64
  pub op : e.op < 2 ^ 64
  pub revision : e.revision < 2 ^ 32

pub read-append : (e : Event) (v : List ℕ) → SmallEvent e → Sayable v → line_told 16 (bytes "append" ++ note_then e v) ≡ (Some (Append e (length v)), v)
unfolding line_told by_word bytes_before same_bytes bytes joined spaced append_line spaced_note spaced_rest digits_in
read-append e v small ok =
    let l = e.lamport in
    let p = e.op in
    let r = e.revision in
    let rest : List ℕ = text (l ∷ p ∷ r ∷ v) in
    let s : List ℕ = bytes "append" ++ id_then e.id rest in
    let named = id-at s rest 6 e.id refl small.id refl in
    let lamport = spaced-at s (text (p ∷ r ∷ v)) named.0 l named.2 small.lamport refl in
    let payload = spaced-at s (text (r ∷ v)) (named.0 + 1 + length (spelled l)) p lamport.1 small.op refl in
    let revision = spaced-at s (text v) (named.0 + 1 + length (spelled l) + 1 + length (spelled p)) r payload.1 (omega (arith, small.revision)) (digits-text v) in
    rw (
      le-ltb 512 (length s) (omega (arith, length-append (bytes "append") (id_then e.id rest), id-le e.id rest, size-spaced (l ∷ p ∷ r ∷ v), ok.room)),
      named.1,
      lamport.0,
      payload.0,
      revision.0,
      lt-ltb r (2 ^ 32) small.revision,
    )
    (vector-told (λ n. Append e n) s (named.0 + 1 + length (spelled l) + 1 + length (spelled p) + 1 + length (spelled r)) v ok revision.1)

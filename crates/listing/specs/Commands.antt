-- Document 01, The listing program, and document 02, P3: which bytes are which command. A place in a line is a number of bytes before it.
use Rattle.std.specs.Prelude.{◌&&◌, List, [], ◌∷◌, Option, Some, None, ◌≡◌, ℕ, zero, suc, ◌+◌, ◌^◌, min, ltb, leb, eqb, length, get_or, take}
use Rattle.laws.specs.Counting.{pick}
use Rattle.laws.specs.Lists.{written}
use Rattle.text.specs.Numbers.{number_at}
use Rattle.listing.specs.Words.{bytes, same_bytes, before_space}
use Rattle.clocks.specs.declared.event.Event.{Event}
use Rattle.clocks.specs.declared.id.Disambiguator.{Disambiguator}
use Rattle.clocks.specs.declared.id.Disambiguator.TheVariants.{Absent, Number as number}
use Rattle.clocks.specs.declared.id.EventId.{EventId}
use Rattle.listing.specs.declared.command.Command.{Command}
use Rattle.listing.specs.declared.command.Command.TheVariants.{Replicas, Append, Greatest, Check, Advance, Remove, Sheet, Why}

-- at most 512 bytes before the newline
abbrev pub longest : ℕ
longest = 512

-- 1 to 16 vector entries
abbrev pub most_entries : ℕ
most_entries = 16

-- what was read, with the place behind it, handed on, or what stands for none
abbrev pub with_read : {A B : Type 0} → Option (B × ℕ) → A → (B → ℕ → A) → A
with_read (Some r) none f = f r.0 r.1
with_read None none f = none

-- the number behind a single space, byte 32, at a place
unfoldable pub spaced_number : List ℕ → ℕ → Option (ℕ × ℕ)
spaced_number s at = pick (eqb (get_or s at 0) 32) (number_at s (at + 1)) None

-- a disambiguator that is a number is below 2^32
abbrev pub narrowed : Option (ℕ × ℕ) → Option (Disambiguator × ℕ)
narrowed n = with_read n None (λ d next. pick (ltb d (2 ^ 32)) (Some (number d, next)) None)

-- D behind a single space: `-`, byte 45, is absent
unfoldable pub spaced_tag : List ℕ → ℕ → Option (Disambiguator × ℕ)
spaced_tag s at =
    pick (eqb (get_or s at 0) 32) (pick (eqb (get_or s (at + 1) 0) 45) (Some (Absent, at + 2)) (narrowed (number_at s (at + 1)))) None

-- O S D
unfoldable pub spaced_id : List ℕ → ℕ → Option (EventId × ℕ)
spaced_id s at =
    with_read (spaced_number s at) None (λ o behindO.
    with_read (spaced_number s behindO) None (λ q behindS.
    with_read (spaced_tag s behindS) None (λ d next.
    Some (record { idx = record { 0 = o }; seq = q; disambiguator = d }, next))))

-- L P REV behind an id: a revision is below 2^32
unfoldable pub spaced_rest : List ℕ → ℕ → EventId → Option (Event × ℕ)
spaced_rest s at i =
    with_read (spaced_number s at) None (λ l behindL.
    with_read (spaced_number s behindL) None (λ p behindP.
    with_read (spaced_number s behindP) None (λ rev next.
    pick (ltb rev (2 ^ 32)) (Some (record { id = i; lamport = l; op = p; revision = rev }, next)) None)))

-- O S D L P REV
unfoldable pub spaced_note : List ℕ → ℕ → Option (Event × ℕ)
spaced_note s at = with_read (spaced_id s at) None (λ i next. spaced_rest s next i)

-- the numbers that stand one behind the other from a place on, at most so many
unfoldable pub entries : ℕ → List ℕ → ℕ → List ℕ
entries zero s at = []
entries (suc most) s at = with_read (spaced_number s at) [] (λ n next. n ∷ entries most s next)

-- the place behind them
unfoldable pub entries_end : ℕ → List ℕ → ℕ → ℕ
entries_end zero s at = at
entries_end (suc most) s at = with_read (spaced_number s at) at (λ n next. entries_end most s next)

-- how many entries are read into a buffer of this length
abbrev pub most : ℕ → ℕ
most room = min most_entries room

-- a vector up to the line's end: one entry or more, and nothing behind them
unfoldable pub vector_at : ℕ → List ℕ → ℕ → Option ℕ
vector_at room s at =
    pick (ltb 0 (length (entries (most room) s at)) && leb (length s) (entries_end (most room) s at)) (Some (length (entries (most room) s at))) None

abbrev pub with_vector : Option ℕ → (ℕ → Command) → Option Command
with_vector (Some n) make = Some (make n)
with_vector None make = None

-- what a line says, and the entries that stand in the lent buffer then
abbrev pub Told : Type 0
Told = Option Command × List ℕ

abbrev pub nothing : Told
nothing = (None, [])

-- a word with a number behind it: replicas R, why L
unfoldable pub numbered_line : (ℕ → Command) → List ℕ → ℕ → Told
numbered_line make s at = with_read (spaced_number s at) nothing (λ n next. pick (leb (length s) next) (Some (make n), []) nothing)

-- remove O S D
unfoldable pub remove_line : List ℕ → ℕ → Told
remove_line s at = with_read (spaced_id s at) nothing (λ i next. pick (leb (length s) next) (Some (Remove i), []) nothing)

-- sheet
unfoldable pub sheet_line : List ℕ → ℕ → Told
sheet_line s at = pick (leb (length s) at) (Some Sheet, []) nothing

-- a word with a vector behind it: greatest v.., check v.., advance v..
unfoldable pub vector_line : (ℕ → Command) → ℕ → List ℕ → ℕ → Told
vector_line make room s at = (with_vector (vector_at room s at) make, entries (most room) s at)

-- append O S D L P REV v..
unfoldable pub append_line : ℕ → List ℕ → ℕ → Told
append_line room s at = with_read (spaced_note s at) nothing (λ e behindNote. vector_line (λ n. Append e n) room s behindNote)

-- by the line's first word
unfoldable pub by_word : ℕ → List ℕ → List ℕ → Told
by_word room s word =
    pick (same_bytes word (bytes "replicas")) (numbered_line Replicas s (length word))
    (pick (same_bytes word (bytes "append")) (append_line room s (length word))
    (pick (same_bytes word (bytes "greatest")) (vector_line Greatest room s (length word))
    (pick (same_bytes word (bytes "check")) (vector_line Check room s (length word))
    (pick (same_bytes word (bytes "advance")) (vector_line Advance room s (length word))
    (pick (same_bytes word (bytes "remove")) (remove_line s (length word))
    (pick (same_bytes word (bytes "sheet")) (sheet_line s (length word))
    (pick (same_bytes word (bytes "why")) (numbered_line Why s (length word)) nothing)))))))

-- a line, with a buffer of this length lent for its vector
unfoldable pub line_told : ℕ → List ℕ → Told
line_told room s = pick (ltb longest (length s)) nothing (by_word room s (take (before_space s) s))

-- r and the buffer are what the line says
pub record Tells (told : Told) (vector vector' : List ℕ) (r : Option Command) : Type 0 where
  pub command : r ≡ told.0
  pub content : vector' ≡ written told.1 vector

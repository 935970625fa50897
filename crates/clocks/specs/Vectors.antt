-- Document 01, Sizes: vectors, what one covers, and how two compare.
use Rattle.std.specs.Prelude.{ℕ, ◌%◌, ◌^◌, Bool, true, false, ◌&&◌, ◌||◌, leb, List, length, ◌==◌, nat_le, nat_lt, slice_index, Option, Some, None}
use Rattle.std.specs.declared.cmp.Ordering.{Ordering}
use Rattle.std.specs.declared.cmp.Ordering.TheVariants.{Less, Equal, Greater}
use Rattle.laws.specs.Counting.{all_below, sum_below}
use Rattle.clocks.specs.declared.id.EventId.{EventId}

-- sequences and entries go to this number
abbrev pub top : ℕ
top = 4294967295

-- BadSequence: outside 1 .. the top
abbrev pub is_bad_sequence : ℕ → Bool
is_bad_sequence s = s == 0 || nat_lt top s

-- R is at most this number
abbrev pub desks : ℕ
desks = 16

-- a vector's entry for a replica; a missing one is 0
abbrev pub entry : List ℕ → ℕ → ℕ
entry v i = slice_index v i

-- at most R long, no entry above the top; a shorter vector counts as followed by zeros
unfoldable pub well_formed : ℕ → List ℕ → Bool
well_formed r v = nat_le (length v) r && all_below (λ i. leb (entry v i) top) (length v)

-- the same, and for an event its own entry equal to its sequence
unfoldable pub well_formed_for : ℕ → List ℕ → EventId → Bool
well_formed_for r v id = well_formed r v && entry v id.idx.0 == id.seq

-- a version covers an id when its entry for that replica is at least the id's sequence; a frontier contains an id by the same rule
unfoldable pub covers : List ℕ → EventId → Bool
covers v id = nat_le id.seq (entry v id.idx.0)

-- no entry of v is above w's; where v ends its entries are 0
unfoldable pub at_most : List ℕ → List ℕ → Bool
at_most v w = all_below (λ i. leb (entry v i) (entry w i)) (length v)

abbrev pub compared_by : Bool → Bool → Option Ordering
compared_by true true = Some Equal
compared_by true false = Some Less
compared_by false true = Some Greater
compared_by false false = None

-- vectors compare entry by entry: equal, above, below, or beside, which is None
unfoldable pub compared : List ℕ → List ℕ → Option Ordering
compared v w = compared_by (at_most v w) (at_most w v)

-- the sum of the entries, in 64 bits
unfoldable pub total : List ℕ → ℕ
total v = sum_below (entry v) (length v) % 2 ^ 64

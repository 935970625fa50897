-- Bytes in a lent buffer.
use Rattle.std.specs.Prelude.{Bool, true, List, [], ◌∷◌, ◌++◌, ◌≡◌, ℕ, suc, ◌+◌, leb, eqb, length, take, drop}
use Rattle.laws.specs.Counting.{pick}
use Rattle.text.specs.declared.buffer.Buffer.{Buffer}

-- so many bytes fit from a place on
abbrev pub fits : List ℕ → ℕ → ℕ → Bool
fits out at count = leb (at + count) (length out)

-- the buffer with these bytes from a place on; the same buffer where they do not fit
abbrev pub placed : List ℕ → ℕ → List ℕ → List ℕ
placed out at bytes = pick (fits out at (length bytes)) (take at out ++ bytes ++ drop (at + length bytes) out) out

-- the place behind them; the same place where they do not fit
abbrev pub placed_end : List ℕ → ℕ → List ℕ → ℕ
placed_end out at bytes = pick (fits out at (length bytes)) (at + length bytes) at

-- how many bytes stand before the first that is b, or all of them
unfoldable pub bytes_before : ℕ → List ℕ → ℕ
bytes_before b [] = 0
bytes_before b (c ∷ s) = pick (eqb c b) 0 (suc (bytes_before b s))

-- r says whether both are the same bytes
pub record Same (a b : List ℕ) (r : Bool) : Type 0 where
  pub sound : r ≡ true → a ≡ b
  pub complete : a ≡ b → r ≡ true

-- a buffer and how many of its bytes are collected
pub record Collected : Type 0 where
  pub bytes : List ℕ
  pub len : ℕ

-- what a buffer has
unfoldable pub collected_in : Buffer → Collected
collected_in b = record { bytes = b.bytes.now; len = b.len }

-- with these bytes behind those that are collected; as it is where they do not fit
abbrev pub with_put : Collected → List ℕ → Collected
with_put b bytes = record { bytes = placed b.bytes b.len bytes; len = placed_end b.bytes b.len bytes }

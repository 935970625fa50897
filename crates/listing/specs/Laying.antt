-- Text written as pieces, one behind the other: numbers, words, spaces and newlines. Each is put whole or, where it does not fit, not at all.
use Rattle.std.specs.Prelude.{List, [], ◌∷◌, ◌++◌, ◌≡◌, ℕ, zero, suc}
use Rattle.text.specs.Numbers.{spelled}
use Rattle.text.specs.Bytes.{Collected, placed, placed_end, with_put}

-- the buffer with the pieces from a place on
unfoldable pub laid : List ℕ → ℕ → List (List ℕ) → List ℕ
laid out at [] = out
laid out at (p ∷ ps) = laid (placed out at p) (placed_end out at p) ps

-- the place behind them
unfoldable pub laid_end : List ℕ → ℕ → List (List ℕ) → ℕ
laid_end out at [] = at
laid_end out at (p ∷ ps) = laid_end (placed out at p) (placed_end out at p) ps

-- the buffer and the place after the pieces
pub record Laid (out : List ℕ) (at : ℕ) (pieces : List (List ℕ)) (out' : List ℕ) (r : ℕ) : Type 0 where
  pub text : out' ≡ laid out at pieces
  pub end : r ≡ laid_end out at pieces

-- the bytes of the pieces: what stands in the buffer where there is room for them all
unfoldable pub joined : List (List ℕ) → List ℕ
joined [] = []
joined (p ∷ ps) = p ++ joined ps

-- the pieces f 0, f 1, .., f (n - 1), one behind the other
unfoldable pub pieces_below : (ℕ → List (List ℕ)) → ℕ → List (List ℕ)
pieces_below f zero = []
pieces_below f (suc n) = pieces_below f n ++ f n

abbrev pub space : List ℕ
space = 32 ∷ []

abbrev pub newline : List ℕ
newline = 10 ∷ []

-- numbers, each after a space
unfoldable pub spaced : List ℕ → List (List ℕ)
spaced [] = []
spaced (n ∷ ns) = space ∷ spelled n ∷ spaced ns

-- a line: a number or a word, and numbers behind it
abbrev pub line_of : List ℕ → List ℕ → List (List ℕ)
line_of first ns = first ∷ (spaced ns ++ (newline ∷ []))

-- a buffer with the pieces behind what is collected
abbrev pub with_pieces : Collected → List (List ℕ) → Collected
with_pieces b [] = b
with_pieces b (p ∷ ps) = with_pieces (with_put b p) ps

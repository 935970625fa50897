-- Lists made by a rule, and a list written into a lent buffer.
use Rattle.std.specs.Prelude.{Bool, List, [], ◌∷◌, ◌++◌, ℕ, zero, suc, length, drop}
use Rattle.laws.specs.Counting.{pick}

-- f 0, f 1, .., f (n - 1)
unfoldable pub tabulate : (ℕ → ℕ) → ℕ → List ℕ
tabulate f zero = []
tabulate f (suc n) = tabulate f n ++ (f n ∷ [])

-- f of each number below n that satisfies t, rising
unfoldable pub list_below : (ℕ → Bool) → (ℕ → ℕ) → ℕ → List ℕ
list_below t f zero = []
list_below t f (suc n) = list_below t f n ++ pick (t n) (f n ∷ []) []

-- a list written from a buffer's start; the rest keeps its values
abbrev pub written : List ℕ → List ℕ → List ℕ
written xs buffer = xs ++ drop (length xs) buffer

-- the lists f 0, f 1, .., f (n - 1), one behind the other
unfoldable pub concat_below : (ℕ → List ℕ) → ℕ → List ℕ
concat_below f zero = []
concat_below f (suc n) = concat_below f n ++ f n

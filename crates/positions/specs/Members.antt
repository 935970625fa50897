-- Sets of positions, as four words of 64 bits: bit k of word w stands for the position 64 * w + k.
use Rattle.std.specs.Prelude.{Bool, true, false, ◌&&◌, ◌||◌, not, List, ◌≡◌, ℕ, zero, suc, ◌+◌, ◌*◌, ◌/◌, ◌%◌, ◌^◌, ◌<◌, ◌≤◌, Option, Some, None, get_or, length, ltb}
use Rattle.positions.specs.Bits.{bit}
use Rattle.laws.specs.Counting.{one, all_below}
use Rattle.laws.specs.Lists.{tabulate}
use Rattle.positions.specs.declared.Positions.{Positions}
use Rattle.positions.specs.declared.NodeIndex.{NodeIndex}

-- the position k is in the set p; no position from 256 on is
unfoldable pub has : Positions → ℕ → Bool
has p k = ltb k 256 && bit (get_or p.words (k / 64) 0) (k % 64)

-- the number whose bits below n are those that f says
unfoldable pub number_of : (ℕ → Bool) → ℕ → ℕ
number_of f zero = 0
number_of f (suc n) = one (f 0) + number_of (λ k. f (suc k)) n * 2

-- the set of the positions below 256 that f picks
unfoldable pub set_of : (ℕ → Bool) → Positions
set_of f = record { words = tabulate (λ j. number_of (λ k. f (64 * j + k)) 64) 4 }

-- four words of 64 bits, as every value that the code makes has
pub record Words (ws : List ℕ) : Type 0 where
  pub four : length ws ≡ 4
  pub fit : (j : ℕ) → get_or ws j 0 < 2 ^ 64

-- r is the least position that is not in the set, 256 where all are
pub record FirstMissing (p : Positions) (r : ℕ) : Type 0 where
  pub most : r ≤ 256
  pub before : (k : ℕ) → k < r → has p k ≡ true
  pub missing : has p r ≡ false

-- r says whether each member of p is in q
pub record Subset (p q : Positions) (r : Bool) : Type 0 where
  pub exact : r ≡ all_below (λ k. not (has p k) || has q k) 256
  pub sound : r ≡ true → (k : ℕ) → has p k ≡ true → has q k ≡ true
  pub complete : ((k : ℕ) → has p k ≡ true → has q k ≡ true) → r ≡ true

-- i is the greatest member of p below n
pub record HighestAt (p : Positions) (n i : ℕ) : Type 0 where
  pub inside : has p i ≡ true
  pub small : i < 256
  pub under : i < n
  pub above : (k : ℕ) → i < k → k < n → has p k ≡ false

-- the greatest member of p below n, where there is one
abbrev pub IsHighest : Positions → ℕ → Option NodeIndex → Type 0
IsHighest p n (Some i) = HighestAt p n i.0
IsHighest p n None = (k : ℕ) → k < n → has p k ≡ false

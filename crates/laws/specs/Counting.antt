-- A choice by a truth value, and truth values over the numbers below a bound.
use Rattle.std.specs.Prelude.{Bool, true, false, ◌&&◌, ◌||◌, ℕ, zero, suc, ◌+◌, max}

-- the first where the test holds, else the second
abbrev pub pick : {A : Type 0} → Bool → A → A → A
pick true a b = a
pick false a b = b

abbrev pub one : Bool → ℕ
one true = 1
one false = 0

-- how many numbers below n satisfy f
unfoldable pub count_below : (ℕ → Bool) → ℕ → ℕ
count_below f zero = 0
count_below f (suc n) = count_below f n + one (f n)

-- some number below n satisfies f
unfoldable pub any_below : (ℕ → Bool) → ℕ → Bool
any_below f zero = false
any_below f (suc n) = any_below f n || f n

-- each number below n satisfies f
unfoldable pub all_below : (ℕ → Bool) → ℕ → Bool
all_below f zero = true
all_below f (suc n) = all_below f n && f n

-- f 0 + f 1 + .. + f (n - 1)
unfoldable pub sum_below : (ℕ → ℕ) → ℕ → ℕ
sum_below f zero = 0
sum_below f (suc n) = sum_below f n + f n

-- one more than the greatest number below n that satisfies f; 0 where none does
unfoldable pub last_below : (ℕ → Bool) → ℕ → ℕ
last_below f zero = 0
last_below f (suc n) = pick (f n) (suc n) (last_below f n)

-- the least number below n that satisfies f; n where none does
unfoldable pub first_below : (ℕ → Bool) → ℕ → ℕ
first_below f zero = 0
first_below f (suc n) = pick (any_below f n) (first_below f n) (pick (f n) n (suc n))

-- the greatest of f 0, .., f (n - 1); 0 where there is none
unfoldable pub max_below : (ℕ → ℕ) → ℕ → ℕ
max_below f zero = 0
max_below f (suc n) = max (max_below f n) (f n)

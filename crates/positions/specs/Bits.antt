-- The bits of a number.
use Rattle.std.specs.Prelude.{Bool, true, false, ℕ, zero, suc, ◌/◌, ◌%◌}

-- a digit as a truth value
abbrev pub is_one : ℕ → Bool
is_one zero = false
is_one (suc n) = true

-- bit k of n, counted from the lowest
unfoldable pub bit : ℕ → ℕ → Bool
bit n zero = is_one (n % 2)
bit n (suc k) = bit (n / 2) k

-- For the contracts of private functions alone: nothing that is promised rests on reading this.
use Rattle.std.specs.Prelude.{Bool, ◌&&◌, ◌||◌, not, eqb, List, Option, Some, None, ℕ, zero, suc, ◌+◌, ◌-◌, ◌/◌, ◌%◌, ◌^◌, ltb, set}
use Rattle.laws.specs.Counting.{pick}
use Rattle.text.specs.Numbers.{is_digit, digits_in, value_from}

-- the digit's value; none of any other byte
abbrev pub digit_of : ℕ → Option ℕ
digit_of b = pick (is_digit b) (Some (b - 48)) None

-- the number that the digits in front make, where it is below 2^64, and how many they are
abbrev pub run_of : List ℕ → Option (ℕ × ℕ)
run_of s = pick (ltb (value_from 0 s) (2 ^ 64)) (Some (value_from 0 s, digits_in s)) None

-- so many digits are one or more, and no 0 before another
abbrev pub plain_run : ℕ → ℕ → Bool
plain_run count first = ltb 0 count && (eqb count 1 || not (eqb first 48))

-- the last k digits of n stored from a place on, the last first
unfoldable pub written_back : List ℕ → ℕ → ℕ → ℕ → List ℕ
written_back out at zero n = out
written_back out at (suc k) n = written_back (set out (at + k) (48 + n % 10)) at k (n / 10)

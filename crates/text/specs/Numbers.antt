-- Numbers in text. Document 01, The listing program: decimals without sign or leading zeros, below 2^64.
use Rattle.std.specs.Prelude.{Bool, ◌&&◌, ◌||◌, not, List, [], ◌∷◌, ◌++◌, Option, Some, None, ℕ, zero, suc, ◌+◌, ◌*◌, ◌-◌, ◌/◌, ◌%◌, ◌^◌, ltb, leb, eqb, drop, get_or}
use Rattle.laws.specs.Counting.{pick}

-- `0` is byte 48 and `9` is byte 57
abbrev pub is_digit : ℕ → Bool
is_digit b = leb 48 b && leb b 57

-- how many digits the bytes start with
unfoldable pub digits_in : List ℕ → ℕ
digits_in [] = 0
digits_in (b ∷ s) = pick (is_digit b) (suc (digits_in s)) 0

-- the number that those digits make behind n, the most significant first
unfoldable pub value_from : ℕ → List ℕ → ℕ
value_from n [] = n
value_from n (b ∷ s) = pick (is_digit b) (value_from (n * 10 + (b - 48)) s) n

-- one digit or more, and no 0 before another
abbrev pub plain : List ℕ → Bool
plain s = ltb 0 (digits_in s) && (eqb (digits_in s) 1 || not (eqb (get_or s 0 0) 48))

-- the number that stands at a place, with the place behind it
unfoldable pub number_at : List ℕ → ℕ → Option (ℕ × ℕ)
number_at s at =
    pick (plain (drop at s) && ltb (value_from 0 (drop at s)) (2 ^ 64))
    (Some (value_from 0 (drop at s), at + digits_in (drop at s)))
    None

-- how many digits n has, up to a limit
unfoldable pub places_up_to : ℕ → ℕ → ℕ
places_up_to zero n = 0
places_up_to (suc most) n = pick (ltb n 10) 1 (suc (places_up_to most (n / 10)))

-- how many digits n has: no number below 2^64 has more than twenty
unfoldable pub places : ℕ → ℕ
places n = places_up_to 20 n

-- the last k digits of n, the most significant first
unfoldable pub last_digits : ℕ → ℕ → List ℕ
last_digits zero n = []
last_digits (suc k) n = last_digits k (n / 10) ++ ((48 + n % 10) ∷ [])

-- n as text
unfoldable pub spelled : ℕ → List ℕ
spelled n = last_digits (places n) n

-- Two words of 64 bits as one number.
use Rattle.std.specs.Prelude.{ℕ, ◌+◌, ◌*◌, ◌/◌, ◌%◌, ◌^◌}

-- the 64 bits from bit s on of both, the low word first
unfoldable pub joined_words : ℕ → ℕ → ℕ → ℕ
joined_words low high s = (high * 2 ^ 64 + low) / 2 ^ s % 2 ^ 64

-- For the contracts of private functions alone: nothing that is promised rests on reading this.
use Rattle.std.specs.Prelude.{List, Option, Some, None, ℕ, ◌+◌, leb, eqb, length, get_or}
use Rattle.laws.specs.Counting.{pick}

-- the place behind a single space, byte 32
abbrev pub behind_space : List ℕ → ℕ → Option ℕ
behind_space s at = pick (eqb (get_or s at 0) 32) (Some (at + 1)) None

-- what was read, where the line ends behind it
abbrev pub up_to_end : {B : Type 0} → List ℕ → Option (B × ℕ) → Option B
up_to_end s (Some r) = pick (leb (length s) r.1) (Some r.0) None
up_to_end s None = None

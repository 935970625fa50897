-- For the contracts of private functions alone: nothing that is promised rests on reading this.
use Rattle.std.specs.Prelude.{Bool, true, false, ◌&&◌, ◌||◌, List, ◌≡◌, ℕ, suc, ◌-◌, ◌%◌, ◌^◌, ◌<◌, ◌≤◌, eqb, length}
use Rattle.positions.specs.Bits.{bit}
use Rattle.positions.specs.Compacting.{marked}

-- ---- one word of 64 bits

-- r is the place of the lowest bit of w that is not set, 64 where all are
pub record LowZero (w r : ℕ) : Type 0 where
  pub most : r ≤ 64
  pub before : (j : ℕ) → j < r → bit w j ≡ true
  pub clear : r < 64 → bit w r ≡ false

-- w has r digits: none at r and above, and the one below r is set
pub record BitLength (w r : ℕ) : Type 0 where
  pub most : r ≤ 64
  pub above : (j : ℕ) → r ≤ j → bit w j ≡ false
  pub top : (j : ℕ) → r ≡ suc j → bit w j ≡ true

-- ---- a plan that is made mark by mark

-- the member at k, with g gaps below it, goes down in round i, from the place q
abbrev pub goes : ℕ → ℕ → ℕ → ℕ → Bool
goes k g i q = bit g i && eqb (k - g % 2 ^ i) q

-- the words of eight rounds have the old marks, and those that `more` says
pub record Marks (old new : List ℕ) (more : ℕ → ℕ → Bool) : Type 0 where
  pub long : length new ≡ 32
  pub marks : (i q : ℕ) → i < 8 → marked new i q ≡ (marked old i q || more i q)

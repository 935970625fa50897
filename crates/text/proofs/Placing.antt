-- Bytes put into a buffer: whether they fit decides both the place behind them and the buffer.
use mathlib.Core.List.{List, ◌++◌}
use mathlib.Core.Path.{◌≡◌, refl}
use Prim.Native.Nat.{ℕ, ◌+◌, ◌≤◌, ◌<◌}
use lib.ListN.{length, take, drop}
use borrow.Author.Tests.{le-leb, lt-leb}
use Rattle.text.specs.Bytes.{placed, placed_end}

pub placed-out : (out : List ℕ) (at : ℕ) (bytes : List ℕ) → length out < at + length bytes
    → (at ≡ placed_end out at bytes) × (out ≡ placed out at bytes)
placed-out out at bytes h = rw (lt-leb (at + length bytes) (length out) h) (refl, refl)

pub placed-in : (out : List ℕ) (at : ℕ) (bytes : List ℕ) → at + length bytes ≤ length out
    → (at + length bytes ≡ placed_end out at bytes) × (take at out ++ bytes ++ drop (at + length bytes) out ≡ placed out at bytes)
placed-in out at bytes h = rw (le-leb (at + length bytes) (length out) h) (refl, refl)

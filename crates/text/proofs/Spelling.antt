-- What the two writing loops keep, and that a number reads back as it was written.
use mathlib.Core.Bool.{Bool, true, false}
use mathlib.Core.List.{List, ◌++◌, append_assoc, append-nil}
use mathlib.Core.Path.{◌≡◌, refl, sym, ap, ◌∙◌}
use Prim.Native.Nat.{ℕ, zero, suc, ◌+◌, ◌*◌, ◌-◌, ◌/◌, ◌%◌, ◌^◌, ◌≤◌, ◌<◌}
use native.Mathlib.Nat.{pow-suc, add-zero, add-suc}
use native.Mathlib.Omega.{arith}
use lib.Dec.{ltb}
use lib.ListN.{length, take, drop, set, length-append, length-set, take-append-drop}
use lib.Seq.{drop-cons, take-set-le, drop-set-lt, get_or-set_same}
use borrow.Author.Tests.{lt-ltb, le-ltb}
use Rattle.laws.specs.Counting.{pick}
use Rattle.text.specs.Numbers.{places_up_to, places, last_digits, spelled}
use Rattle.text.specs.Inner.{written_back}
use Rattle.text.specs.Bytes.{placed, placed_end}
use Rattle.text.proofs.Placing.{placed-in, placed-out}

-- a number of one digit
pub places-last : (most r : ℕ) → 0 < most → r ≤ 9 → places_up_to most r ≡ 1
unfolding places_up_to
places-last zero r h l = absurd (omega arith)
places-last (suc most) r h l = rw (lt-ltb r 10 (omega arith))

-- a longer one: the last digit, and those of a tenth
pub places-more : (most r : ℕ) → 9 < r → r < 10 ^ most
    → (1 < most) × (r / 10 < 10 ^ (most - 1)) × (places_up_to most r ≡ suc (places_up_to (most - 1) (r / 10)))
unfolding places_up_to
places-more zero r h l = absurd (omega arith)
places-more (suc zero) r h l = absurd (omega arith)
places-more (suc (suc m)) r h l =
    let g : r < 10 ^ suc m * 10 = rw pow-suc at l in
    let e : suc (suc m) - 1 ≡ suc m = omega arith in
    rw e (omega arith, omega arith, rw (le-ltb r 10 (omega arith)))

pub length_last : (k n : ℕ) → length (last_digits k n) ≡ k
unfolding last_digits
length_last zero n = refl
length_last (suc k) n = length-append (last_digits k (n / 10)) _ ∙ omega (arith, length_last k (n / 10))

pub length-spelled : (n : ℕ) → length (spelled n) ≡ places n
unfolding spelled
length-spelled n = length_last (places n) n

-- no number has more than twenty digits
places-le : (most n : ℕ) → places_up_to most n ≤ most
unfolding places_up_to
places-le zero n = omega arith
places-le (suc most) n = half (ltb n 10) (places-le most (n / 10))
  where
    half : (t : Bool) → places_up_to most (n / 10) ≤ most → pick t 1 (suc (places_up_to most (n / 10))) ≤ suc most
    half true h = omega arith
    half false h = omega arith

pub digits_le : (n : ℕ) → length (spelled n) ≤ 20
unfolding places
digits_le n = rw (length-spelled n) (places-le 20 n)

-- a turn of the loop that writes
pub back-turn : (out : List ℕ) (at j rest : ℕ) → 0 < j
    → written_back out at j rest ≡ written_back (set out (at + (j - 1)) (48 + rest % 10)) at (j - 1) (rest / 10)
unfolding written_back
back-turn out at zero rest h = absurd (omega arith)
back-turn out at (suc j) rest h = let e : suc j - 1 ≡ j = omega arith in rw e

-- what that loop leaves
pub written_back_lem : (out : List ℕ) (at k n : ℕ) → at + k ≤ length out → written_back out at k n ≡ take at out ++ last_digits k n ++ drop (at + k) out
unfolding written_back last_digits
written_back_lem out at zero n h = rw (add-zero, append-nil) (sym (take-append-drop at out))
written_back_lem out at (suc k) n h =
    written_back_lem (set out (at + k) (48 + n % 10)) at k (n / 10) (simp length-set (omega arith))
    ∙ rw (
      take-set-le at out (at + k) (48 + n % 10) (omega arith),
      drop-cons (set out (at + k) (48 + n % 10)) (at + k) 0 (simp length-set (omega arith)),
      get_or-set_same out (at + k) (48 + n % 10) 0 (omega arith),
      drop-set-lt (suc (at + k)) out (at + k) (48 + n % 10) (omega arith),
      add-suc,
    )
    (simp append_assoc)

-- what `write_number` leaves, as bytes put into the buffer
pub written-spelled : (out : List ℕ) (at n : ℕ) → at + places n ≤ length out
    → (at + places n ≡ placed_end out at (spelled n)) × (written_back out at (places n) n ≡ placed out at (spelled n))
unfolding spelled
written-spelled out at n h =
    let e : length (last_digits (places n) n) ≡ places n = length_last (places n) n in
    let p = placed-in out at (last_digits (places n) n) (omega arith) in (
      ap (λ (k : ℕ). at + k) (sym e) ∙ p.0,
      written_back_lem out at (places n) n h ∙ ap (λ (k : ℕ). take at out ++ last_digits (places n) n ++ drop (at + k) out) (sym e) ∙ p.1,
    )

-- and where there is no room for it
pub spelled-out : (out : List ℕ) (at n : ℕ) → length out < at + places n → (at ≡ placed_end out at (spelled n)) × (out ≡ placed out at (spelled n))
spelled-out out at n h = placed-out out at (spelled n) (omega (arith, length-spelled n))

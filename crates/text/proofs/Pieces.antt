-- Where a line ends in a piece, and what a piece stores.
use mathlib.Core.Bool.{true, false, or-true, or-false}
use mathlib.Core.List.{List, [], append-nil}
use mathlib.Core.Logic.{⊎_elim}
use mathlib.Core.Path.{◌≡◌, sym, ◌∙◌}
use Prim.Native.Nat.{ℕ, ◌+◌, ◌-◌, ◌≤◌, ◌<◌, min}
use native.Mathlib.Nat.{min-eq_left, min-eq_right, min-le_left, le_of_lt}
use native.Mathlib.Numerals.{add-one}
use native.Mathlib.Omega.{arith}
use lib.ListN.{length, take, drop, drop_of_length-le, length-take, length-drop}
use lib.Seq.{take_all, take-take}
use borrow.Author.Tests.{lt-ltb, le-ltb}
use Rattle.laws.proofs.Orders.{le-or-lt}
use Rattle.text.specs.Lines.{before_newline, held_after, line_bytes, stored_at, Took}
use Rattle.text.specs.Bytes.{placed}
use Rattle.text.specs.declared.lines.Held.{Held}
use Rattle.text.proofs.Before.{before-le}
use Rattle.text.proofs.Placing.{placed-in, placed-out}

-- a line that does not fit any more
pub held-over : (limit : ℕ) (held : Held) (count : ℕ) → limit < held.len + count → record { len = limit; overlong = true } ≡ held_after limit held count
held-over limit held count h = rw (min-eq_left (le_of_lt h), lt-ltb limit (held.len + count) h, or-true)

-- one that does
pub held-within : (limit : ℕ) (held : Held) (count : ℕ) → held.len + count ≤ limit
    → record { len = held.len + count; overlong = held.overlong } ≡ held_after limit held count
held-within limit held count h = rw (min-eq_right h, le-ltb limit (held.len + count) h, or-false)

-- a line ends within its piece
pub newline-within : (s : List ℕ) (at : ℕ) → at ≤ length s → at + before_newline (drop at s) ≤ length s
newline-within s at h = omega (arith, before-le 10 (drop at s), length-drop at s)

length-line : (piece : List ℕ) (at : ℕ) → length (line_bytes piece at) ≡ before_newline (drop at piece)
length-line piece at = length-take (before_newline (drop at piece)) (drop at piece) ∙ min-eq_left (before-le 10 (drop at piece))

-- what is stored where the whole part of the line fits, and where not
stored-whole : (line : List ℕ) (n : ℕ) (bytes : List ℕ) → n + length bytes ≤ length line
    → placed line n bytes ≡ stored_at line n bytes
stored-whole line n bytes h = sym (placed-in line n bytes h).1 ∙ rw (take_all (length line - n) bytes (omega arith))

stored-part : (line : List ℕ) (n m : ℕ) (bytes : List ℕ) → m ≡ length line - n → m ≤ length bytes
    → placed line n (take m bytes) ≡ stored_at line n bytes
stored-part line n m bytes e h = ⊎_elim within beyond (le-or-lt n (length line))
  where
    shorter : length (take m bytes) ≡ m
    shorter = length-take m bytes ∙ min-eq_left h

    behind : drop (n + length bytes) line ≡ []
    behind = drop_of_length-le line {i = n + length bytes} (omega arith)

    within : n ≤ length line → placed line n (take m bytes) ≡ stored_at line n bytes
    within p =
        let d : drop (n + length (take m bytes)) line ≡ [] = drop_of_length-le line {i = n + length (take m bytes)} (omega (arith, shorter)) in
        sym (placed-in line n (take m bytes) (omega (arith, shorter))).1 ∙ rw (d, behind, ← e)

    beyond : length line < n → placed line n (take m bytes) ≡ stored_at line n bytes
    beyond p =
        let z : length line - n ≡ 0 = omega arith in
        sym (placed-out line n (take m bytes) (omega (arith, shorter))).1 ∙ rw (behind, z, take_all n line (le_of_lt p)) (simp append-nil)

pub stored-as-told : (line : List ℕ) (n : ℕ) (piece : List ℕ) (at m : ℕ) → m ≡ min (before_newline (drop at piece)) (length line - n)
    → placed line n (take m (drop at piece)) ≡ stored_at line n (line_bytes piece at)
stored-as-told line n piece at m e = ⊎_elim part whole (le-or-lt (length line - n) (before_newline (drop at piece)))
  where
    part : length line - n ≤ before_newline (drop at piece) → placed line n (take m (drop at piece)) ≡ stored_at line n (line_bytes piece at)
    part p =
        let q : m ≡ length line - n = e ∙ min-eq_right p in
        rw (← take-take m (before_newline (drop at piece)) (drop at piece) (omega arith))
        (stored-part line n m (line_bytes piece at) q (omega (arith, length-line piece at)))

    whole : before_newline (drop at piece) < length line - n → placed line n (take m (drop at piece)) ≡ stored_at line n (line_bytes piece at)
    whole p =
        let q : m ≡ before_newline (drop at piece) = e ∙ min-eq_left (le_of_lt p) in
        rw q (stored-whole line n (line_bytes piece at) (omega (arith, length-line piece at)))

-- a piece in which the line ends, and one in which it does not
module _ (line : List ℕ) (held : Held) (piece : List ℕ) (at end m : ℕ) (after : Held) (exit : List ℕ) (e : end ≡ at + before_newline (drop at piece))
    (a : after ≡ held_after (length line) held (end - at)) (q : m ≡ min (end - at) (length line - held.len)) (s : exit ≡ placed line held.len (take m (drop at piece))) where
  count : end - at ≡ before_newline (drop at piece)
  count = omega (arith, e)

  told : exit ≡ stored_at line held.len (line_bytes piece at)
  told = s ∙ stored-as-told line held.len piece at m (q ∙ rw count)

  less : after.len ≤ length line
  less = rw a (min-le_left (length line) (held.len + (end - at)))

  pub feed-ended : end < length piece → Took line held piece at exit (record { held = after; next = end + 1; complete = true })
  feed-ended p =
      record {
        stored = told;
        answer = rw (a, count, ← e, lt-ltb end (length piece) p, add-one);
        forward = λ g. omega (arith, e);
        within = less;
      }

  pub feed-open : length piece ≤ end → Took line held piece at exit (record { held = after; next = end; complete = false })
  feed-open p =
      record {
        stored = told;
        answer = rw (a, count, ← e, le-ltb end (length piece) p);
        forward = λ g. omega (arith, e);
        within = less;
      }

-- Lines that arrive in pieces.
use Rattle.std.specs.Prelude.{◌||◌, List, ◌++◌, ◌≡◌, ℕ, suc, ◌+◌, ◌-◌, ◌≤◌, ◌<◌, min, ltb, length, take, drop}
use Rattle.laws.specs.Counting.{pick}
use Rattle.text.specs.Bytes.{bytes_before}
use Rattle.text.specs.declared.lines.Held.{Held}
use Rattle.text.specs.declared.lines.Taken.{Taken}

-- how many bytes stand before the first newline, byte 10, or all of them
abbrev pub before_newline : List ℕ → ℕ
before_newline s = bytes_before 10 s

-- the bytes of the line in a piece from a place on
abbrev pub line_bytes : List ℕ → ℕ → List ℕ
line_bytes piece at = take (before_newline (drop at piece)) (drop at piece)

-- a line buffer with bytes behind its first n, as far as it reaches
abbrev pub stored_at : List ℕ → ℕ → List ℕ → List ℕ
stored_at line n bytes = take n line ++ take (length line - n) bytes ++ drop (n + length bytes) line

-- the state after so many more bytes of a line
abbrev pub held_after : ℕ → Held → ℕ → Held
held_after limit held count = record { len = min limit (held.len + count); overlong = held.overlong || ltb limit (held.len + count) }

-- what a piece gives from a place on
abbrev pub took_answer : ℕ → Held → List ℕ → ℕ → Taken
took_answer limit held piece at =
    record {
      held = held_after limit held (before_newline (drop at piece));
      next = pick (ltb (at + before_newline (drop at piece)) (length piece)) (suc (at + before_newline (drop at piece))) (at + before_newline (drop at piece));
      complete = ltb (at + before_newline (drop at piece)) (length piece);
    }

-- the whole of it: the buffer, the answer, and two bounds that follow from them
pub record Took (line : List ℕ) (held : Held) (piece : List ℕ) (at : ℕ) (after : List ℕ) (r : Taken) : Type 0 where
  pub stored : after ≡ stored_at line held.len (line_bytes piece at)
  pub answer : r ≡ took_answer (length line) held piece at
  pub forward : at < length piece → at < r.next
  pub within : r.held.len ≤ length line

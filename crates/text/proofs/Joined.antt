-- Nothing is lost between pieces: a line fed in two pieces leaves what it leaves when both are one.
use mathlib.Core.Bool.{Bool, true, false, or-true, or-false}
use mathlib.Core.List.{List, [], ◌∷◌, ◌++◌, append_assoc, append-nil}
use mathlib.Core.Logic.{⊎_elim}
use mathlib.Core.Path.{◌≡◌, sym, ap, ◌∙◌}
use Prim.Native.Nat.{ℕ, suc, ◌+◌, ◌-◌, ◌≤◌, ◌<◌, min}
use native.Mathlib.Nat.{min-eq_left, min-eq_right, le_of_lt}
use native.Mathlib.Omega.{arith}
use lib.Dec.{eqb}
use lib.ListN.{length, take, drop, length-append, length-drop, drop_of_length-le}
use lib.Seq.{take-length, take_all, take_at, take-append-le, take-append-add, drop-append-add, drop-drop, length-take-le}
use borrow.Author.Tests.{lt-ltb, le-ltb}
use Rattle.laws.proofs.Orders.{le-or-lt}
use Rattle.laws.specs.Counting.{pick}
use Rattle.text.specs.Bytes.{bytes_before}
use Rattle.text.specs.Lines.{before_newline, line_bytes, stored_at, held_after}
use Rattle.text.specs.declared.lines.Held.{Held}

-- a buffer that is full stays as it is
full : (line b : List ℕ) → stored_at line (length line) b ≡ line
full line b =
    let z : length line - length line ≡ 0 = omega arith in
    rw (take-length, z, drop_of_length-le line {i = length line + length b} (omega arith)) (simp append-nil)

module _ (line : List ℕ) (n : ℕ) (p b : List ℕ) where
  within : n + length p ≤ length line → stored_at (stored_at line n p) (n + length p) b ≡ stored_at line n (p ++ b)
  within h =
      let start : List ℕ = take n line ++ p in
      let rest : List ℕ = drop (n + length p) line in
      let x : ℕ = length line - (n + length p) in
      let whole : take (length line - n) p ≡ p = take_all (length line - n) p (omega arith) in
      let l : length start ≡ n + length p = length-append (take n line) p ∙ omega (arith, length-take-le n line (omega arith)) in
      let long : length (start ++ rest) ≡ length line = length-append start rest ∙ omega (arith, l, length-drop (n + length p) line) in
      let behind : drop (n + length p + length b) (start ++ rest) ≡ drop (n + length p + length b) line =
      ap (λ (k : ℕ). drop (k + length b) (start ++ rest)) (sym l) ∙ drop-append-add start rest (length b) ∙ drop-drop (length b) (n + length p) line in
      let room : length line - n ≡ length p + x = omega arith in
      let both : take (length line - n) (p ++ b) ≡ p ++ take x b = ap (λ (k : ℕ). take k (p ++ b)) room ∙ take-append-add p b x in
      let end : n + length (p ++ b) ≡ n + length p + length b = omega (arith, length-append p b) in
      rw (whole, take_at start rest (n + length p) l, long, behind, both, end) (simp append_assoc)

  beyond : length line < n + length p → stored_at (stored_at line n p) (length line) b ≡ stored_at line n (p ++ b)
  beyond h =
      let none : drop (n + length p) line ≡ [] = drop_of_length-le line {i = n + length p} (omega arith) in
      let end : drop (n + length (p ++ b)) line ≡ [] = drop_of_length-le line {i = n + length (p ++ b)} (omega (arith, length-append p b)) in
      let part : length (take (length line - n) p) ≡ length line - n = length-take-le (length line - n) p (omega arith) in
      let front : length (take n line) + (length line - n) ≡ length line =
      ⊎_elim (λ (q : n ≤ length line). omega (arith, length-take-le n line q)) (λ (q : length line < n). rw (take_all n line (le_of_lt q)) (omega arith)) (le-or-lt n (length line)) in
      let long : length (stored_at line n p) ≡ length line =
      rw (none, append-nil) (length-append (take n line) (take (length line - n) p) ∙ omega (arith, part, front)) in
      ap (λ (k : ℕ). stored_at (stored_at line n p) k b) (sym long)
      ∙ full (stored_at line n p) b
      ∙ rw (none, end, take-append-le (length line - n) p b (omega arith))

  pub stored-joined : stored_at (stored_at line n p) (min (length line) (n + length p)) b ≡ stored_at line n (p ++ b)
  stored-joined = ⊎_elim (λ (h : n + length p ≤ length line). rw (min-eq_right h) (within h)) (λ (h : length line < n + length p). rw (min-eq_left (le_of_lt h)) (beyond h)) (le-or-lt (n + length p) (length line))

-- the state counts on
pub held-joined : (limit : ℕ) (held : Held) (a k : ℕ) → held_after limit (held_after limit held a) k ≡ held_after limit held (a + k)
held-joined limit held a k = ⊎_elim fits over (le-or-lt (held.len + a) limit)
  where
    fits : held.len + a ≤ limit → held_after limit (held_after limit held a) k ≡ held_after limit held (a + k)
    fits h =
        let e : held.len + a + k ≡ held.len + (a + k) = omega arith in
        rw (min-eq_right h, le-ltb limit (held.len + a) h, or-false, e)

    over : limit < held.len + a → held_after limit (held_after limit held a) k ≡ held_after limit held (a + k)
    over h =
        rw (
          min-eq_left (le_of_lt h),
          lt-ltb limit (held.len + a) h,
          or-true,
          lt-ltb limit (held.len + (a + k)) (omega arith),
          or-true,
          min-eq_left {n = limit} {m = limit + k} (omega arith),
          min-eq_left {n = limit} {m = held.len + (a + k)} (omega arith),
        )

-- a piece without a newline lies before what follows
pub before-joined : (p q : List ℕ) → before_newline p ≡ length p → before_newline (p ++ q) ≡ length p + before_newline q
unfolding bytes_before
before-joined [] q e = omega arith
before-joined (b ∷ p) q e = by (before-joined p q) (eqb b 10) e
  where
    by : (before_newline p ≡ length p → before_newline (p ++ q) ≡ length p + before_newline q) → (t : Bool) → pick t 0 (suc (before_newline p)) ≡ suc (length p) → pick t 0 (suc (before_newline (p ++ q))) ≡ suc (length p) + before_newline q
    by more true z = absurd (omega (arith, z))
    by more false z = omega (arith, more (omega (arith, z)))

pub line-joined : (p q : List ℕ) → before_newline p ≡ length p → line_bytes (p ++ q) 0 ≡ p ++ line_bytes q 0
line-joined p q e = rw (before-joined p q e) (take-append-add p q (before_newline q))

-- the two together: the buffer and the state after a piece without a newline and then another
pub fed-joined : (line : List ℕ) (held : Held) (p q : List ℕ) → before_newline p ≡ length p
    → (stored_at (stored_at line held.len p) (held_after (length line) held (length p)).len (line_bytes q 0) ≡ stored_at line held.len (line_bytes (p ++ q) 0))
    × (held_after (length line) (held_after (length line) held (length p)) (before_newline q) ≡ held_after (length line) held (before_newline (p ++ q)))
fed-joined line held p q e = (
  rw (line-joined p q e) (stored-joined line held.len p (line_bytes q 0)),
  rw (before-joined p q e) (held-joined (length line) held (length p) (before_newline q)),
)

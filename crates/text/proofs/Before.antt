-- How many bytes stand before the first of a kind.
use mathlib.Core.Bool.{Bool, true, false}
use mathlib.Core.List.{List, [], ◌∷◌}
use mathlib.Core.Logic.{⊎_elim}
use mathlib.Core.Path.{◌≡◌, refl}
use Prim.Native.Nat.{ℕ, suc, ◌+◌, ◌≤◌, ◌<◌}
use native.Mathlib.Omega.{arith}
use lib.Dec.{eqb, ltb}
use lib.ListN.{length, drop, drop_of_length-le}
use borrow.Author.Tests.{lt-ltb, le-ltb}
use Rattle.std.proofs.Common.{cond, Some, None}
use Rattle.std.specs.List.{position, position_or_len}
use Rattle.std.specs.Option.{unwrap_or}
use Rattle.laws.proofs.Orders.{le-or-lt}
use Rattle.std.proofs.lemmas.List.Recursion.{is_position_or_len}
use Rattle.laws.specs.Counting.{pick}
use Rattle.text.specs.Bytes.{bytes_before}

-- as std counts them
before_is : (b : ℕ) (s : List ℕ) → bytes_before b s ≡ position_or_len (λ c. eqb c b) s
unfolding bytes_before
before_is b s = is_position_or_len (bytes_before b) (λ c. eqb c b) refl (λ c t. by (eqb c b) (bytes_before b t)) s
  where
    by : (t : Bool) (n : ℕ) → pick t 0 (suc n) ≡ cond t 0 (1 + n)
    by true n = refl
    by false n = omega arith

pub before-none : (b : ℕ) (s : List ℕ) (i : ℕ) → length s ≤ i → bytes_before b (drop i s) ≡ 0
unfolding bytes_before
before-none b s i h = rw (drop_of_length-le s h)

-- they are no more than all
pub before-le : (b : ℕ) (s : List ℕ) → bytes_before b s ≤ length s
unfolding bytes_before
before-le b [] = omega arith
before-le b (c ∷ s) = half (eqb c b) (before-le b s)
  where
    half : (t : Bool) → bytes_before b s ≤ length s → pick t 0 (suc (bytes_before b s)) ≤ suc (length s)
    half true h = omega arith
    half false h = omega arith

-- the place of the first, or the end
pub first_or_end : (b : ℕ) (s : List ℕ) → unwrap_or (position (λ c. eqb c b) s) (length s) ≡ bytes_before b s
first_or_end b s = rw before_is (by (position_or_len (λ c. eqb c b) s) (let h : bytes_before b s ≤ length s = before-le b s in rw before_is at h))
  where
    by : (n : ℕ) → n ≤ length s → unwrap_or (cond (ltb n (length s)) (Some n) None) (length s) ≡ n
    by n h = ⊎_elim (λ (l : length s ≤ n). rw (le-ltb n (length s) l) (omega arith)) (λ (l : n < length s). rw (lt-ltb n (length s) l)) (le-or-lt (length s) n)

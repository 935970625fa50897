-- A set is what its members say: `set_of` makes the set that a test picks, and every set of whole words is made so.
use mathlib.Core.Bool.{Bool, true, false, ◌&&◌}
use mathlib.Core.Path.{◌≡◌, refl, sym, ap, ap₂, ◌∙◌}
use mathlib.Core.Logic.{⊎_elim}
use Prim.Native.Nat.{ℕ, zero, suc, ◌+◌, ◌*◌, ◌/◌, ◌%◌, ◌^◌, ◌<◌, ◌≤◌}
use native.Mathlib.Nat.{pow-suc}
use native.Mathlib.Omega.{arith}
use lib.Dec.{ltb}
use lib.ListN.{get_or}
use lib.Pow.{pow_pos}
use borrow.Author.Tests.{lt-ltb, le-ltb}
use Rattle.laws.specs.Counting.{one}
use Rattle.laws.specs.Lists.{tabulate}
use Rattle.laws.proofs.Orders.{le-or-lt}
use Rattle.laws.proofs.Lists.{get_or-tabulate, tabulate-out, length-tabulate}
use Rattle.positions.specs.Bits.{is_one, bit}
use Rattle.positions.specs.Members.{has, number_of, set_of, Words}
use Rattle.positions.specs.declared.Positions.{Positions}
use Rattle.positions.proofs.Words.{has-out}
use Rattle.positions.proofs.Members.{ext-positions}

one-small : (b : Bool) → (one b < 2) × (is_one (one b) ≡ b)
one-small true = (omega arith, refl)
one-small false = (omega arith, refl)

pub number_small : (f : ℕ → Bool) (n : ℕ) → number_of f n < 2 ^ n
unfolding number_of
number_small f zero = omega arith
number_small f (suc n) = rw pow-suc (omega (arith, (one-small (f 0)).0, number_small (λ k. f (suc k)) n))

pub bit-number : (f : ℕ → Bool) (n k : ℕ) → k < n → bit (number_of f n) k ≡ f k
unfolding number_of bit
bit-number f zero k l = absurd (omega arith)
bit-number f (suc n) zero l =
    let e : (one (f 0) + number_of (λ k. f (suc k)) n * 2) % 2 ≡ one (f 0) = omega (arith, (one-small (f 0)).0) in
    rw e (one-small (f 0)).1
bit-number f (suc n) (suc k) l =
    let e : (one (f 0) + number_of (λ k. f (suc k)) n * 2) / 2 ≡ number_of (λ k. f (suc k)) n = omega (arith, (one-small (f 0)).0) in
    rw e (bit-number (λ k. f (suc k)) n k (omega arith))

number-cong : (f g : ℕ → Bool) (n : ℕ) → ((k : ℕ) → k < n → f k ≡ g k) → number_of f n ≡ number_of g n
unfolding number_of
number-cong f g zero h = refl
number-cong f g (suc n) h =
    ap₂ (λ (x : Bool) (y : ℕ). one x + y * 2) (h 0 (omega arith)) (number-cong (λ k. f (suc k)) (λ k. g (suc k)) n (λ k l. h (suc k) (omega arith)))

-- the members are those that the test picks
pub has-set : (f : ℕ → Bool) (k : ℕ) → has (set_of f) k ≡ (ltb k 256 && f k)
unfolding has set_of
has-set f k = ⊎_elim out inside (le-or-lt 256 k)
  where
    out : 256 ≤ k → (ltb k 256 && bit (get_or (tabulate (λ j. number_of (λ i. f (64 * j + i)) 64) 4) (k / 64) 0) (k % 64)) ≡ (ltb k 256 && f k)
    out l = rw (le-ltb k 256 l)

    inside : k < 256 → (ltb k 256 && bit (get_or (tabulate (λ j. number_of (λ i. f (64 * j + i)) 64) 4) (k / 64) 0) (k % 64)) ≡ (ltb k 256 && f k)
    inside l =
        let e : 64 * (k / 64) + k % 64 ≡ k = omega arith in
        rw (lt-ltb k 256 l, get_or-tabulate (λ j. number_of (λ i. f (64 * j + i)) 64) 4 (k / 64) (omega arith))
        (bit-number (λ i. f (64 * (k / 64) + i)) 64 (k % 64) (omega arith) ∙ ap f e)

pub set_words : (f : ℕ → Bool) → Words (set_of f).words
unfolding set_of
set_words f = record { four = length-tabulate (λ j. number_of (λ k. f (64 * j + k)) 64) 4; fit = fit }
  where
    fit : (j : ℕ) → get_or (tabulate (λ j. number_of (λ k. f (64 * j + k)) 64) 4) j 0 < 2 ^ 64
    fit j = ⊎_elim (λ (l : 4 ≤ j). rw (tabulate-out (λ j. number_of (λ k. f (64 * j + k)) 64) 4 j l) (pow_pos 64))
        (λ (l : j < 4). rw (get_or-tabulate (λ j. number_of (λ k. f (64 * j + k)) 64) 4 j l) (number_small (λ k. f (64 * j + k)) 64)) (le-or-lt 4 j)

-- a set of whole words is the one that its members make
pub is_set : (p : Positions) (f : ℕ → Bool) → Words p.words → ((k : ℕ) → k < 256 → has p k ≡ f k) → p ≡ set_of f
is_set p f w h = ext-positions p (set_of f) w (set_words f) (λ k. ⊎_elim (λ (l : 256 ≤ k). has-out p k l ∙ sym (has-set f k ∙ rw (le-ltb k 256 l)))
    (λ (l : k < 256). h k l ∙ sym (has-set f k ∙ rw (lt-ltb k 256 l))) (le-or-lt 256 k))

pub set-cong : (f g : ℕ → Bool) → ((k : ℕ) → k < 256 → f k ≡ g k) → set_of f ≡ set_of g
set-cong f g h = is_set (set_of f) g (set_words f) (λ k l. has-set f k ∙ rw (lt-ltb k 256 l) (h k l))

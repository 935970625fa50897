-- Laws of the bits of a number: what the operators of the code do to each bit.
use mathlib.Core.Bool.{and-true, Bool, true, false, ◌&&◌, ◌||◌, not}
use mathlib.Core.Logic.{⊎_elim}
use mathlib.Core.Path.{◌≡◌, refl, sym, ap, ap₂, ◌∙◌}
use Prim.Native.Nat.{ℕ, zero, suc, ◌+◌, ◌-◌, ◌*◌, ◌/◌, ◌%◌, ◌^◌, ◌<◌, ◌≤◌, min, max}
use native.Mathlib.Nat.{one-mul, add-zero, add-suc, zero-mul, zero-mod, pow-suc, pow-succ', div-eq_of_lt-le, div-one, div-div-eq-div-mul, sub-zero, eq-zero-or-pos}
use native.Mathlib.Omega.{arith}
use lib.Dec.{ltb, eqb, lit<, leb-suc-suc, eqb-suc-suc, eqb-suc-zero, eqb-zero-suc}
use lib.Arith.{digits_mod, digits_div}
use lib.Pow.{pow_pos, shl_exact, shl-shr, high, low}
use lib.Bits.{bit_and, bit_or, and_step, or_step, and_mask, shifted_half, shifted_even}
use lib.Count.{ones, ones_step, under, count_trailing_zeros, trailing_le, count_leading_zeros, leading_top, leading_of_zero}
use borrow.Author.Tests.{lt-ltb, le-ltb, not-true, not-false}
use Rattle.numbers.specs.Words.{joined_words}
use Rattle.laws.specs.Counting.{one, count_below}
use Rattle.laws.proofs.Counting.{count-first}
use Rattle.positions.specs.Bits.{is_one, bit}
use Rattle.positions.specs.Inner.{LowZero, BitLength}

-- a digit is 0 or 1
mod2 : (n : ℕ) → n % 2 < 2
mod2 n = omega arith

min-digits : (x y : ℕ) → x < 2 → y < 2 → (min x y < 2) × (is_one (min x y) ≡ (is_one x && is_one y))
min-digits zero zero p q = (omega arith, refl)
min-digits zero (suc zero) p q = (omega arith, refl)
min-digits zero (suc (suc y)) p q = absurd (omega arith)
min-digits (suc zero) zero p q = (omega arith, refl)
min-digits (suc zero) (suc zero) p q = (omega arith, refl)
min-digits (suc zero) (suc (suc y)) p q = absurd (omega arith)
min-digits (suc (suc x)) y p q = absurd (omega arith)

max-digits : (x y : ℕ) → x < 2 → y < 2 → (max x y < 2) × (is_one (max x y) ≡ (is_one x || is_one y))
max-digits zero zero p q = (omega arith, refl)
max-digits zero (suc zero) p q = (omega arith, refl)
max-digits zero (suc (suc y)) p q = absurd (omega arith)
max-digits (suc zero) zero p q = (omega arith, refl)
max-digits (suc zero) (suc zero) p q = (omega arith, refl)
max-digits (suc zero) (suc (suc y)) p q = absurd (omega arith)
max-digits (suc (suc x)) y p q = absurd (omega arith)

pub bit-and : (k a b : ℕ) → bit (bit_and a b) k ≡ (bit a k && bit b k)
unfolding bit
bit-and zero a b =
    let d = min-digits (a % 2) (b % 2) (mod2 a) (mod2 b) in
    rw (and_step, digits_mod (bit_and (a / 2) (b / 2)) d.0) d.1
bit-and (suc k) a b =
    let d = min-digits (a % 2) (b % 2) (mod2 a) (mod2 b) in
    rw (and_step, digits_div (bit_and (a / 2) (b / 2)) d.0) (bit-and k (a / 2) (b / 2))

pub bit-or : (k a b : ℕ) → bit (bit_or a b) k ≡ (bit a k || bit b k)
unfolding bit
bit-or zero a b =
    let d = max-digits (a % 2) (b % 2) (mod2 a) (mod2 b) in
    rw (or_step, digits_mod (bit_or (a / 2) (b / 2)) d.0) d.1
bit-or (suc k) a b =
    let d = max-digits (a % 2) (b % 2) (mod2 a) (mod2 b) in
    rw (or_step, digits_div (bit_or (a / 2) (b / 2)) d.0) (bit-or k (a / 2) (b / 2))

pub bit-zero : (k : ℕ) → bit 0 k ≡ false
unfolding bit
bit-zero zero = refl
bit-zero (suc k) = bit-zero k

-- above its length a number has no bit
pub bit_high : (j n k : ℕ) → n < 2 ^ k → k ≤ j → bit n j ≡ false
unfolding bit
bit_high j n zero h p = let e : n ≡ 0 = omega arith in rw e (bit-zero j)
bit_high zero n (suc k) h p = absurd (omega arith)
bit_high (suc j) n (suc k) h p =
    let g : n < 2 ^ k * 2 = rw pow-suc at h in
    bit_high j (n / 2) k (omega arith) (omega arith)

-- a bit by a shift
pub bit-shift : (k n : ℕ) → bit n k ≡ is_one (n / 2 ^ k % 2)
unfolding bit
bit-shift zero n = rw div-one
bit-shift (suc k) n = bit-shift k (n / 2) ∙ ap (λ (x : ℕ). is_one (x % 2)) (div-div-eq-div-mul n 2 (2 ^ k) ∙ ap (λ (x : ℕ). n / x) (sym (pow-succ' 2 k)))

not_digit : (x : ℕ) → x < 2 → is_one (1 - x) ≡ not (is_one x)
not_digit zero p = refl
not_digit (suc zero) p = refl
not_digit (suc (suc x)) p = absurd (omega arith)

-- the complement at n bits
pub bit_not : (n k b : ℕ) → b < 2 ^ n → bit ((2 ^ n - 1) - b) k ≡ (ltb k n && not (bit b k))
unfolding bit
bit_not zero k b h =
    let e : 0 - b ≡ 0 = omega arith in
    rw (e, le-ltb k 0 (omega arith)) (bit-zero k)
bit_not (suc n) zero b h =
    let g : b < 2 ^ n * 2 = rw pow-suc at h in
    let e : ((2 ^ n * 2 - 1) - b) % 2 ≡ 1 - b % 2 = omega (arith, pow_pos n) in
    rw (pow-suc, e, lt-ltb 0 (suc n) (omega arith)) (not_digit (b % 2) (mod2 b))
bit_not (suc n) (suc k) b h =
    let g : b < 2 ^ n * 2 = rw pow-suc at h in
    let e : ((2 ^ n * 2 - 1) - b) / 2 ≡ (2 ^ n - 1) - b / 2 = omega (arith, pow_pos n) in
    rw (pow-suc, e, leb-suc-suc) (bit_not n k (b / 2) (omega arith))

pub bit-pow : (i k : ℕ) → bit (2 ^ i) k ≡ eqb k i
unfolding bit
bit-pow zero zero = refl
bit-pow zero (suc k) = rw eqb-suc-zero (bit-zero k)
bit-pow (suc i) zero =
    let e : (2 ^ i * 2) % 2 ≡ 0 = omega arith in rw (pow-suc, e, eqb-zero-suc)
bit-pow (suc i) (suc k) =
    let e : (2 ^ i * 2) / 2 ≡ 2 ^ i = omega arith in rw (pow-suc, e, eqb-suc-suc) (bit-pow i k)

pub bit_mask : (n k : ℕ) → bit (2 ^ n - 1) k ≡ ltb k n
bit_mask n k = rw (← sub-zero (2 ^ n - 1)) (bit_not n k 0 (pow_pos n) ∙ rw bit-zero (and-true (ltb k n)))

pub one-digit : (x : ℕ) → x < 2 → one (is_one x) ≡ x
one-digit zero p = refl
one-digit (suc zero) p = refl
one-digit (suc (suc x)) p = absurd (omega arith)

pub ones-count : (k n : ℕ) → n < 2 ^ k → ones n ≡ count_below (bit n) k
unfolding bit ones count_below
ones-count zero n h = let e : n ≡ 0 = omega arith in rw e refl
ones-count (suc k) n h =
    let g : n < 2 ^ k * 2 = rw pow-suc at h in
    ones_step n ∙ ap₂ (λ (x y : ℕ). x + y) (sym (one-digit (n % 2) (mod2 n))) (ones-count k (n / 2) (omega arith)) ∙ sym (count-first (bit n) k)

-- two numbers of k bits with the same bits are equal
pub bit-ext : (k a b : ℕ) → a < 2 ^ k → b < 2 ^ k → ((j : ℕ) → j < k → bit a j ≡ bit b j) → a ≡ b
unfolding bit
bit-ext zero a b p q h = omega arith
bit-ext (suc k) a b p q h =
    let p' : a < 2 ^ k * 2 = rw pow-suc at p in
    let q' : b < 2 ^ k * 2 = rw pow-suc at q in
    let halves : a / 2 ≡ b / 2 = bit-ext k (a / 2) (b / 2) (omega arith) (omega arith) (λ j l. h (suc j) (omega arith)) in
    let low : a % 2 ≡ b % 2 = sym (one-digit (a % 2) (mod2 a)) ∙ ap one (h 0 (omega arith)) ∙ one-digit (b % 2) (mod2 b) in
    omega arith

trailing_below : (t n : ℕ) → n % 2 ≡ 0 → ((j : ℕ) → j < t → bit (n / 2) j ≡ false) → (j : ℕ) → j < suc t → bit n j ≡ false
unfolding bit
trailing_below t n e h zero p = ap is_one e
trailing_below t n e h (suc j) p = h j (omega arith)

-- the lowest bit that is set
Trailing : ℕ → ℕ → ℕ → Type 0
Trailing k n t = ((j : ℕ) → j < t → bit n j ≡ false) × (t < k → bit n t ≡ true)

trailing-step : (d t k n : ℕ) → n % 2 ≡ d → Trailing k (n / 2) t → Trailing (suc k) n (under d t)
unfolding bit Trailing
trailing-step zero t k n e h = (trailing_below t n e h.0, λ p. h.1 (omega arith))
trailing-step (suc d) t k n e h = (λ j p. absurd (omega arith), λ p. ap is_one e)

trailing' : (k n : ℕ) → Trailing k n (count_trailing_zeros k n)
unfolding count_trailing_zeros Trailing
trailing' zero n = (λ j p. absurd (omega arith), λ p. absurd (omega arith))
trailing' (suc k) n = trailing-step (n % 2) (count_trailing_zeros k (n / 2)) k n refl (trailing' k (n / 2))

pub trailing : (k n : ℕ) → ((j : ℕ) → j < count_trailing_zeros k n → bit n j ≡ false) × (count_trailing_zeros k n < k → bit n (count_trailing_zeros k n) ≡ true)
unfolding Trailing
trailing k n = trailing' k n

-- the highest bit that is set
pub leading : (k a : ℕ) → 0 < a → a < 2 ^ k → (j : ℕ) × (count_leading_zeros k a + suc j ≡ k) × (bit a j ≡ true) × ((i : ℕ) → j < i → bit a i ≡ false)
leading k a p h =
    let t = leading_top k a p h in
    let low : 2 ^ t.0 ≤ a = t.2 in
    let high : a < 2 ^ t.0 * 2 = rw pow-suc at t.3 in
    let e : a / 2 ^ t.0 ≡ 1 = div-eq_of_lt-le (2 ^ t.0) (omega arith) (omega arith) in
    (t.0, t.1, bit-shift t.0 a ∙ ap (λ (x : ℕ). is_one (x % 2)) e, λ i q. bit_high i a (suc t.0) t.3 q)

-- ---- what the operators of the code make

pub shl_one : (k : ℕ) → k < 64 → (1 * 2 ^ k) % 2 ^ 64 ≡ 2 ^ k
shl_one k h = shl_exact {a = 1} 1 k 64 (lit< tt) (omega arith) ∙ one-mul (2 ^ k)

pub bit-not64 : (w j : ℕ) → w < 2 ^ 64 → j < 64 → bit ((2 ^ 64 - 1) - w) j ≡ not (bit w j)
bit-not64 w j h p = bit_not 64 j w h ∙ rw (lt-ltb j 64 p)

eqb-digit : (x : ℕ) → x < 2 → eqb x 1 ≡ is_one x
eqb-digit zero p = refl
eqb-digit (suc zero) p = refl
eqb-digit (suc (suc x)) p = absurd (omega arith)

pub low_digit : (x : ℕ) → bit_and x 1 ≡ x % 2
low_digit x = and_mask x 1

pub test_bit : (w k : ℕ) → eqb (bit_and (w / 2 ^ k) 1) 1 ≡ bit w k
test_bit w k = ap (λ (x : ℕ). eqb x 1) (low_digit (w / 2 ^ k)) ∙ eqb-digit (w / 2 ^ k % 2) (mod2 (w / 2 ^ k)) ∙ sym (bit-shift k w)

pub digit-bit : (w k : ℕ) → is_one (bit_and (w / 2 ^ k) 1) ≡ bit w k
digit-bit w k = ap is_one (low_digit (w / 2 ^ k)) ∙ sym (bit-shift k w)

pub low-zero-law : (w : ℕ) → w < 2 ^ 64 → LowZero w (count_trailing_zeros 64 ((2 ^ 64 - 1) - w))
low-zero-law w h =
    let v = (2 ^ 64 - 1) - w in
    let t = trailing 64 v in
    let m = trailing_le 64 v in
    record {
      most = m;
      before = λ j p. not-false (bit w j) (sym (bit-not64 w j h (omega arith)) ∙ t.0 j p);
      clear = λ p. not-true (bit w (count_trailing_zeros 64 v)) (sym (bit-not64 w (count_trailing_zeros 64 v) h p) ∙ t.1 p);
    }

pub bit-length-law : (w : ℕ) → w < 2 ^ 64 → BitLength w (64 - count_leading_zeros 64 w)
bit-length-law w h = ⊎_elim zeros more (eq-zero-or-pos w)
  where
    zeros : w ≡ 0 → BitLength w (64 - count_leading_zeros 64 w)
    zeros e = rw (e, leading_of_zero 64) (record { most = omega arith; above = λ j p. bit-zero j; top = λ j p. absurd (omega arith) })

    more : 0 < w → BitLength w (64 - count_leading_zeros 64 w)
    more p =
        let t = leading 64 w p h in
        let e : 64 - count_leading_zeros 64 w ≡ suc t.0 = omega (arith, t.1) in
        rw e (record {
          most = omega (arith, t.1);
          above = λ j q. t.3 j q;
          top = λ j q. let z : j ≡ t.0 = omega arith in rw z t.2;
        })

-- a word shifted down, up, and cut off
pub bit-shr : (s j n : ℕ) → bit (n / 2 ^ s) j ≡ bit n (j + s)
unfolding bit
bit-shr zero j n = rw (div-one, add-zero)
bit-shr (suc s) j n =
    let e : n / 2 ^ suc s ≡ n / 2 / 2 ^ s = ap (λ (x : ℕ). n / x) (pow-succ' 2 s) ∙ sym (div-div-eq-div-mul n 2 (2 ^ s)) in
    rw (e, add-suc) (bit-shr s j (n / 2))

pub bit-shl-high : (s j n : ℕ) → bit (n * 2 ^ s) (j + s) ≡ bit n j
bit-shl-high s j n = sym (bit-shr s j (n * 2 ^ s)) ∙ ap (λ (x : ℕ). bit x j) (shl-shr n s)

pub bit-shl-low : (s j n : ℕ) → j < s → bit (n * 2 ^ s) j ≡ false
unfolding bit
bit-shl-low zero j n l = absurd (omega arith)
bit-shl-low (suc s) zero n l = rw (shifted_even n s)
bit-shl-low (suc s) (suc j) n l = rw (shifted_half n s) (bit-shl-low s j n (omega arith))

pub bit-mod : (n j a : ℕ) → bit (a % 2 ^ n) j ≡ (bit a j && ltb j n)
bit-mod n j a = rw (← and_mask a n) (bit-and j a (2 ^ n - 1) ∙ ap (λ (x : Bool). bit a j && x) (bit_mask n j))

pub digit-law : (w d k j : ℕ) → d < 2 → k < 64 → bit (bit_or w ((d * 2 ^ k) % 2 ^ 64)) j ≡ (bit w j || (is_one d && eqb j k))
digit-law w zero k j p q = rw (zero-mul, zero-mod) (bit-or j w 0 ∙ rw bit-zero)
digit-law w (suc zero) k j p q = rw (shl_one k q) (bit-or j w (2 ^ k) ∙ rw bit-pow)
digit-law w (suc (suc d)) k j p q = absurd (omega arith)

-- ---- the word that starts at bit s of two: its bits are those of the low word from s on, then those of the high one
module _ (lo hi s j : ℕ) (l : lo < 2 ^ 64) where
  from-both : j < 64 → bit (joined_words lo hi s) j ≡ bit (hi * 2 ^ 64 + lo) (j + s)
  unfolding joined_words
  from-both m = bit-mod 64 j ((hi * 2 ^ 64 + lo) / 2 ^ s) ∙ rw (lt-ltb j 64 m, bit-shr s j (hi * 2 ^ 64 + lo)) (and-true (bit (hi * 2 ^ 64 + lo) (j + s)))

  pub joined-near : j + s < 64 → bit (joined_words lo hi s) j ≡ bit lo (j + s)
  joined-near m =
      let e : bit (hi * 2 ^ 64 + lo) (j + s) ≡ bit lo (j + s) = sym (and-true (bit (hi * 2 ^ 64 + lo) (j + s))) ∙ rw (← lt-ltb (j + s) 64 m, ← bit-mod) (ap (λ (x : ℕ). bit x (j + s)) (low hi 64 l)) in
      from-both (omega arith) ∙ e

  pub joined-far : j < 64 → 64 ≤ j + s → bit (joined_words lo hi s) j ≡ bit hi ((j + s) - 64)
  joined-far m o =
      let e : j + s ≡ ((j + s) - 64) + 64 = omega arith in
      from-both m ∙ ap (bit (hi * 2 ^ 64 + lo)) e ∙ sym (bit-shr 64 ((j + s) - 64) (hi * 2 ^ 64 + lo)) ∙ ap (λ (x : ℕ). bit x ((j + s) - 64)) (high hi 64 l)

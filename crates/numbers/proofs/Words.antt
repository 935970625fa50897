-- Two words as one number: what the shifts of `joined` make, and what is left of the low word with so many bits of the high one above it.
use mathlib.Core.Path.{◌≡◌, sym, ap, ◌∙◌}
use Prim.Native.Nat.{ℕ, suc, ◌+◌, ◌-◌, ◌*◌, ◌/◌, ◌%◌, ◌^◌, ◌<◌}
use native.Mathlib.Nat.{add-zero, mul_assoc, mul-mod_left, mul-add-div_right, pow-succ'}
use native.Mathlib.Omega.{arith}
use lib.Pow.{pow-add, pow_pos, shl-shr, shr_lt, high, low, mod-pow-add, mod-mod-pow}
use lib.Bits.{bit_or, or_shifted_r}
use Rattle.numbers.specs.Words.{joined_words}

-- a shift up keeps the low digits
shl-mod : (a j k : ℕ) → (a * 2 ^ k) % 2 ^ (j + k) ≡ (a % 2 ^ j) * 2 ^ k
shl-mod a j k = mod-pow-add (a * 2 ^ k) j k ∙ rw (shl-shr a k, mul-mod_left a (2 ^ k)) (add-zero ((a % 2 ^ j) * 2 ^ k))

-- of the high word the t lowest bits come above the k + 1 that the low word leaves
up : (w k t : ℕ) → k + t ≡ 63 → ((w * 2 ^ 1) % 2 ^ 64 * 2 ^ k) % 2 ^ 64 ≡ (w % 2 ^ t) * 2 ^ suc k
up w k t e =
    let all : t + suc k ≡ 64 = omega arith in
    let moved : (w % 2 ^ 63) * 2 ^ 1 * 2 ^ k ≡ (w % 2 ^ 63) * 2 ^ suc k = mul_assoc (w % 2 ^ 63) (2 ^ 1) (2 ^ k) ∙ ap (λ (x : ℕ). (w % 2 ^ 63) * x) (sym (pow-succ' 2 k)) in
    ap (λ (x : ℕ). (x * 2 ^ k) % 2 ^ 64) (shl-mod w 63 1) ∙ ap (λ (x : ℕ). x % 2 ^ 64) moved ∙ ap (λ (x : ℕ). ((w % 2 ^ 63) * 2 ^ suc k) % 2 ^ x) (sym all)
    ∙ shl-mod (w % 2 ^ 63) t (suc k) ∙ ap (λ (x : ℕ). (w % 2 ^ x % 2 ^ t) * 2 ^ suc k) (sym e) ∙ ap (λ (x : ℕ). x * 2 ^ suc k) (mod-mod-pow w k t)

module _ (lo hi k t : ℕ) (e : k + t ≡ 63) (l : lo < 2 ^ 64) where
  small : lo / 2 ^ t < 2 ^ suc k
  small = let all : suc k + t ≡ 64 = omega arith in shr_lt (suc k) t (rw all l)

  -- so shifted down the two words are the high one above what the low one leaves
  shifted : (hi * 2 ^ 64 + lo) / 2 ^ t ≡ hi * 2 ^ suc k + lo / 2 ^ t
  shifted =
      let all : suc k + t ≡ 64 = omega arith in
      let moved : hi * 2 ^ 64 ≡ hi * 2 ^ suc k * 2 ^ t = ap (λ (x : ℕ). hi * 2 ^ x) (sym all) ∙ ap (λ (x : ℕ). hi * x) (pow-add 2 (suc k) t) ∙ sym (mul_assoc hi (2 ^ suc k) (2 ^ t)) in
      ap (λ (x : ℕ). (x + lo) / 2 ^ t) moved ∙ mul-add-div_right (pow_pos t) (hi * 2 ^ suc k) lo

  both : joined_words lo hi t ≡ (hi % 2 ^ t) * 2 ^ suc k + lo / 2 ^ t
  unfolding joined_words
  both =
      let all : t + suc k ≡ 64 = omega arith in
      ap (λ (x : ℕ). x % 2 ^ 64) shifted ∙ ap (λ (x : ℕ). (hi * 2 ^ suc k + lo / 2 ^ t) % 2 ^ x) (sym all) ∙ mod-pow-add (hi * 2 ^ suc k + lo / 2 ^ t) t (suc k)
      ∙ rw (high hi (suc k) small, low hi (suc k) small)

pub joined-law : (lo hi t : ℕ) → lo < 2 ^ 64 → t < 64 → bit_or (lo / 2 ^ t) ((hi * 2 ^ 1 % 2 ^ 64 * 2 ^ (63 - t)) % 2 ^ 64) ≡ joined_words lo hi t
joined-law lo hi t l h =
    let e : (63 - t) + t ≡ 63 = omega arith in
    ap (bit_or (lo / 2 ^ t)) (up hi (63 - t) t e) ∙ or_shifted_r (hi % 2 ^ t) (suc (63 - t)) (lo / 2 ^ t) (small lo hi (63 - t) t e l) ∙ sym (both lo hi (63 - t) t e l)

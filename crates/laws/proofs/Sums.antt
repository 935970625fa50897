-- Laws of sums over the numbers below a bound.
use mathlib.Core.Path.{◌≡◌, refl, sym, ap₂}
use Prim.Native.Nat.{ℕ, zero, suc, ◌+◌, ◌*◌, ◌-◌, ◌<◌, ◌≤◌}
use native.Mathlib.Nat.{mul-suc}
use native.Mathlib.Decide.{ℕ_discrete}
use native.Mathlib.Omega.{arith}
use Rattle.laws.specs.Counting.{sum_below}

-- a sum of n numbers up to b is at most n times b
pub sum-le : (f : ℕ → ℕ) (n b : ℕ) → ((k : ℕ) → k < n → f k ≤ b) → sum_below f n ≤ b * n
unfolding sum_below
sum-le f zero b h = omega arith
sum-le f (suc n) b h = rw mul-suc (omega (arith, sum-le f n b (λ k l. h k (omega arith)), h n (omega arith)))

-- a bound further up sums no less
pub sum-up : (f : ℕ → ℕ) (m n : ℕ) → m ≤ n → sum_below f m ≤ sum_below f n
unfolding sum_below
sum-up f m zero l = let e : m ≡ 0 = omega arith in rw e (omega arith)
sum-up f m (suc n) l = elim (ℕ_discrete m (suc n)) [
  | yes q ↦ rw q (omega arith)
  | no q ↦ omega (arith, sum-up f m n (omega arith))
]

pub sum-cong : (f g : ℕ → ℕ) (n : ℕ) → ((k : ℕ) → k < n → f k ≡ g k) → sum_below f n ≡ sum_below g n
unfolding sum_below
sum-cong f g zero h = refl
sum-cong f g (suc n) h = ap₂ (λ (x y : ℕ). x + y) (sum-cong f g n (λ k p. h k (omega arith))) (h n (omega arith))

-- one sum less another, entry by entry
pub sum-sub : (f g : ℕ → ℕ) (n : ℕ) → ((k : ℕ) → k < n → g k ≤ f k) → sum_below (λ k. f k - g k) n + sum_below g n ≡ sum_below f n
unfolding sum_below
sum-sub f g zero h = refl
sum-sub f g (suc n) h = omega (arith, sum-sub f g n (λ k p. h k (omega arith)), h n (omega arith))

-- one entry one higher
pub sum_bump : (f g : ℕ → ℕ) (n i : ℕ) → i < n → g i ≡ f i + 1 → ((k : ℕ) → (k ≡ i → ⊥) → g k ≡ f k) → sum_below g n ≡ sum_below f n + 1
unfolding sum_below
sum_bump f g zero i l e h = absurd (omega arith)
sum_bump f g (suc n) i l e h = elim (ℕ_discrete i n) [
  | yes q ↦
      let e' : g n ≡ f n + 1 = rw q at e in
      let s = sum-cong g f n (λ k p. h k (λ z. omega arith)) in
      omega arith
  | no q ↦ omega (arith, sum_bump f g n i (omega arith) e h, h n (λ z. q (sym z)))
]

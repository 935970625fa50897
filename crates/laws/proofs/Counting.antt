-- Laws of what is counted, found, held by all and summed over the numbers below a bound.
use mathlib.Core.Bool.{Bool, true, false, ◌&&◌, ◌||◌, not, or-true, false≢true}
use mathlib.Core.Path.{◌≡◌, refl, sym, ap₂, ◌∙◌}
use mathlib.Core.Logic.{⊎_elim}
use Prim.Native.Nat.{ℕ, zero, suc, ◌+◌, ◌<◌, ◌≤◌}
use native.Mathlib.Nat.{add-zero, add-suc}
use native.Mathlib.Decide.{ℕ_discrete}
use native.Mathlib.Omega.{arith}
use lib.Dec.{eqb}
use borrow.Author.Tests.{eq-eqb, eqb-true}
use Rattle.laws.specs.Counting.{one, count_below, any_below, all_below}
use Rattle.laws.proofs.Orders.{and_both, le-or-lt, true-or-false, is_false}

-- ---- each number below n

pub all-intro : (f : ℕ → Bool) (n : ℕ) → ((k : ℕ) → k < n → f k ≡ true) → all_below f n ≡ true
unfolding all_below
all-intro f zero h = refl
all-intro f (suc n) h = rw (all-intro f n (λ k l. h k (omega arith)), h n (omega arith))

pub all-elim : (f : ℕ → Bool) (n : ℕ) → all_below f n ≡ true → (k : ℕ) → k < n → f k ≡ true
unfolding all_below
all-elim f zero e k l = absurd (omega arith)
all-elim f (suc n) e k l =
    let a = and_both (all_below f n) (f n) e in
    elim (ℕ_discrete k n) [ yes q ↦ rw q a.1 | no q ↦ all-elim f n a.0 k (omega arith) ]

-- one that fails is enough
pub all-fails : (f : ℕ → Bool) (n k : ℕ) → k < n → f k ≡ false → all_below f n ≡ false
all-fails f n k l e = is_false (all_below f n) (λ a. false≢true (sym e ∙ all-elim f n a k l))

-- ---- some number below n

pub any-intro : (f : ℕ → Bool) (n j : ℕ) → j < n → f j ≡ true → any_below f n ≡ true
unfolding any_below
any-intro f zero j l e = absurd (omega arith)
any-intro f (suc n) j l e = elim (ℕ_discrete j n) [
  | yes q ↦ let e' : f n ≡ true = rw q at e in rw e' (or-true (any_below f n))
  | no q ↦ rw (any-intro f n j (omega arith) e)
]

any_step : (f : ℕ → Bool) (n : ℕ) (b c : Bool) → (b ≡ true → (j : ℕ) × (j < n) × (f j ≡ true)) → f n ≡ c → (b || c) ≡ true → (j : ℕ) × (j < suc n) × (f j ≡ true)
any_step f n true c h q e = let r = h refl in (r.0, omega (arith, r.1), r.2)
any_step f n false c h q e = (n, omega arith, q ∙ e)

pub any-elim : (f : ℕ → Bool) (n : ℕ) → any_below f n ≡ true → (j : ℕ) × (j < n) × (f j ≡ true)
unfolding any_below
any-elim f zero e = absurd (false≢true e)
any-elim f (suc n) e = any_step f n (any_below f n) (f n) (any-elim f n) refl e

-- ---- how many numbers below n

pub one-mono : (x y : Bool) → (x ≡ true → y ≡ true) → one x ≤ one y
one-mono false y h = omega arith
one-mono true true h = omega arith
one-mono true false h = absurd (false≢true (h refl))

pub count-cong : (f g : ℕ → Bool) (n : ℕ) → ((k : ℕ) → k < n → f k ≡ g k) → count_below f n ≡ count_below g n
unfolding count_below
count-cong f g zero h = refl
count-cong f g (suc n) h = ap₂ (λ (x : ℕ) (y : Bool). x + one y) (count-cong f g n (λ k p. h k (omega arith))) (h n (omega arith))

pub count-first : (f : ℕ → Bool) (n : ℕ) → count_below f (suc n) ≡ one (f 0) + count_below (λ k. f (suc k)) n
unfolding count_below
count-first f zero = omega arith
count-first f (suc n) = omega (arith, count-first f n)

pub count_add : (f : ℕ → Bool) (m n : ℕ) → count_below f (m + n) ≡ count_below f m + count_below (λ k. f (m + k)) n
unfolding count_below
count_add f m zero = rw (add-zero m, add-zero)
count_add f m (suc n) = rw add-suc (omega (arith, count_add f m n))

pub count-mono : (f g : ℕ → Bool) (n : ℕ) → ((k : ℕ) → f k ≡ true → g k ≡ true) → count_below f n ≤ count_below g n
unfolding count_below
count-mono f g zero h = omega arith
count-mono f g (suc n) h = omega (arith, count-mono f g n h, one-mono (f n) (g n) (h n))

pub count-le : (f : ℕ → Bool) (n : ℕ) → count_below f n ≤ n
unfolding count_below
count-le f zero = omega arith
count-le f (suc n) = omega (arith, count-le f n, one-mono (f n) true (λ e. refl))

-- a bound further up counts no less
pub count-up : (f : ℕ → Bool) (m n : ℕ) → m ≤ n → count_below f m ≤ count_below f n
unfolding count_below
count-up f m zero l = let e : m ≡ 0 = omega arith in rw e (omega arith)
count-up f m (suc n) l = elim (ℕ_discrete m (suc n)) [
  | yes q ↦ rw q (omega arith)
  | no q ↦ omega (arith, count-up f m n (omega arith))
]

-- of n, no more than n are picked
pub count-within : (f : ℕ → Bool) (n m : ℕ) → ((k : ℕ) → k < m → f k ≡ true → k < n) → count_below f m ≤ n
unfolding count_below
count-within f n zero h = omega arith
count-within f n (suc m) h = ⊎_elim
    (λ (l : n ≤ m). ⊎_elim (λ (t : f m ≡ true). absurd (omega (arith, h m (omega arith) t))) (λ (z : f m ≡ false). rw z (omega (arith, count-within f n m (λ k q. h k (omega arith))))) (true-or-false (f m)))
    (λ (l : m < n). omega (arith, count-le f (suc m))) (le-or-lt n m)

-- a set within another, with one member less, is smaller
pub count_less : (f g : ℕ → Bool) (p n : ℕ) → p < n → ((k : ℕ) → f k ≡ true → g k ≡ true) → g p ≡ true → f p ≡ false → count_below f n < count_below g n
unfolding count_below
count_less f g p zero l h a b = absurd (omega arith)
count_less f g p (suc n) l h a b = elim (ℕ_discrete p n) [
  | yes q ↦ let a' : g n ≡ true = rw q at a in let b' : f n ≡ false = rw q at b in rw (a', b') (omega (arith, count-mono f g n h))
  | no q ↦ omega (arith, count_less f g p n (omega arith) h a b, one-mono (f n) (g n) (h n))
]

-- the numbers that satisfy f and those that do not are all
pub count-not : (f : ℕ → Bool) (n : ℕ) → count_below f n + count_below (λ k. not (f k)) n ≡ n
unfolding count_below
count-not f zero = refl
count-not f (suc n) = omega (arith, count-not f n, one-not (f n))
  where
    one-not : (b : Bool) → one b + one (not b) ≡ 1
    one-not true = refl
    one-not false = refl

pub count-rises : (f : ℕ → Bool) (k n : ℕ) → k < n → f k ≡ true → count_below f k < count_below f n
unfolding count_below
count-rises f k zero l e = absurd (omega arith)
count-rises f k (suc n) l e = elim (ℕ_discrete k n) [
  | yes q ↦ let e' : f n ≡ true = rw q at e in rw (q, e') (omega arith)
  | no q ↦ omega (arith, count-rises f k n (omega arith) e)
]

pub count-skips : (f : ℕ → Bool) (k n : ℕ) → k < n → f k ≡ false → count_below f n + suc k ≤ count_below f k + n
unfolding count_below
count-skips f k zero l e = absurd (omega arith)
count-skips f k (suc n) l e = elim (ℕ_discrete k n) [
  | yes q ↦ let e' : f n ≡ false = rw q at e in rw (q, e') (omega arith)
  | no q ↦ omega (arith, count-skips f k n (omega arith) e, one-mono (f n) true (λ h. refl))
]

-- what rises with the numbers that K picks tells them apart
pub rises-same : (K : ℕ → Bool) (f : ℕ → ℕ) → ((k n : ℕ) → k < n → K k ≡ true → f k < f n) → (k n : ℕ) → K k ≡ true → K n ≡ true → f k ≡ f n → k ≡ n
rises-same K f h k n a b e =
    ⊎_elim (λ (p : k ≤ n). ⊎_elim (λ (q : n ≤ k). omega arith) (λ (q : k < n). absurd (omega (arith, h k n q a))) (le-or-lt n k))
    (λ (p : n < k). absurd (omega (arith, h n k p b))) (le-or-lt k n)

pub any-cong : (f g : ℕ → Bool) (n : ℕ) → ((k : ℕ) → k < n → f k ≡ g k) → any_below f n ≡ any_below g n
unfolding any_below
any-cong f g zero h = refl
any-cong f g (suc n) h = ap₂ (λ (x y : Bool). x || y) (any-cong f g n (λ k l. h k (omega arith))) (h n (omega arith))

-- some number below n satisfies a and b, and c takes it to q
module _ (a b : ℕ → Bool) (c : ℕ → ℕ) (n q : ℕ) where
  pub goes-intro : (k : ℕ) → k < n → a k ≡ true → b k ≡ true → c k ≡ q → any_below (λ k. (a k && b k) && eqb (c k) q) n ≡ true
  goes-intro k l x y z = any-intro (λ k. (a k && b k) && eqb (c k) q) n k l (rw (x, y) (eq-eqb (c k) q z))

  pub goes-elim : any_below (λ k. (a k && b k) && eqb (c k) q) n ≡ true → (k : ℕ) × (k < n) × (a k ≡ true) × (b k ≡ true) × (c k ≡ q)
  goes-elim e =
      let w = any-elim (λ k. (a k && b k) && eqb (c k) q) n e in
      let s = and_both (a w.0 && b w.0) (eqb (c w.0) q) w.2 in
      let t = and_both (a w.0) (b w.0) s.0 in
      (w.0, w.1, t.0, t.1, eqb-true (c w.0) q s.1)

-- ---- one turn of a loop that counts

pub count_turn : (f : ℕ → Bool) (i n : ℕ) → n ≡ count_below f i → f i ≡ true → n + 1 ≡ count_below f (suc i)
unfolding count_below
count_turn f i n e p = rw (p, e)

pub count-pass : (f : ℕ → Bool) (i n : ℕ) → n ≡ count_below f i → f i ≡ false → n ≡ count_below f (suc i)
unfolding count_below
count-pass f i n e p = rw (p, e) (sym (add-zero (count_below f i)))

-- while one more is to be counted, the count is below the whole
pub count_room : (f : ℕ → Bool) (i n m : ℕ) → n ≡ count_below f i → f i ≡ true → i < m → n < count_below f m
count_room f i n m e p l = omega (arith, count_turn f i n e p, count-up f (suc i) m l)

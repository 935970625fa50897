-- Laws of the first, the last and the greatest below a bound, and of what holds with all before it.
use mathlib.Core.Bool.{Bool, true, false, not, ◌&&◌, ◌||◌, false≢true}
use mathlib.Core.Logic.{⊎_elim, ◌⊎◌, ◌↔◌, inl, inr}
use mathlib.Core.Path.{◌≡◌, refl, sym, ap, ◌∙◌}
use Prim.Native.Nat.{ℕ, zero, suc, ◌+◌, ◌<◌, ◌≤◌}
use native.Mathlib.Nat.{le-max_left, le-max_right, max-le}
use native.Mathlib.Decide.{ℕ_discrete}
use native.Mathlib.Omega.{arith}
use lib.Dec.{ltb}
use borrow.Author.Tests.{lt-ltb, ltb-true}
use Rattle.laws.specs.Counting.{pick, one, count_below, any_below, all_below, last_below, first_below, max_below}
use Rattle.laws.proofs.Orders.{le-or-lt, true-or-false, bool_iff, is_false}
use Rattle.laws.proofs.Counting.{any-intro}

-- none below n
pub any_none : (f : ℕ → Bool) (n : ℕ) → ((k : ℕ) → k < n → f k ≡ false) → any_below f n ≡ false
unfolding any_below
any_none f zero h = refl
any_none f (suc n) h = rw (any_none f n (λ k l. h k (omega arith)), h n (omega arith))

pub any_false : (f : ℕ → Bool) (n : ℕ) → any_below f n ≡ false → (k : ℕ) → k < n → f k ≡ false
any_false f n e k l = is_false (f k) (λ t. false≢true (sym e ∙ any-intro f n k l t))

-- ---- the first

pub first-none : (f : ℕ → Bool) (n : ℕ) → ((k : ℕ) → k < n → f k ≡ false) → first_below f n ≡ n
unfolding first_below
first-none f zero h = refl
first-none f (suc n) h = rw (any_none f n (λ k l. h k (omega arith)), h n (omega arith))

pub first-at : (f : ℕ → Bool) (n j : ℕ) → j < n → f j ≡ true → ((k : ℕ) → k < j → f k ≡ false) → first_below f n ≡ j
unfolding first_below
first-at f zero j l t h = absurd (omega arith)
first-at f (suc n) j l t h = elim (ℕ_discrete j n) [
  | yes q ↦ let t' : f n ≡ true = rw q at t in rw (any_none f n (λ k m. h k (omega arith)), t') (sym q)
  | no q ↦ rw (any-intro f n j (omega arith) t) (first-at f n j (omega arith) t h)
]

-- ---- the last

pub last_none : (f : ℕ → Bool) (n : ℕ) → ((k : ℕ) → k < n → f k ≡ false) → last_below f n ≡ 0
unfolding last_below
last_none f zero h = refl
last_none f (suc n) h = rw (h n (omega arith)) (last_none f n (λ k l. h k (omega arith)))

pub last-at : (f : ℕ → Bool) (n j : ℕ) → j < n → f j ≡ true → ((k : ℕ) → j < k → k < n → f k ≡ false) → last_below f n ≡ suc j
unfolding last_below
last-at f zero j l t h = absurd (omega arith)
last-at f (suc n) j l t h = elim (ℕ_discrete j n) [
  | yes q ↦ let t' : f n ≡ true = rw q at t in rw t' (ap suc (sym q))
  | no q ↦ rw (h n (omega arith) (omega arith)) (last-at f n j (omega arith) t (λ k a b. h k a (omega arith)))
]

-- a length that was found is one more than a number that satisfies the test
pub last-is : (f : ℕ → Bool) (n : ℕ) → 0 < last_below f n → (j : ℕ) × (j < n) × (f j ≡ true) × (last_below f n ≡ suc j)
unfolding last_below
last-is f zero l = absurd (omega arith)
last-is f (suc n) l = ⊎_elim
    (λ (t : f n ≡ true). (n, omega arith, t, rw t))
    (λ (z : f n ≡ false). let p : 0 < last_below f n = rw z at l in let w = last-is f n p in (w.0, omega (arith, w.1), w.2, rw z w.3)) (true-or-false (f n))

-- and no number from there on satisfies it
pub last_up : (f : ℕ → Bool) (n j : ℕ) → j < n → f j ≡ true → j < last_below f n
unfolding last_below
last_up f zero j l t = absurd (omega arith)
last_up f (suc n) j l t = ⊎_elim
    (λ (y : f n ≡ true). rw y l)
    (λ (z : f n ≡ false). elim (ℕ_discrete j n) [
      | yes e ↦ absurd (false≢true (sym z ∙ ap f (sym e) ∙ t))
      | no e ↦ rw z (last_up f n j (omega arith) t)
    ]) (true-or-false (f n))

-- ---- the greatest

pub max-up : (f : ℕ → ℕ) (n k : ℕ) → k < n → f k ≤ max_below f n
unfolding max_below
max-up f zero k l = absurd (omega arith)
max-up f (suc n) k l = elim (ℕ_discrete k n) [
  | yes q ↦ rw q (le-max_right (max_below f n) (f n))
  | no q ↦ omega (arith, max-up f n k (omega arith), le-max_left (max_below f n) (f n))
]

pub max_least : (f : ℕ → ℕ) (n b : ℕ) → ((k : ℕ) → k < n → f k ≤ b) → max_below f n ≤ b
unfolding max_below
max_least f zero b h = omega arith
max_least f (suc n) b h = max-le (max_least f n b (λ k l. h k (omega arith))) (h n (omega arith))

-- what the greatest reaches, some number reaches
pub max-hit : (f : ℕ → ℕ) (n b : ℕ) → 0 < b → b ≤ max_below f n → (k : ℕ) × (k < n) × (b ≤ f k)
unfolding max_below
max-hit f zero b p l = absurd (omega arith)
max-hit f (suc n) b p l = ⊎_elim
    (λ (q : b ≤ f n). (n, omega arith, q))
    (λ (q : f n < b). ⊎_elim
    (λ (m : b ≤ max_below f n). let w = max-hit f n b p m in (w.0, omega (arith, w.1), w.2))
    (λ (m : max_below f n < b). absurd (omega arith)) (le-or-lt b (max_below f n))) (le-or-lt b (f n))

pub first-le : (f : ℕ → Bool) (n : ℕ) → first_below f n ≤ n
unfolding first_below
first-le f zero = omega arith
first-le f (suc n) = first-pick (any_below f n) (f n) (first_below f n) n (first-le f n)
  where
    first-pick : (a b : Bool) (x n : ℕ) → x ≤ n → pick a x (pick b n (suc n)) ≤ suc n
    first-pick true b x n l = omega arith
    first-pick false true x n l = omega arith
    first-pick false false x n l = omega arith

-- a first one below n is there exactly when one is
pub first_any : (f : ℕ → Bool) (n : ℕ) → first_below f n < n → any_below f n ≡ true
first_any f n l = ⊎_elim (λ (t : any_below f n ≡ true). t) (λ (z : any_below f n ≡ false). absurd (omega (arith, first-none f n (any_false f n z)))) (true-or-false (any_below f n))

pub first-no : (f : ℕ → Bool) (n : ℕ) → n ≤ first_below f n → any_below f n ≡ false
first-no f n l = any_none f n (none f n n (omega arith) l)
  where
    none : (f : ℕ → Bool) (n m : ℕ) → m ≤ n → n ≤ first_below f n → (k : ℕ) → k < m → f k ≡ false
    none f n zero p l k q = absurd (omega arith)
    none f n (suc m) p l k q = elim (ℕ_discrete k m) [
      | yes e ↦ rw e (⊎_elim (λ (t : f m ≡ true). absurd (omega (arith, first-at f n m (omega arith) t (none f n m (omega arith) l)))) (λ (z : f m ≡ false). z) (true-or-false (f m)))
      | no e ↦ none f n m (omega arith) l k (omega arith)
    ]

-- each fails to satisfy g exactly when none satisfies it
pub all-not-any : (f g : ℕ → Bool) (n : ℕ) → ((k : ℕ) → k < n → f k ≡ not (g k)) → all_below f n ≡ not (any_below g n)
unfolding all_below any_below
all-not-any f g zero h = refl
all-not-any f g (suc n) h = rw (all-not-any f g n (λ k l. h k (omega arith)), h n (omega arith)) (de-morgan (any_below g n) (g n))
  where
    de-morgan : (a b : Bool) → (not a && not b) ≡ not (a || b)
    de-morgan true b = refl
    de-morgan false b = refl

-- every number below a count is the count below one that counts
pub count-hit : (f : ℕ → Bool) (n i : ℕ) → i < count_below f n → (k : ℕ) × (k < n) × (f k ≡ true) × (count_below f k ≡ i)
unfolding count_below
count-hit f zero i l = absurd (omega arith)
count-hit f (suc n) i l = ⊎_elim
    (λ (p : count_below f n ≤ i). hit (f n) refl p)
    (λ (p : i < count_below f n). let w = count-hit f n i p in (w.0, omega (arith, w.1), w.2, w.3)) (le-or-lt (count_below f n) i)
  where
    hit : (b : Bool) → f n ≡ b → count_below f n ≤ i → (k : ℕ) × (k < suc n) × (f k ≡ true) × (count_below f k ≡ i)
    hit true e p = (n, omega arith, e, (let m : count_below f n + 1 ≡ count_below f n + one (f n) = rw e in omega arith))
    hit false e p = absurd (let m : count_below f n + 0 ≡ count_below f n + one (f n) = rw e in omega arith)

-- ---- what holds with all before it

-- what is decided and holds of all before is a prefix
pub decided-prefix : (C : ℕ → Type 0) (n : ℕ) → ((k : ℕ) → k < n → C k ⊎ (C k → ⊥)) → ((j k : ℕ) → j < k → k < n → C k → C j)
    → (m : ℕ) × (m ≤ n) × ((k : ℕ) → k < n → C k ↔ (k < m))
decided-prefix C zero h down = (0, omega arith, λ k l. absurd (omega arith))
decided-prefix C (suc n) h down = ⊎_elim
    (λ (c : C n). (suc n, omega arith, λ k l. ((λ x. l), λ x. all c k l)))
    (λ (z : C n → ⊥). let w = decided-prefix C n (λ k l. h k (omega arith)) (λ j k a b. down j k a (omega arith)) in (
      w.0,
      omega (arith, w.1),
      λ k l. elim (ℕ_discrete k n) [
        | yes e ↦ rw e ((λ c. absurd (z c)), λ q. absurd (omega (arith, w.1)))
        | no e ↦ w.2 k (omega arith)
      ],
    )) (h n (omega arith))
  where
    all : C n → (k : ℕ) → k < suc n → C k
    all c k l = elim (ℕ_discrete k n) [ yes e ↦ rw e c | no e ↦ down k n (omega arith) (omega arith) c ]

-- and so is what a test holds of
pub down-prefix : (c : ℕ → Bool) (n : ℕ) → ((j k : ℕ) → j < k → k < n → c k ≡ true → c j ≡ true) → (m : ℕ) × (m ≤ n) × ((k : ℕ) → k < n → c k ≡ ltb k m)
down-prefix c n h =
    let w = decided-prefix (λ k. c k ≡ true) n (λ k l. decided (c k)) h in
    (w.0, w.1, λ k l. bool_iff (c k) (ltb k w.0) (λ e. lt-ltb k w.0 ((w.2 k l).0 e)) (λ e. (w.2 k l).1 (ltb-true k w.0 e)))
  where
    decided : (b : Bool) → (b ≡ true) ⊎ (b ≡ true → ⊥)
    decided true = inl refl
    decided false = inr false≢true

-- Counting by a relation: where each number below n has a partner below m, and no two have the same one, n is at most m.
use mathlib.Core.Logic.{◌⊎◌, inl, inr, ⊎_elim}
use mathlib.Core.Path.{◌≡◌, refl}
use Prim.Native.Nat.{ℕ, zero, suc, ◌<◌, ◌≤◌}
use native.Mathlib.Decide.{ℕ_discrete}
use native.Mathlib.Omega.{arith}

-- each number below n has a partner below m
abbrev pub Paired : (ℕ → ℕ → Type 0) → ℕ → ℕ → Type 0
Paired R n m = (j : ℕ) → j < n → (k : ℕ) × (k < m) × R j k

-- no two numbers below n have the same partner
abbrev pub Single : (ℕ → ℕ → Type 0) → ℕ → Type 0
Single R n = (i j k : ℕ) → i < n → j < n → R i k → R j k → i ≡ j

-- without n and m: what has m for its partner takes that of n instead
module _ (R : ℕ → ℕ → Type 0) (n m last : ℕ) (to : Paired R (suc n) (suc m)) (single : Single R (suc n)) (small : last < suc m) (its : R n last) where
  abbrev Without : ℕ → ℕ → Type 0
  Without j k = R j k ⊎ (R j m × (k ≡ last))

  at_last : (j k : ℕ) → j < n → R j k → (k ≡ last → ⊥)
  at_last j k l r e = let z : j ≡ n = single j n k (omega arith) (omega arith) r (rw e its) in omega arith

  without : Paired Without n m
  without j l =
      let w = to j (omega arith) in
      elim (ℕ_discrete w.0 m) [
        | yes e ↦ let r : R j m = rw e at w.2 in (last, under r, inr (r, refl))
        | no e ↦ (w.0, omega (arith, w.1), inl w.2)
      ]
    where
      under : R j m → last < m
      under r = elim (ℕ_discrete m last) [ yes e ↦ absurd (at_last j m l r e) | no e ↦ omega arith ]

  single-without : Single Without n
  single-without i j k a b p q = ⊎_elim
      (λ (r : R i k). ⊎_elim
      (λ (s : R j k). single i j k (omega arith) (omega arith) r s)
      (λ (s : R j m × (k ≡ last)). absurd (at_last i k a r s.1)) q)
      (λ (r : R i m × (k ≡ last)). ⊎_elim
      (λ (s : R j k). absurd (at_last j k b s r.1))
      (λ (s : R j m × (k ≡ last)). single i j m (omega arith) (omega arith) r.0 s.0) q) p

pub pigeonhole : (R : ℕ → ℕ → Type 0) (n m : ℕ) → Paired R n m → Single R n → n ≤ m
pigeonhole R zero m to single = omega arith
pigeonhole R (suc n) zero to single = absurd (omega (arith, (to n (omega arith)).1))
pigeonhole R (suc n) (suc m) to single =
    let w = to n (omega arith) in
    let l = pigeonhole (Without R n m w.0 to single w.1 w.2) n m (without R n m w.0 to single w.1 w.2) (single-without R n m w.0 to single w.1 w.2) in
    omega arith

-- What `array::from_fn` makes of a closure that leaves what it captured as it was: what each call gives, said of each entry.
use mathlib.Core.List.{List}
use mathlib.Core.Path.{◌≡◌}
use Prim.Native.Nat.{ℕ, zero, suc, ◌+◌, ◌<◌, ◌≤◌}
use native.Mathlib.Decide.{ℕ_discrete}
use native.Mathlib.Omega.{arith}
use denote.Param.Members.{Mut, Called}
use lib.ListN.{get_or}
use Rattle.std.specs.Array.{IsFromFnResult, IsFromFnResultFrom}

module _ {F : Type 0} (g : Mut F (ℕ × Unit {0}) ℕ) (J : F → Type 0) (P : ℕ → ℕ → Type 0) (step : (s : F) (i y : ℕ) (t : F) → J s → Called g s (i, tt) y t → P i y × J t) where
  from : (s : F) (ys : List ℕ) (i n : ℕ) → J s → IsFromFnResultFrom g s ys i n → (j : ℕ) → i ≤ j → j < i + n → P j (get_or ys j 0)
  from s ys i zero h e j l m = absurd (omega arith)
  from s ys i (suc n) h e j l m = let t = step s i e.1 e.0 h e.3 in elim (ℕ_discrete j i) [
    | yes q ↦ rw (q, e.2.1 0) t.0
    | no q ↦ from e.0 ys (i + 1) n t.1 e.4 j (omega arith) (omega arith)
  ]

  pub made : {s : F} {ys : List ℕ} {n : ℕ} → J s → IsFromFnResult g s ys n → (j : ℕ) → j < n → P j (get_or ys j 0)
  made {s} {ys} {n} h e j l = from s ys 0 n h e.each j (omega arith) (omega arith)

-- the same of a function
pub made_as : {F : Type 0} (g : Mut F (ℕ × Unit {0}) ℕ) (J : F → Type 0) (f : ℕ → ℕ) → ((s : F) (i y : ℕ) (t : F) → J s → Called g s (i, tt) y t → (y ≡ f i) × J t)
    → {s : F} {ys : List ℕ} {n : ℕ} → J s → IsFromFnResult g s ys n → (j : ℕ) → j < n → get_or ys j 0 ≡ f j
made_as g J f step h e = made g J (λ i y. y ≡ f i) step h e

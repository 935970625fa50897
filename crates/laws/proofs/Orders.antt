-- Small laws of orders and truth values.
use mathlib.Core.Bool.{Bool, true, false, ◌&&◌, ◌||◌, not, false≢true}
use mathlib.Core.Logic.{◌⊎◌, inl, inr, ⊎_elim}
use mathlib.Core.Path.{◌≡◌, refl, sym, ◌∙◌}
use Prim.Native.Nat.{ℕ, ◌-◌, ◌<◌, ◌≤◌, max}
use native.Mathlib.Nat.{lt_of_not-le}
use native.Mathlib.Decide.{dec_le, ℕ_discrete}
use native.Mathlib.Omega.{arith}
use lib.Dec.{ltb, eqb}
use borrow.Author.Tests.{lt-ltb, le-ltb, eq-eqb, ne_eqb}

pub le-or-lt : (m n : ℕ) → (m ≤ n) ⊎ (n < m)
le-or-lt m n = elim (dec_le m n) [ yes p ↦ inl p | no q ↦ inr (lt_of_not-le q) ]

pub bool_iff : (a b : Bool) → (a ≡ true → b ≡ true) → (b ≡ true → a ≡ true) → a ≡ b
bool_iff true b f g = sym (f refl)
bool_iff false true f g = g refl
bool_iff false false f g = refl

pub and_both : (a b : Bool) → (a && b) ≡ true → (a ≡ true) × (b ≡ true)
and_both true b e = (refl, e)
and_both false b e = absurd (false≢true e)

-- two tests that hold together are equal
pub ltb_iff : (a b c d : ℕ) → (a < b → c < d) → (c < d → a < b) → ltb a b ≡ ltb c d
ltb_iff a b c d f g =
    ⊎_elim (λ (p : b ≤ a). le-ltb a b p ∙ sym (le-ltb c d (⊎_elim (λ (q : d ≤ c). q) (λ (q : c < d). let r : a < b = g q in omega arith) (le-or-lt d c))))
    (λ (p : a < b). lt-ltb a b p ∙ sym (lt-ltb c d (f p))) (le-or-lt b a)

pub true-or-false : (b : Bool) → (b ≡ true) ⊎ (b ≡ false)
true-or-false true = inl refl
true-or-false false = inr refl

pub is_false : (b : Bool) → (b ≡ true → ⊥) → b ≡ false
is_false true h = absurd (h refl)
is_false false h = refl

pub or-either : (a b : Bool) → (a || b) ≡ true → (a ≡ true) ⊎ (b ≡ true)
or-either true b e = inl refl
or-either false b e = inr e

pub or-neither : (a b : Bool) → (a || b) ≡ false → (a ≡ false) × (b ≡ false)
or-neither true b h = absurd (false≢true (sym h))
or-neither false b h = (refl, h)

pub imp_or : (x y : Bool) → (x ≡ true → y ≡ true) → (not x || y) ≡ true
imp_or true y h = h refl
imp_or false y h = refl

pub or-imp : (x y : Bool) → (not x || y) ≡ true → x ≡ true → y ≡ true
or-imp true y e p = e
or-imp false y e p = absurd (false≢true p)

pub imp-of : (x y : Bool) → (x && not y) ≡ false → x ≡ true → y ≡ true
imp-of true true e p = refl
imp-of true false e p = sym e
imp-of false true e p = refl
imp-of false false e p = p

pub of-imp : (x y : Bool) → (x ≡ true → y ≡ true) → (x && not y) ≡ false
of-imp true true h = refl
of-imp true false h = sym (h refl)
of-imp false y h = refl

pub eqb_swap : (x y : ℕ) → eqb x y ≡ eqb y x
eqb_swap x y = elim (ℕ_discrete x y) [ yes z ↦ rw (eq-eqb x y z, eq-eqb y x (sym z)) | no z ↦ rw (ne_eqb x y z, ne_eqb y x (λ w. z (sym w))) ]

pub max-lt : (a b c : ℕ) → a < c → b < c → max a b < c
max-lt a b c p q = omega arith

-- at most, and not the same
pub le-but : (a b : ℕ) → a ≤ b → (a ≡ b → ⊥) → a ≤ b - 1
le-but a b l z = elim (ℕ_discrete a b) [ yes q ↦ absurd (z q) | no q ↦ omega arith ]

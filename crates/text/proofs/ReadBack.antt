-- A number reads back as it was written, wherever it stands, if no digit follows it.
use mathlib.Core.Bool.{Bool, true, false, ◌&&◌, ◌||◌, not, or-true}
use mathlib.Core.List.{List, [], ◌∷◌, ◌++◌, append_assoc}
use mathlib.Core.Logic.{⊎_elim}
use mathlib.Core.Path.{◌≡◌, refl, ◌∙◌}
use Prim.Native.Nat.{ℕ, zero, suc, ◌+◌, ◌*◌, ◌-◌, ◌/◌, ◌%◌, ◌^◌, ◌≤◌, ◌<◌}
use native.Mathlib.Nat.{pow-suc}
use native.Mathlib.Omega.{arith}
use lib.Dec.{ltb, eqb}
use lib.ListN.{length, get_or}
use lib.Seq.{drop-append_seam}
use borrow.Author.Tests.{lt-ltb, le-ltb, le-leb, ne_eqb}
use Rattle.laws.proofs.Orders.{le-or-lt}
use Rattle.laws.specs.Counting.{pick}
use Rattle.text.specs.Numbers.{is_digit, digits_in, value_from, number_at, places_up_to, places, last_digits, spelled}
use Rattle.std.proofs.Common.{Some}
use Rattle.text.proofs.Spelling.{length_last, places-last, places-more}

-- what is written for a digit is read as one
glyph : (d : ℕ) → d < 10 → is_digit (48 + d) ≡ true
glyph d h = rw (le-leb 48 (48 + d) (omega arith), le-leb (48 + d) 57 (omega arith))

pub digits_last : (k n : ℕ) (rest : List ℕ) → digits_in (last_digits k n ++ rest) ≡ k + digits_in rest
unfolding last_digits digits_in
digits_last zero n rest = omega arith
digits_last (suc k) n rest =
    rw append_assoc
    (digits_last k (n / 10) ((48 + n % 10) ∷ rest) ∙ rw (glyph (n % 10) (omega arith)) (omega arith))

value-last : (k n : ℕ) (rest : List ℕ) → n < 10 ^ k → value_from 0 (last_digits k n ++ rest) ≡ value_from n rest
unfolding last_digits value_from
value-last zero n rest h = let z : n ≡ 0 = omega arith in rw z
value-last (suc k) n rest h =
    let g : n < 10 ^ k * 10 = rw pow-suc at h in
    let e : n / 10 * 10 + (48 + n % 10 - 48) ≡ n = omega arith in
    rw append_assoc
    (value-last k (n / 10) ((48 + n % 10) ∷ rest) (omega arith) ∙ rw (glyph (n % 10) (omega arith), e))

-- the digits that are counted hold the number
places-hold : (most n : ℕ) → n < 10 ^ most → n < 10 ^ places_up_to most n
unfolding places_up_to
places-hold zero n h = h
places-hold (suc most) n h = ⊎_elim one (more (places-hold most (n / 10))) (le-or-lt n 9)
  where
    one : n ≤ 9 → n < 10 ^ pick (ltb n 10) 1 (suc (places_up_to most (n / 10)))
    one l = rw (lt-ltb n 10 (omega arith)) (omega arith)

    more : (n / 10 < 10 ^ most → n / 10 < 10 ^ places_up_to most (n / 10)) → 9 < n → n < 10 ^ pick (ltb n 10) 1 (suc (places_up_to most (n / 10)))
    more tenth l =
        let g : n < 10 ^ most * 10 = rw pow-suc at h in
        let q : n / 10 < 10 ^ places_up_to most (n / 10) = tenth (omega arith) in
        rw (le-ltb n 10 (omega arith), pow-suc) (omega (arith, q))

hold : (n : ℕ) → n < 2 ^ 64 → n < 10 ^ places n
unfolding places
hold n h = places-hold 20 n (omega arith)

-- the first digit of a number above 0 is no 0
first-digit : (most n : ℕ) (rest : List ℕ) → 0 < n → n < 10 ^ most → get_or (last_digits (places_up_to most n) n ++ rest) 0 0 ≡ 48 → ⊥
unfolding places_up_to last_digits
first-digit zero n rest p h = absurd (omega arith)
first-digit (suc most) n rest p h = ⊎_elim one (more (first-digit most (n / 10) ((48 + n % 10) ∷ rest))) (le-or-lt n 9)
  where
    one : n ≤ 9 → get_or (last_digits (pick (ltb n 10) 1 (suc (places_up_to most (n / 10)))) n ++ rest) 0 0 ≡ 48 → ⊥
    one l = rw (lt-ltb n 10 (omega arith)) (λ e. omega (arith, e))

    more : (0 < n / 10 → n / 10 < 10 ^ most → get_or (last_digits (places_up_to most (n / 10)) (n / 10) ++ ((48 + n % 10) ∷ rest)) 0 0 ≡ 48 → ⊥)
        → 9 < n → get_or (last_digits (pick (ltb n 10) 1 (suc (places_up_to most (n / 10)))) n ++ rest) 0 0 ≡ 48 → ⊥
    more tenth l =
        let g : n < 10 ^ most * 10 = rw pow-suc at h in
        rw (le-ltb n 10 (omega arith), append_assoc) (tenth (omega arith) (omega arith))

value_none : (n : ℕ) (rest : List ℕ) → digits_in rest ≡ 0 → value_from n rest ≡ n
unfolding digits_in value_from
value_none n [] z = refl
value_none n (b ∷ s) z = by (is_digit b) z
  where
    by : (t : Bool) → pick t (suc (digits_in s)) 0 ≡ 0 → pick t (value_from (n * 10 + (b - 48)) s) n ≡ n
    by true e = absurd (omega (arith, e))
    by false e = refl

-- what is written has a digit, and no 0 before another
plain-spelled : (n : ℕ) (rest : List ℕ) → n < 2 ^ 64
    → (ltb 0 (places n) && (eqb (places n) 1 || not (eqb (get_or (last_digits (places n) n ++ rest) 0 0) 48))) ≡ true
unfolding places
plain-spelled n rest h = ⊎_elim one more (le-or-lt n 9)
  where
    one : n ≤ 9 → (ltb 0 (places_up_to 20 n) && (eqb (places_up_to 20 n) 1 || not (eqb (get_or (last_digits (places_up_to 20 n) n ++ rest) 0 0) 48))) ≡ true
    one l = let e : places_up_to 20 n ≡ 1 = places-last 20 n (omega arith) l in rw e

    more : 9 < n → (ltb 0 (places_up_to 20 n) && (eqb (places_up_to 20 n) 1 || not (eqb (get_or (last_digits (places_up_to 20 n) n ++ rest) 0 0) 48))) ≡ true
    more l =
        let f = first-digit 20 n rest (omega arith) (omega arith) in
        rw (lt-ltb 0 (places_up_to 20 n) (omega (arith, (places-more 20 n l (omega arith)).2)), ne_eqb (get_or (last_digits (places_up_to 20 n) n ++ rest) 0 0) 48 f, or-true)

pub read_back : (before rest : List ℕ) (n : ℕ) → n < 2 ^ 64 → digits_in rest ≡ 0
    → number_at (before ++ (spelled n ++ rest)) (length before) ≡ Some (n, length before + length (spelled n))
unfolding number_at spelled
read_back before rest n h z =
    let d : digits_in (last_digits (places n) n ++ rest) ≡ places n = digits_last (places n) n rest ∙ omega (arith, z) in
    let v : value_from 0 (last_digits (places n) n ++ rest) ≡ n = value-last (places n) n rest (hold n h) ∙ value_none n rest z in
    rw (drop-append_seam before (last_digits (places n) n ++ rest), d, v, length_last (places n) n, lt-ltb n (2 ^ 64) h, plain-spelled n rest h)

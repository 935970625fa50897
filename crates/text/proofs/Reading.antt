-- What a turn of the reading loop keeps: the digits passed and the number they made, against those that are left.
use mathlib.Core.Bool.{Bool, true, false, and-false}
use mathlib.Core.List.{List, [], ◌∷◌}
use mathlib.Core.Path.{◌≡◌, refl, sym, ap, ◌∙◌}
use Prim.Native.Nat.{ℕ, suc, ◌+◌, ◌*◌, ◌-◌, ◌^◌, ◌≤◌, ◌<◌}
use native.Mathlib.Nat.{le_trans, add-zero}
use native.Mathlib.Numerals.{add-one}
use native.Mathlib.Omega.{arith}
use lib.Dec.{ltb}
use lib.ListN.{length, drop, get_or, drop_of_length-le, length-drop}
use lib.Seq.{drop-cons, get_or-drop}
use borrow.Author.Tests.{lt-ltb, le-ltb}
use Rattle.std.proofs.Common.{Some, None}
use Rattle.laws.specs.Counting.{pick}
use Rattle.text.specs.Numbers.{is_digit, digits_in, value_from, number_at}
use Rattle.text.specs.Inner.{digit_of, run_of, plain_run}

-- what was picked tells the test
some-picked : {A : Type 0} (t : Bool) (x y : A) → pick t (Some x) None ≡ Some y → (t ≡ true) × (x ≡ y)
some-picked true x y e = (refl, cc)
some-picked false x y e = absurd (cc)

none-picked : {A : Type 0} (t : Bool) (x : A) → pick t (Some x) None ≡ None → t ≡ false
none-picked true x e = absurd (cc)
none-picked false x e = refl

-- more digits do not make a number less
value-least : (n : ℕ) (s : List ℕ) → n ≤ value_from n s
unfolding value_from
value-least n [] = omega arith
value-least n (b ∷ s) = by (is_digit b) _ (le_trans (omega arith) (value-least (n * 10 + (b - 48)) s))
  where
    by : (t : Bool) (a : ℕ) → n ≤ a → n ≤ pick t a n
    by true a h = h
    by false a h = omega arith

-- the loop at i with n made so far
pub record Reading (s : List ℕ) (i n : ℕ) : Type 0 where
  pub small : n < 2 ^ 64
  pub digits : digits_in s ≡ i + digits_in (drop i s)
  pub value : value_from 0 s ≡ value_from n (drop i s)

pub reading-start : (s : List ℕ) → Reading s 0 0
reading-start s = record { small = omega arith; digits = omega arith; value = refl }

module _ (s : List ℕ) (i n : ℕ) (r : Reading s i n) where
  -- another byte ends the run
  pub reading-stop : i < length s → digit_of (get_or s i 0) ≡ None → Some (n, i) ≡ run_of s
  unfolding digits_in value_from
  reading-stop h d =
      let k : digits_in s ≡ i = r.digits ∙ rw (drop-cons s i 0, none-picked (is_digit (get_or s i 0)) (get_or s i 0 - 48) d) (omega arith) in
      let v : value_from 0 s ≡ n = r.value ∙ rw (drop-cons s i 0, none-picked (is_digit (get_or s i 0)) (get_or s i 0 - 48) d) in
      rw (v, k, lt-ltb n (2 ^ 64) r.small)

  -- and so does the end
  pub reading-end : length s ≤ i → Some (n, i) ≡ run_of s
  unfolding digits_in value_from
  reading-end h =
      let k : digits_in s ≡ i = r.digits ∙ rw (drop_of_length-le s h) (omega arith) in
      let v : value_from 0 s ≡ n = r.value ∙ rw (drop_of_length-le s h) in
      rw (v, k, lt-ltb n (2 ^ 64) r.small)

  module _ (d : ℕ) (h : i < length s) (e : digit_of (get_or s i 0) ≡ Some d) where
    value-more : value_from 0 s ≡ value_from (n * 10 + d) (drop (suc i) s)
    unfolding value_from
    value-more = let p = some-picked (is_digit (get_or s i 0)) (get_or s i 0 - 48) d e in r.value ∙ rw (drop-cons s i 0, p.0, p.1)

    pub reading-turn : n * 10 + d < 2 ^ 64 → Reading s (i + 1) (n * 10 + d)
    unfolding digits_in
    reading-turn small =
        let p = some-picked (is_digit (get_or s i 0)) (get_or s i 0 - 48) d e in
        let k : digits_in (drop i s) ≡ suc (digits_in (drop (suc i) s)) = rw (drop-cons s i 0, p.0) in
        rw (add-one i) (record { small = small; digits = omega (arith, r.digits, k); value = value-more })

    -- a number that got too large stays so
    pub reading-large : 2 ^ 64 ≤ n * 10 + d → None ≡ run_of s
    reading-large large =
        let v : 2 ^ 64 ≤ value_from 0 s = rw value-more (le_trans large (value-least (n * 10 + d) (drop (suc i) s))) in
        rw (le-ltb (value_from 0 s) (2 ^ 64) v)

-- there are no more digits than bytes
digits-le : (s : List ℕ) → digits_in s ≤ length s
unfolding digits_in
digits-le [] = omega arith
digits-le (b ∷ s) = by (is_digit b) (digits-le s)
  where
    by : (t : Bool) → digits_in s ≤ length s → pick t (suc (digits_in s)) 0 ≤ suc (length s)
    by true h = omega arith
    by false h = omega arith

-- what the run in front of a tail says of the number there
module _ (s : List ℕ) (at : ℕ) where
  pub run-none : None ≡ run_of (drop at s) → None ≡ number_at s at
  unfolding number_at
  run-none e = rw (none-picked (ltb (value_from 0 (drop at s)) (2 ^ 64)) (value_from 0 (drop at s), digits_in (drop at s)) (sym e), and-false)

  module _ (n count : ℕ) (e : Some (n, count) ≡ run_of (drop at s)) where
    told : (ltb (value_from 0 (drop at s)) (2 ^ 64) ≡ true) × ◌≡◌ {A = ℕ × ℕ} (value_from 0 (drop at s), digits_in (drop at s)) (n, count)
    told = some-picked (ltb (value_from 0 (drop at s)) (2 ^ 64)) (value_from 0 (drop at s), digits_in (drop at s)) (n, count) (sym e)

    pub run-within : count ≤ length s - at
    run-within = let k : digits_in (drop at s) ≡ count = ap (λ (p : ℕ × ℕ). p.1) told.1 in omega (arith, k, digits-le (drop at s), length-drop at s)

    pub run-plain : plain_run count (get_or s at 0) ≡ true → Some (n, at + count) ≡ number_at s at
    unfolding number_at
    run-plain p =
        let k : digits_in (drop at s) ≡ count = ap (λ (p : ℕ × ℕ). p.1) told.1 in
        let v : value_from 0 (drop at s) ≡ n = ap (λ (p : ℕ × ℕ). p.0) told.1 in
        rw (told.0, k, v, get_or-drop, add-zero, p)

    pub run-other : plain_run count (get_or s at 0) ≡ false → None ≡ number_at s at
    unfolding number_at
    run-other p = let k : digits_in (drop at s) ≡ count = ap (λ (p : ℕ × ℕ). p.1) told.1 in rw (k, get_or-drop, add-zero, p)

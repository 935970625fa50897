-- From the bits of four words to the members of a set: what the functions of this crate need.
use mathlib.Core.Bool.{and-true, and-false, or-false, true≢false, Bool, true, false, ◌&&◌, ◌||◌}
use mathlib.Core.Logic.{⊎_elim}
use mathlib.Core.List.{[], ◌∷◌}
use mathlib.Core.Path.{◌≡◌, refl, sym, ap, ap₂, ◌∙◌}
use Prim.Native.Nat.{ℕ, zero, suc, ◌+◌, ◌-◌, ◌*◌, ◌/◌, ◌%◌, ◌^◌, ◌<◌, ◌≤◌}
use native.Mathlib.Nat.{zero-add}
use native.Mathlib.Decide.{ℕ_discrete}
use native.Mathlib.Omega.{arith}
use lib.ListN.{get_or, length, set, get_or-eq_default}
use lib.Seq.{get_or-set_same, get_or-set_other}
use lib.Dec.{ltb, eqb, lit<}
use lib.Bits.{bit_or}
use borrow.Author.Tests.{lt-ltb, le-ltb, eq-eqb, ne_eqb}
use Rattle.numbers.specs.Words.{joined_words}
use Rattle.laws.specs.Counting.{count_below}
use Rattle.laws.proofs.Orders.{le-or-lt, ltb_iff}
use Rattle.laws.proofs.Counting.{count_add, count-cong}
use Rattle.positions.specs.Bits.{bit}
use Rattle.positions.specs.Inner.{LowZero, BitLength}
use Rattle.positions.specs.Members.{has, FirstMissing, HighestAt}
use Rattle.positions.specs.declared.Positions.{Positions}
use Rattle.positions.proofs.Bits.{bit_mask, bit-or, bit-zero, joined-near, joined-far}

pub has-out : (p : Positions) (k : ℕ) → 256 ≤ k → has p k ≡ false
unfolding has
has-out p k h = rw (le-ltb k 256 h)

-- a position is a word's number and a bit's
split-64 : (k : ℕ) → k ≡ 64 * (k / 64) + k % 64
split-64 k = omega arith

pub has-at : (p : Positions) (j k : ℕ) → j < 4 → k < 64 → has p (64 * j + k) ≡ bit (get_or p.words j 0) k
unfolding has
has-at p j k l h =
    let d : (64 * j + k) / 64 ≡ j = omega arith in
    let m : (64 * j + k) % 64 ≡ k = omega arith in
    rw (d, m, lt-ltb (64 * j + k) 256 (omega arith))

pub has_first : (p : Positions) (k : ℕ) → k < 64 → has p k ≡ bit (get_or p.words 0 0) k
has_first p k h = rw zero-add at (has-at p 0 k (lit< tt) h)

-- the same for any word, where those beyond the four read as 0
pub has_word : (p : Positions) (j k : ℕ) → length p.words ≡ 4 → k < 64 → has p (64 * j + k) ≡ bit (get_or p.words j 0) k
has_word p j k l h =
    ⊎_elim (λ (q : 4 ≤ j). let e : get_or p.words j 0 ≡ 0 = get_or-eq_default p.words 0 (omega arith) in has-out p (64 * j + k) (omega arith) ∙ rw e (sym (bit-zero k)))
    (λ (q : j < 4). has-at p j k q h) (le-or-lt 4 j)

-- to know a set, look at each word's bits
pub by-words : (p : Positions) (F : ℕ → Bool) → ((j : ℕ) → j < 4 → (k : ℕ) → k < 64 → bit (get_or p.words j 0) k ≡ F (64 * j + k))
    → ((k : ℕ) → 256 ≤ k → F k ≡ false) → (k : ℕ) → has p k ≡ F k
by-words p F h out k = ⊎_elim (λ (q : 256 ≤ k). has-out p k q ∙ sym (out k q)) inside (le-or-lt 256 k)
  where
    inside : k < 256 → has p k ≡ F k
    inside q = ap (has p) (split-64 k) ∙ has-at p (k / 64) (k % 64) (omega arith) (omega arith) ∙ h (k / 64) (omega arith) (k % 64) (omega arith) ∙ ap F (sym (split-64 k))

-- a set whose four words are given
pub four : (w0 w1 w2 w3 : ℕ) (F : ℕ → Bool) → ((k : ℕ) → k < 64 → bit w0 k ≡ F k) → ((k : ℕ) → k < 64 → bit w1 k ≡ F (64 + k))
    → ((k : ℕ) → k < 64 → bit w2 k ≡ F (128 + k)) → ((k : ℕ) → k < 64 → bit w3 k ≡ F (192 + k)) → ((k : ℕ) → 256 ≤ k → F k ≡ false)
    → (k : ℕ) → has (record { words = w0 ∷ w1 ∷ w2 ∷ w3 ∷ [] }) k ≡ F k
four w0 w1 w2 w3 F h0 h1 h2 h3 out = by-words (record { words = w0 ∷ w1 ∷ w2 ∷ w3 ∷ [] }) F each out
  where
    each : (j : ℕ) → j < 4 → (k : ℕ) → k < 64 → bit (get_or (w0 ∷ w1 ∷ w2 ∷ w3 ∷ []) j 0) k ≡ F (64 * j + k)
    each zero q k p = rw zero-add (h0 k p)
    each (suc zero) q k p = h1 k p
    each (suc (suc zero)) q k p = h2 k p
    each (suc (suc (suc zero))) q k p = h3 k p
    each (suc (suc (suc (suc j)))) q k p = absurd (omega arith)

-- a set made of two, word by word
pub by-two : (f : Bool → Bool → Bool) (a b r : Positions) → f false false ≡ false
    → ((j : ℕ) → j < 4 → (k : ℕ) → k < 64 → bit (get_or r.words j 0) k ≡ f (bit (get_or a.words j 0) k) (bit (get_or b.words j 0) k))
    → (k : ℕ) → has r k ≡ f (has a k) (has b k)
by-two f a b r z h =
    by-words r (λ (k : ℕ). f (has a k) (has b k)) (λ j l k p. h j l k p ∙ sym (rw (has-at a j k l p, has-at b j k l p))) (λ k p. rw (has-out a k p, has-out b k p) z)

pub none : (k : ℕ) → has (record { words = 0 ∷ 0 ∷ 0 ∷ 0 ∷ [] }) k ≡ false
none = four 0 0 0 0 (λ (k : ℕ). false) (λ k p. bit-zero k) (λ k p. bit-zero k) (λ k p. bit-zero k) (λ k p. bit-zero k) (λ k p. refl)

pub every : (k : ℕ) → has (record { words = 18446744073709551615 ∷ 18446744073709551615 ∷ 18446744073709551615 ∷ 18446744073709551615 ∷ [] }) k ≡ ltb k 256
every = four 18446744073709551615 18446744073709551615 18446744073709551615 18446744073709551615 (λ (k : ℕ). ltb k 256)
    (λ k p. full k p ∙ sym (lt-ltb k 256 (omega arith))) (λ k p. full k p ∙ sym (lt-ltb (64 + k) 256 (omega arith)))
    (λ k p. full k p ∙ sym (lt-ltb (128 + k) 256 (omega arith))) (λ k p. full k p ∙ sym (lt-ltb (192 + k) 256 (omega arith))) (λ k p. le-ltb k 256 p)
  where
    full : (k : ℕ) → k < 64 → bit 18446744073709551615 k ≡ true
    full k p = bit_mask 64 k ∙ lt-ltb k 64 p

-- ---- one more position
pub same_bit : (i k : ℕ) → k / 64 ≡ i / 64 → eqb (k % 64) (i % 64) ≡ eqb k i
same_bit i k e = elim (ℕ_discrete k i) [
  | yes q ↦ let z : k % 64 ≡ i % 64 = omega arith in rw (eq-eqb (k % 64) (i % 64) z, eq-eqb k i q)
  | no q ↦ rw (ne_eqb (k % 64) (i % 64) (λ z. q (omega arith)), ne_eqb k i q)
]

no_such : (i k : ℕ) → 256 ≤ i → (eqb k i && ltb k 256) ≡ false
no_such i k h = ⊎_elim (λ (p : 256 ≤ k). rw (le-ltb k 256 p) (and-false (eqb k i))) (λ (p : k < 256). rw (ne_eqb k i (λ z. omega arith))) (le-or-lt 256 k)

pub with_none : (p : Positions) (i k : ℕ) → 256 ≤ i → has p k ≡ (has p k || (eqb k i && ltb k 256))
with_none p i k h = rw (no_such i k h) (sym (or-false (has p k)))

pub with-law : (p : Positions) (i v : ℕ) → length p.words ≡ 4 → i < 256 → ((j : ℕ) → bit v j ≡ (bit (get_or p.words (i / 64) 0) j || eqb j (i % 64)))
    → (k : ℕ) → has (record { words = set p.words (i / 64) v }) k ≡ (has p k || (eqb k i && ltb k 256))
unfolding has
with-law p i v l h e k = ⊎_elim (λ (o : 256 ≤ k). rw (le-ltb k 256 o) (sym (and-false (eqb k i)))) inside (le-or-lt 256 k)
  where
    inside : k < 256 → (ltb k 256 && bit (get_or (set p.words (i / 64) v) (k / 64) 0) (k % 64)) ≡ ((ltb k 256 && bit (get_or p.words (k / 64) 0) (k % 64)) || (eqb k i && ltb k 256))
    inside o = elim (ℕ_discrete (k / 64) (i / 64)) [
      | yes q ↦ rw (lt-ltb k 256 o, q, get_or-set_same p.words (i / 64) v 0 (omega arith), ← same_bit i k q, and-true) (e (k % 64))
      | no q ↦ rw (lt-ltb k 256 o, get_or-set_other p.words (i / 64) (k / 64) v 0 q, ne_eqb k i (λ z. q (omega arith)), or-false)
    ]

-- ---- the empty set has only words of 0
or4 : (a b c d : Bool) → (((a || b) || c) || d) ≡ false → (a ≡ false) × (b ≡ false) × (c ≡ false) × (d ≡ false)
or4 true b c d e = absurd (true≢false e)
or4 false true c d e = absurd (true≢false e)
or4 false false true d e = absurd (true≢false e)
or4 false false false d e = (refl, refl, refl, e)

pub zero-all : (p : Positions) → bit_or (bit_or (bit_or (get_or p.words 0 0) (get_or p.words 1 0)) (get_or p.words 2 0)) (get_or p.words 3 0) ≡ 0 → (k : ℕ) → has p k ≡ false
zero-all p e = by-words p (λ (k : ℕ). false) each (λ k q. refl)
  where
    all : (k : ℕ) → (bit (get_or p.words 0 0) k ≡ false) × (bit (get_or p.words 1 0) k ≡ false) × (bit (get_or p.words 2 0) k ≡ false) × (bit (get_or p.words 3 0) k ≡ false)
    all k = or4 (bit (get_or p.words 0 0) k) (bit (get_or p.words 1 0) k) (bit (get_or p.words 2 0) k) (bit (get_or p.words 3 0) k) (rw (← bit-or, ← bit-or, ← bit-or, e) (bit-zero k))

    each : (j : ℕ) → j < 4 → (k : ℕ) → k < 64 → bit (get_or p.words j 0) k ≡ false
    each zero q k h = (all k).0
    each (suc zero) q k h = (all k).1
    each (suc (suc zero)) q k h = (all k).2
    each (suc (suc (suc zero))) q k h = (all k).3
    each (suc (suc (suc (suc j)))) q k h = absurd (omega arith)

-- ---- how many members, word by word
pub count-four : (p : Positions) → count_below (has p) 256
    ≡ count_below (bit (get_or p.words 0 0)) 64 + count_below (bit (get_or p.words 1 0)) 64 + count_below (bit (get_or p.words 2 0)) 64 + count_below (bit (get_or p.words 3 0)) 64
count-four p =
    let c0 = count-cong (has p) (bit (get_or p.words 0 0)) 64 (λ k h. has_first p k h) in
    let c1 = count-cong (λ k. has p (64 + k)) (bit (get_or p.words 1 0)) 64 (λ k h. has-at p 1 k (lit< tt) h) in
    let c2 = count-cong (λ k. has p (128 + k)) (bit (get_or p.words 2 0)) 64 (λ k h. has-at p 2 k (lit< tt) h) in
    let c3 = count-cong (λ k. has p (192 + k)) (bit (get_or p.words 3 0)) 64 (λ k h. has-at p 3 k (lit< tt) h) in
    count_add (has p) 192 64 ∙ ap₂ (λ (x y : ℕ). x + y)
    (count_add (has p) 128 64 ∙ ap₂ (λ (x y : ℕ). x + y) (count_add (has p) 64 64 ∙ ap₂ (λ (x y : ℕ). x + y) c0 c1) c2) c3

-- ---- the first that is missing: the words below the word j are full
module _ (p : Positions) (j r : ℕ) (l : j < 4) (z : LowZero (get_or p.words j 0) r) (h : (i : ℕ) → i < 64 * j → has p i ≡ true) where
  full-to : (i : ℕ) → i < 64 * j + r → has p i ≡ true
  full-to i q = ⊎_elim here (h i) (le-or-lt (64 * j) i)
    where
      here : 64 * j ≤ i → has p i ≡ true
      here m =
          let e : i ≡ 64 * j + (i - 64 * j) = omega arith in
          rw e (has-at p j (i - 64 * j) l (omega (arith, z.most)) ∙ z.before (i - 64 * j) (omega arith))

  pub full-word : 64 ≤ r → (i : ℕ) → i < 64 * (j + 1) → has p i ≡ true
  full-word q i m = full-to i (omega arith)

  pub missing_at : r < 64 → FirstMissing p (64 * j + r)
  missing_at q = record { most = omega arith; before = full-to; missing = has-at p j r l q ∙ z.clear q }

-- where all words are full, no position has it
pub missing_none : (p : Positions) → ((i : ℕ) → i < 256 → has p i ≡ true) → FirstMissing p 256
missing_none p h = record { most = omega arith; before = h; missing = has-out p 256 (omega arith) }

-- ---- the highest: the words above the word j are empty
module _ (p : Positions) (j l : ℕ) (m : j < 4) (z : BitLength (get_or p.words j 0) l) (h : (i : ℕ) → 64 * j + 64 ≤ i → has p i ≡ false) where
  empty-from : (i : ℕ) → 64 * j + l ≤ i → has p i ≡ false
  empty-from i q = ⊎_elim (h i) here (le-or-lt (64 * j + 64) i)
    where
      here : i < 64 * j + 64 → has p i ≡ false
      here o =
          let e : i ≡ 64 * j + (i - 64 * j) = omega arith in
          rw e (has-at p j (i - 64 * j) m (omega arith) ∙ z.above (i - 64 * j) (omega arith))

  pub empty-word : l ≤ 0 → (i : ℕ) → 64 * j ≤ i → has p i ≡ false
  empty-word q i o = empty-from i (omega arith)

  pub highest-at : 0 < l → (n : ℕ) → suc n ≡ 64 * j + l → HighestAt p 256 n
  highest-at q n e =
      let s : n ≡ 64 * j + (l - 1) = omega arith in
      record {
        inside = rw s (has-at p j (l - 1) m (omega (arith, z.most)) ∙ z.top (l - 1) (omega arith));
        small = omega (arith, z.most);
        under = omega (arith, z.most);
        above = λ k o b. empty-from k (omega arith);
      }

-- ---- below n: of the positions from k on those that are left of n
pub less-below : (n k j : ℕ) {r : ℕ} → r ≡ n - k → ltb j r ≡ ltb (k + j) n
less-below n k j {r} e = ltb_iff j r (k + j) n (λ p. omega arith) (λ p. omega arith)

-- ---- down by n: the word j of the result starts at bit n % 64 of the word n / 64 + j
pub lowered-at : (p : Positions) (n j v w r : ℕ) → length p.words ≡ 4 → v ≡ get_or p.words (n / 64 + j) 0 → w ≡ get_or p.words (n / 64 + j + 1) 0
    → r ≡ joined_words v w (n % 64) → v < 2 ^ 64 → (k : ℕ) → k < 64 → bit r k ≡ has p ((64 * j + k) + n)
lowered-at p n j v w r l ev ew z f k h = ⊎_elim far near (le-or-lt 64 (k + n % 64))
  where
    near : k + n % 64 < 64 → bit r k ≡ has p ((64 * j + k) + n)
    near q =
        let e : (64 * j + k) + n ≡ 64 * (n / 64 + j) + (k + n % 64) = omega arith in
        ap (λ (x : ℕ). bit x k) z ∙ joined-near v w (n % 64) k f q ∙ rw (e, ev) (sym (has_word p (n / 64 + j) (k + n % 64) l q))

    far : 64 ≤ k + n % 64 → bit r k ≡ has p ((64 * j + k) + n)
    far q =
        let e : (64 * j + k) + n ≡ 64 * (n / 64 + j + 1) + ((k + n % 64) - 64) = omega arith in
        ap (λ (x : ℕ). bit x k) z ∙ joined-far v w (n % 64) k f h q ∙ rw (e, ew) (sym (has_word p (n / 64 + j + 1) ((k + n % 64) - 64) l (omega arith)))

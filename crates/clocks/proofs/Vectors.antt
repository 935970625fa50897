-- Laws of vectors that the crates above cite instead of the definitions' text.
use Rattle.std.proofs.Common.{◌≡◌, ℕ, ◌<◌, ◌≤◌, ◌↔◌, IsTrue, EachIndex, slice_index, Bool, true, false, eqb, leb, zero, suc, ◌+◌, ◌%◌, ◌^◌, List, [], ◌∷◌, fold, length, Option, Some, None, refl, ap, ◌∙◌, zero-add, ⊎_elim, mod-eq_of_lt, le_antisymm, arith, eqb-true, le-leb, leb-true}
use Rattle.std.specs.declared.cmp.Ordering.{Ordering}
use Rattle.std.specs.declared.cmp.Ordering.TheVariants.{Less, Equal, Greater}
use lib.ListN.{get_or-eq_default}
use Rattle.laws.specs.Counting.{all_below, sum_below}
use Rattle.laws.proofs.Orders.{le-or-lt, and_both, bool_iff}
use Rattle.laws.proofs.Counting.{all-intro, all-elim}
use Rattle.laws.proofs.Sums.{sum-le}
use Rattle.clocks.specs.Vectors.{top, entry, well_formed, well_formed_for, covers, at_most, compared_by, compared, total}
use Rattle.clocks.specs.declared.id.EventId.{EventId}

-- ---- entries

-- past the end an entry is 0
pub entry-out : (v : List ℕ) (i : ℕ) → length v ≤ i → entry v i ≡ 0
entry-out v i l = get_or-eq_default v 0 l

-- ---- well formed

pub well-formed-length : (r : ℕ) (v : List ℕ) → well_formed r v ≡ true → length v ≤ r
unfolding well_formed
well-formed-length r v h = leb-true (length v) r (and_both (leb (length v) r) (all_below (λ i. leb (entry v i) top) (length v)) h).0

pub well-formed-entry : (r : ℕ) (v : List ℕ) → well_formed r v ≡ true → (i : ℕ) → entry v i ≤ top
unfolding well_formed
well-formed-entry r v h i =
    ⊎_elim (λ (l : length v ≤ i). rw (entry-out v i l) (omega arith))
    (λ (l : i < length v). leb-true (entry v i) top
    (all-elim (λ j. leb (entry v j) top) (length v) (and_both (leb (length v) r) (all_below (λ j. leb (entry v j) top) (length v)) h).1 i l)) (le-or-lt (length v) i)

pub well-formed : (r : ℕ) (v : List ℕ) → length v ≤ r → ((i : ℕ) → entry v i ≤ top) → well_formed r v ≡ true
unfolding well_formed
well-formed r v e h = rw (le-leb (length v) r e) (all-intro (λ i. leb (entry v i) top) (length v) (λ i l. le-leb (entry v i) top (h i)))

-- so beyond R a well-formed vector says nothing
pub well-formed-out : (r : ℕ) (v : List ℕ) → well_formed r v ≡ true → (i : ℕ) → r ≤ i → entry v i ≡ 0
well-formed-out r v h i l = entry-out v i (omega (arith, well-formed-length r v h))

-- and is well formed for more replicas too
pub well-formed-more : (r s : ℕ) (v : List ℕ) → r ≤ s → well_formed r v ≡ true → well_formed s v ≡ true
well-formed-more r s v l h = well-formed s v (omega (arith, well-formed-length r v h)) (well-formed-entry r v h)

-- the test of each entry decides
pub formed-by : (b : Bool) (r : ℕ) (v : List ℕ) → length v ≤ r → (IsTrue b ↔ EachIndex v (λ k. slice_index v k ≤ top)) → b ≡ well_formed r v
formed-by b r v l h =
    bool_iff b (well_formed r v)
    (λ t. well-formed r v l (λ i. ⊎_elim (λ (o : length v ≤ i). rw (entry-out v i o) (omega arith)) (λ (p : i < length v). h.0 t i p) (le-or-lt (length v) i)))
    (λ t. h.1 (λ k p. well-formed-entry r v t k))

-- an event's vector is well formed, and its own entry is its sequence
pub well-formed-for : (r : ℕ) (v : List ℕ) (id : EventId) → well_formed_for r v id ≡ true → (well_formed r v ≡ true) × (entry v id.idx.0 ≡ id.seq)
unfolding well_formed_for
well-formed-for r v id h =
    let p = and_both (well_formed r v) (eqb (entry v id.idx.0) id.seq) h in
    (p.0, eqb-true (entry v id.idx.0) id.seq p.1)

-- a well-formed vector's sum does not wrap
pub total-exact : (r : ℕ) (v : List ℕ) → r ≤ 16 → well_formed r v ≡ true → total v ≡ sum_below (entry v) (length v)
unfolding total
total-exact r v l h =
    let s = sum-le (entry v) (length v) top (λ k p. well-formed-entry r v h k) in
    let e = well-formed-length r v h in
    mod-eq_of_lt (omega (arith, s, e))

-- a sum from the front wraps to the same
sum-first : (f : ℕ → ℕ) (n : ℕ) → sum_below f (suc n) ≡ f 0 + sum_below (λ k. f (suc k)) n
unfolding sum_below
sum-first f zero = omega arith
sum-first f (suc n) = omega (arith, sum-first f n)

folded : (v : List ℕ) (a : ℕ) → fold (λ s x. (s + x) % 2 ^ 64) (a % 2 ^ 64) v ≡ (a + sum_below (entry v) (length v)) % 2 ^ 64
unfolding sum_below
folded [] a = omega arith
folded (x ∷ xs) a =
    let e : (a % 2 ^ 64 + x) % 2 ^ 64 ≡ (a + x) % 2 ^ 64 = omega arith in
    rw (e, folded xs (a + x), sum-first (entry (x ∷ xs)) (length xs)) (omega arith)

pub total-folded : (v : List ℕ) → fold (λ s x. (s + x) % 2 ^ 64) 0 v ≡ total v
unfolding total
total-folded v = folded v 0 ∙ ap (λ n. n % 2 ^ 64) (zero-add (sum_below (entry v) (length v)))

-- ---- at most: a partial order on what vectors say

pub at-most-intro : (v w : List ℕ) → ((i : ℕ) → entry v i ≤ entry w i) → at_most v w ≡ true
unfolding at_most
at-most-intro v w h = all-intro (λ i. leb (entry v i) (entry w i)) (length v) (λ i l. le-leb (entry v i) (entry w i) (h i))

pub at-most-elim : (v w : List ℕ) → at_most v w ≡ true → (i : ℕ) → entry v i ≤ entry w i
unfolding at_most
at-most-elim v w h i =
    ⊎_elim (λ (l : length v ≤ i). rw (entry-out v i l) (omega arith))
    (λ (l : i < length v). leb-true (entry v i) (entry w i) (all-elim (λ j. leb (entry v j) (entry w j)) (length v) h i l)) (le-or-lt (length v) i)

pub at-most-by : (b : Bool) (v w : List ℕ) → (IsTrue b ↔ EachIndex v (λ k. slice_index v k ≤ slice_index w k)) → b ≡ at_most v w
at-most-by b v w h =
    bool_iff b (at_most v w)
    (λ t. at-most-intro v w (λ i. ⊎_elim (λ (o : length v ≤ i). rw (entry-out v i o) (omega arith)) (λ (p : i < length v). h.0 t i p) (le-or-lt (length v) i)))
    (λ t. h.1 (λ k p. at-most-elim v w t k))

pub at-most-refl : (v : List ℕ) → at_most v v ≡ true
at-most-refl v = at-most-intro v v (λ i. omega arith)

pub at-most-trans : (u v w : List ℕ) → at_most u v ≡ true → at_most v w ≡ true → at_most u w ≡ true
at-most-trans u v w p q = at-most-intro u w (λ i. omega (arith, at-most-elim u v p i, at-most-elim v w q i))

-- two vectors at most each other say the same
pub at-most-antisym : (v w : List ℕ) → at_most v w ≡ true → at_most w v ≡ true → (i : ℕ) → entry v i ≡ entry w i
at-most-antisym v w p q i = le_antisymm (at-most-elim v w p i) (at-most-elim w v q i)

-- ---- compare: four answers, each given exactly when its two tests say so

pub compared-equal : (v w : List ℕ) → at_most v w ≡ true → at_most w v ≡ true → compared v w ≡ Some Equal
unfolding compared
compared-equal v w p q = rw (p, q)

pub compared-below : (v w : List ℕ) → at_most v w ≡ true → at_most w v ≡ false → compared v w ≡ Some Less
unfolding compared
compared-below v w p q = rw (p, q)

pub compared-above : (v w : List ℕ) → at_most v w ≡ false → at_most w v ≡ true → compared v w ≡ Some Greater
unfolding compared
compared-above v w p q = rw (p, q)

pub compared-beside : (v w : List ℕ) → at_most v w ≡ false → at_most w v ≡ false → compared v w ≡ None
unfolding compared
compared-beside v w p q = rw (p, q)

-- what an answer tells of its two tests
abbrev pub Tells : Option Ordering → Bool → Bool → Type 0
Tells (Some Equal) p q = (p ≡ true) × (q ≡ true)
Tells (Some Less) p q = (p ≡ true) × (q ≡ false)
Tells (Some Greater) p q = (p ≡ false) × (q ≡ true)
Tells None p q = (p ≡ false) × (q ≡ false)

tells : (p q : Bool) → Tells (compared_by p q) p q
tells true true = (refl, refl)
tells true false = (refl, refl)
tells false true = (refl, refl)
tells false false = (refl, refl)

-- so the four answers exclude each other and leave nothing out
pub compared-tells : (v w : List ℕ) → Tells (compared v w) (at_most v w) (at_most w v)
unfolding compared
compared-tells v w = tells (at_most v w) (at_most w v)

-- the other way round: above becomes below
abbrev pub mirrored : Option Ordering → Option Ordering
mirrored (Some Equal) = Some Equal
mirrored (Some Greater) = Some Less
mirrored (Some Less) = Some Greater
mirrored None = None

mirror : (p q : Bool) → compared_by q p ≡ mirrored (compared_by p q)
mirror true true = refl
mirror true false = refl
mirror false true = refl
mirror false false = refl

pub compared-mirrored : (v w : List ℕ) → compared w v ≡ mirrored (compared v w)
unfolding compared
compared-mirrored v w = mirror (at_most v w) (at_most w v)

-- ---- covers

pub covers-intro : (v : List ℕ) (id : EventId) → id.seq ≤ entry v id.idx.0 → covers v id ≡ true
unfolding covers
covers-intro v id h = le-leb id.seq (entry v id.idx.0) h

pub covers-elim : (v : List ℕ) (id : EventId) → covers v id ≡ true → id.seq ≤ entry v id.idx.0
unfolding covers
covers-elim v id h = leb-true id.seq (entry v id.idx.0) h

-- monotone in the vector; so a version that includes a frontier covers all that the frontier contains
pub covers-mono : (v w : List ℕ) (id : EventId) → at_most v w ≡ true → covers v id ≡ true → covers w id ≡ true
covers-mono v w id h c = covers-intro w id (omega (arith, covers-elim v id c, at-most-elim v w h id.idx.0))

-- downward closed in the sequence: of one replica, what is no later is covered too
pub covers_down : (v : List ℕ) (id earlier : EventId) → earlier.idx ≡ id.idx → earlier.seq ≤ id.seq → covers v id ≡ true → covers v earlier ≡ true
covers_down v id earlier e l c = covers-intro v earlier (rw e (omega (arith, covers-elim v id c)))

-- sequence 0 is covered by every vector
pub covers-zero : (v : List ℕ) (id : EventId) → id.seq ≡ 0 → covers v id ≡ true
covers-zero v id e = covers-intro v id (omega arith)

-- Laws of lists made by a rule, of arrays filled entry by entry, and of lists written into a buffer.
use mathlib.Core.Bool.{Bool, true, false}
use mathlib.Core.List.{List, [], ◌∷◌, ◌++◌, append_assoc, append-nil}
use mathlib.Core.Logic.{⊎_elim}
use mathlib.Core.Path.{◌≡◌, refl, sym, ap, ap₂, ◌∙◌}
use Prim.Native.Nat.{ℕ, zero, suc, ◌+◌, ◌<◌, ◌≤◌}
use native.Mathlib.Decide.{ℕ_discrete}
use native.Mathlib.Numerals.{add-one}
use native.Mathlib.Omega.{arith}
use lib.ListN.{length, get_or, set, drop, replicate, length-append, length-drop, length-replicate, get_or-replicate, get_or-append, get_or-eq_default}
use lib.Seq.{ext_get_or, get_or-set_same, get_or-set_other, get_or-append_seam, get_or-append-add, drop-cons, set_at}
use Rattle.laws.specs.Counting.{pick, one, count_below}
use Rattle.laws.specs.Lists.{tabulate, list_below, concat_below, written}
use Rattle.laws.proofs.Orders.{le-or-lt}
use Rattle.laws.proofs.Counting.{count-rises}

-- ---- tabulate

pub length-tabulate : (f : ℕ → ℕ) (n : ℕ) → length (tabulate f n) ≡ n
unfolding tabulate
length-tabulate f zero = refl
length-tabulate f (suc n) = rw (length-append, length-tabulate f n) (add-one n)

pub get_or-tabulate : (f : ℕ → ℕ) (n i : ℕ) → i < n → get_or (tabulate f n) i 0 ≡ f i
unfolding tabulate
get_or-tabulate f zero i l = absurd (omega arith)
get_or-tabulate f (suc n) i l = elim (ℕ_discrete i n) [
  | yes q ↦ rw q (ap (λ (k : ℕ). get_or (tabulate f n ++ (f n ∷ [])) k 0) (sym (length-tabulate f n)) ∙ get_or-append_seam (tabulate f n) (f n) [] 0)
  | no q ↦ get_or-append (tabulate f n) (f n ∷ []) 0 i (rw length-tabulate (omega arith)) ∙ get_or-tabulate f n i (omega arith)
]

pub tabulate-out : (f : ℕ → ℕ) (n i : ℕ) → n ≤ i → get_or (tabulate f n) i 0 ≡ 0
tabulate-out f n i l = get_or-eq_default (tabulate f n) 0 (rw length-tabulate l)

-- where the rule is 0 past the end, the list is the rule
pub get_or-tabulate-all : (f : ℕ → ℕ) (n : ℕ) → ((i : ℕ) → n ≤ i → f i ≡ 0) → (i : ℕ) → get_or (tabulate f n) i 0 ≡ f i
get_or-tabulate-all f n z i = ⊎_elim (λ (l : n ≤ i). tabulate-out f n i l ∙ sym (z i l)) (λ (l : i < n). get_or-tabulate f n i l) (le-or-lt n i)

-- a list of n numbers that follow the rule is the tabulated one
pub tabulated : (f : ℕ → ℕ) (n : ℕ) (l : List ℕ) → length l ≡ n → ((i : ℕ) → i < n → get_or l i 0 ≡ f i) → l ≡ tabulate f n
tabulated f n l e h = ext_get_or 0 l (tabulate f n) (e ∙ sym (length-tabulate f n)) (λ i p. let q : i < n = rw e at p in h i q ∙ sym (get_or-tabulate f n i q))

-- one turn of a loop that fills an array from the front
pub fill-turn : (f : ℕ → ℕ) (l : List ℕ) (i v : ℕ) → i < length l → v ≡ f i → ((k : ℕ) → k < i → get_or l k 0 ≡ f k) → (k : ℕ) → k < i + 1 → get_or (set l i v) k 0 ≡ f k
fill-turn f l i v p e h k q = elim (ℕ_discrete k i) [
  | yes z ↦ rw z (get_or-set_same l i v 0 p ∙ e)
  | no z ↦ get_or-set_other l i k v 0 z ∙ h k (omega arith)
]

-- ---- list_below

-- as many as satisfy the test
pub length-list_below : (t : ℕ → Bool) (f : ℕ → ℕ) (n : ℕ) → length (list_below t f n) ≡ count_below t n
unfolding list_below count_below
length-list_below t f zero = refl
length-list_below t f (suc n) = length-append (list_below t f n) (pick (t n) (f n ∷ []) []) ∙ ap₂ (λ (x y : ℕ). x + y) (length-list_below t f n) (length-pick (t n))
  where
    length-pick : (b : Bool) → length (pick b (f n ∷ []) []) ≡ one b
    length-pick true = refl
    length-pick false = refl

pub list-cong : (t : ℕ → Bool) (f g : ℕ → ℕ) (n : ℕ) → ((k : ℕ) → k < n → f k ≡ g k) → list_below t f n ≡ list_below t g n
unfolding list_below
list-cong t f g zero h = refl
list-cong t f g (suc n) h = ap₂ (λ (x : List ℕ) (y : ℕ). x ++ pick (t n) (y ∷ []) []) (list-cong t f g n (λ k l. h k (omega arith))) (h n (omega arith))

-- what a test picks stands where as many were picked before it
pub list_at : (t : ℕ → Bool) (f : ℕ → ℕ) (n a : ℕ) → a < n → t a ≡ true → get_or (list_below t f n) (count_below t a) 0 ≡ f a
unfolding list_below
list_at t f zero a l e = absurd (omega arith)
list_at t f (suc n) a l e = elim (ℕ_discrete a n) [
  | yes q ↦
      let h : t n ≡ true = ap t (sym q) ∙ e in
      rw (q, h) (ap (λ (i : ℕ). get_or (list_below t f n ++ (f n ∷ [])) i 0) (sym (length-list_below t f n)) ∙ get_or-append_seam (list_below t f n) (f n) [] 0)
  | no q ↦
      get_or-append (list_below t f n) (pick (t n) (f n ∷ []) []) 0 (count_below t a) (omega (arith, length-list_below t f n, count-rises t a n (omega arith) e))
      ∙ list_at t f n a (omega arith) e
]

-- ---- a list written into a buffer

pub length-written : (xs b : List ℕ) → length xs ≤ length b → length (written xs b) ≡ length b
length-written xs b l = simp (length-append, length-drop) (omega arith)

-- one more
pub written-more : (xs b : List ℕ) (v : ℕ) → length xs < length b → set (written xs b) (length xs) v ≡ written (xs ++ (v ∷ [])) b
written-more xs b v l =
    ap (λ (r : List ℕ). set (xs ++ r) (length xs) v) (drop-cons b (length xs) 0 l)
    ∙ set_at xs (get_or b (length xs) 0) (drop (suc (length xs)) b) v (length xs) refl
    ∙ sym (append_assoc xs (v ∷ []) (drop (length (xs ++ (v ∷ []))) b) ∙ ap (λ (n : ℕ). xs ++ (v ∷ drop n b)) (length-append xs (v ∷ []) ∙ add-one (length xs)))

-- one turn of a loop that writes what a test picks: where it holds, and where not
pub write-turn : (t : ℕ → Bool) (f : ℕ → ℕ) (i n v : ℕ) (out b : List ℕ) → n ≡ count_below t i → n < length b → v ≡ f i → t i ≡ true
    → out ≡ written (list_below t f i) b → set out n v ≡ written (list_below t f (suc i)) b
unfolding list_below
write-turn t f i n v out b e l q p h =
    let m = length-list_below t f i in
    rw (p, h, e, q, ← m) (written-more (list_below t f i) b (f i) (omega arith))

pub pass-turn : (t : ℕ → Bool) (f : ℕ → ℕ) (i : ℕ) (out b : List ℕ) → t i ≡ false → out ≡ written (list_below t f i) b → out ≡ written (list_below t f (suc i)) b
unfolding list_below
pass-turn t f i out b p h = rw p (h ∙ ap (λ (xs : List ℕ). written xs b) (sym (append-nil (list_below t f i))))

-- ---- zeros, and the same rule twice

pub get_or-zeros : (n i : ℕ) → ◌≡◌ {A = ℕ} (get_or (replicate n 0) i 0) 0
get_or-zeros n i =
    ⊎_elim (λ (l : n ≤ i). get_or-eq_default (replicate n 0) 0 (rw length-replicate l)) (λ (l : i < n). get_or-replicate n i 0 0 l) (le-or-lt n i)

pub tabulate-cong : (f g : ℕ → ℕ) (n : ℕ) → ((i : ℕ) → i < n → f i ≡ g i) → tabulate f n ≡ tabulate g n
unfolding tabulate
tabulate-cong f g zero h = refl
tabulate-cong f g (suc n) h = ap₂ (λ (x : List ℕ) (y : ℕ). x ++ (y ∷ [])) (tabulate-cong f g n (λ i l. h i (omega arith))) (h n (omega arith))

-- the same test, and the same rule, below the bound
pub list_same : (t u : ℕ → Bool) (f g : ℕ → ℕ) (n : ℕ) → ((k : ℕ) → k < n → t k ≡ u k) → ((k : ℕ) → k < n → f k ≡ g k) → list_below t f n ≡ list_below u g n
unfolding list_below
list_same t u f g zero h q = refl
list_same t u f g (suc n) h q = rw (h n (omega arith), q n (omega arith), list_same t u f g n (λ k l. h k (omega arith)) (λ k l. q k (omega arith)))

-- what stands in one of the lists, in all of them together
concat-within : (f : ℕ → List ℕ) (n k c : ℕ) → k < n → c < length (f k) → length (concat_below f k) + c < length (concat_below f n)
unfolding concat_below
concat-within f zero k c l m = absurd (omega arith)
concat-within f (suc n) k c l m = elim (ℕ_discrete k n) [
  | yes q ↦ let m' : c < length (f n) = rw q at m in rw (q, length-append) (omega arith)
  | no q ↦ rw length-append (omega (arith, concat-within f n k c (omega arith) m))
]

pub concat-at : (f : ℕ → List ℕ) (n k c : ℕ) → k < n → c < length (f k) → get_or (concat_below f n) (length (concat_below f k) + c) 0 ≡ get_or (f k) c 0
unfolding concat_below
concat-at f zero k c l m = absurd (omega arith)
concat-at f (suc n) k c l m = elim (ℕ_discrete k n) [
  | yes q ↦ rw q (get_or-append-add (concat_below f n) (f n) c 0)
  | no q ↦ get_or-append (concat_below f n) (f n) 0 (length (concat_below f k) + c) (concat-within f n k c (omega arith) m) ∙ concat-at f n k c (omega arith) m
]

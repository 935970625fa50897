-- No second answer fits a contract of `positions`, nor that of `reach` of `tables`. Of a set or a plan the contracts say the members and the marks; that
-- the words are so many, each of 64 bits, is the type's, and is asked here.
use mathlib.Core.Bool.{and-false, Bool, true, false, false≢true}
use mathlib.Core.List.{List, [], ◌∷◌}
use mathlib.Core.Logic.{⊎_elim}
use mathlib.Core.Path.{◌≡◌, refl, sym, ap, ◌∙◌}
use Rattle.std.specs.Prelude.{Option, Some, None}
use Prim.Native.Nat.{ℕ, zero, suc, ◌+◌, ◌*◌, ◌/◌, ◌%◌, ◌^◌, ◌<◌, ◌≤◌}
use native.Mathlib.Nat.{le_antisymm}
use native.Mathlib.Omega.{arith}
use lib.Dec.{ltb}
use lib.ListN.{get_or, length}
use lib.Seq.{ext_get_or}
use borrow.Author.Tests.{lt-ltb, le-ltb}
use Rattle.laws.specs.Counting.{any_below}
use Rattle.laws.proofs.Orders.{le-or-lt}
use Rattle.positions.specs.Bits.{bit}
use Rattle.positions.specs.Inner.{LowZero, BitLength}
use Rattle.positions.specs.Members.{has, Words, FirstMissing, Subset, IsHighest}
use Rattle.positions.specs.Compacting.{leaves, marked, Planned, Compacted}
use Rattle.positions.proofs.Bits.{bit-ext, bit-zero}
use Rattle.positions.proofs.Words.{none}
use Rattle.positions.proofs.Members.{ext-positions}
use Rattle.tables.specs.Slots.{Reaches}
use Rattle.positions.specs.declared.Positions.{Positions}
use Rattle.positions.specs.declared.NodeIndex.{NodeIndex}
use Rattle.positions.specs.declared.Compaction.{Compaction}
use Rattle.promises.proofs.OneAnswer.{one_answer}

-- ---- sets and plans

-- a set of which the contract says the members
pub one_set : (f : ℕ → Bool) (p q : Positions) → Words p.words → Words q.words → ((k : ℕ) → has p k ≡ f k) → ((k : ℕ) → has q k ≡ f k) → p ≡ q
one_set f p q u w a b = ext-positions p q u w (λ k. one_answer (a k) (b k))

-- without whole words it is false: these two have the same members
pub words-needed : (k : ℕ) → has (record { words = [] }) k ≡ has (record { words = 0 ∷ 0 ∷ 0 ∷ 0 ∷ [] }) k
unfolding has
words-needed k = rw (bit-zero (k % 64)) (and-false (ltb k 256)) ∙ sym (none k)

-- `compacted`
pub compacted-once : {p r r' : Positions} {by : Compaction} → Words r.words → Words r'.words → Compacted p by r → Compacted p by r' → r ≡ r'
compacted-once {p} {r} {r'} u w a b = ext-positions r r' u w (λ q. one_answer (a.exact q) (b.exact q))

-- the words of a plan: 32 of 64 bits
pub record Marked (ms : List ℕ) : Type 0 where
  pub many : length ms ≡ 32
  pub fit : (j : ℕ) → get_or ms j 0 < 2 ^ 64

-- a bit of a plan's word is a mark
mark-bit : (ms : List ℕ) (j k : ℕ) → k < 64 → bit (get_or ms j 0) k ≡ marked ms (j / 4) (64 * (j % 4) + k)
unfolding marked
mark-bit ms j k l =
    let a : (64 * (j % 4) + k) / 64 ≡ j % 4 = omega arith in
    let b : (64 * (j % 4) + k) % 64 ≡ k = omega arith in
    let c : 4 * (j / 4) + j % 4 ≡ j = omega arith in
    rw (a, b, c, lt-ltb (64 * (j % 4) + k) 256 (omega arith))

-- `compaction`
pub planned-once : {keep : Positions} {x y : Compaction} → Marked x.marks → Marked y.marks
    → Planned x × (x.keep ≡ keep) → Planned y × (y.keep ≡ keep) → x ≡ y
planned-once {keep} {x} {y} u w a b =
    let e = one_answer a.1 b.1 in
    let m = ext_get_or 0 x.marks y.marks (one_answer u.many w.many) (λ j p. word j (omega (arith, u.many))) in
    λ i. record { keep = e i; marks = m i }
  where
    same : (i q : ℕ) → i < 8 → marked x.marks i q ≡ marked y.marks i q
    same i q s = a.0.marks i s q ∙ (ap (λ (p : Positions). any_below (leaves p i q) 256) (one_answer a.1 b.1) ∙ sym (b.0.marks i s q))

    word : (j : ℕ) → j < 32 → get_or x.marks j 0 ≡ get_or y.marks j 0
    word j s = bit-ext 64 (get_or x.marks j 0) (get_or y.marks j 0) (u.fit j) (w.fit j)
        (λ k t. mark-bit x.marks j k t ∙ (same (j / 4) (64 * (j % 4) + k) (omega arith) ∙ sym (mark-bit y.marks j k t)))

-- ---- numbers and tests

-- two numbers neither of which is below the other
neither : (m n : ℕ) → (m < n → ⊥) → (n < m → ⊥) → m ≡ n
neither m n a b = le_antisymm (⊎_elim (λ (l : m ≤ n). l) (λ (l : n < m). absurd (b l)) (le-or-lt m n)) (⊎_elim (λ (l : n ≤ m). l) (λ (l : m < n). absurd (a l)) (le-or-lt n m))

clash : {b : Bool} → b ≡ true → b ≡ false → ⊥
clash t f = false≢true (sym f ∙ t)

-- `is_subset`
pub subset-once : {p q : Positions} {r r' : Bool} → Subset p q r → Subset p q r' → r ≡ r'
subset-once a b = one_answer a.exact b.exact

-- `first_missing`
pub missing-once : {p : Positions} {r r' : ℕ} → FirstMissing p r → FirstMissing p r' → r ≡ r'
missing-once {p} {r} {r'} a b = neither r r' (λ l. clash (b.before r l) a.missing) (λ l. clash (a.before r' l) b.missing)

-- `highest_below`
pub highest-once : (p : Positions) (n : ℕ) (r r' : Option NodeIndex) → IsHighest p n r → IsHighest p n r' → r ≡ r'
highest-once p n (Some i) (Some k) a b =
    let e = neither i.0 k.0 (λ l. clash b.inside (a.above k.0 l b.under)) (λ l. clash a.inside (b.above i.0 l a.under)) in
    λ t. Some (record { 0 = e t })
highest-once p n (Some i) None a b = absurd (clash a.inside (b i.0 a.under))
highest-once p n None (Some k) a b = absurd (clash b.inside (a k.0 b.under))
highest-once p n None None a b = refl

-- `reach` of `tables`: of two that fit, neither is below the other
reaches-at : {cov : ℕ → Bool} {m n : ℕ} → Reaches cov m → Reaches cov n → m < n → ⊥
reaches-at {cov} {m} {n} a b l =
    let s : m < 256 = omega (arith, b.most) in
    clash (lt-ltb m n l) (b.upto m s ∙ (sym (a.upto m s) ∙ le-ltb m m (omega arith)))

pub reaches-once : {cov : ℕ → Bool} {m n : ℕ} → Reaches cov m → Reaches cov n → m ≡ n
reaches-once {cov} {m} {n} a b = neither m n (reaches-at a b) (reaches-at b a)

-- ---- the functions on one word, which only this crate sees

-- a word of which the contract says the bits
pub one_word : (f : ℕ → Bool) (x y : ℕ) → x < 2 ^ 64 → y < 2 ^ 64 → ((j : ℕ) → j < 64 → bit x j ≡ f j) → ((j : ℕ) → j < 64 → bit y j ≡ f j) → x ≡ y
one_word f x y u w a b = bit-ext 64 x y u w (λ j l. one_answer (a j l) (b j l))

pub low-zero-once : {w x y : ℕ} → LowZero w x → LowZero w y → x ≡ y
low-zero-once {w} {x} {y} a b =
    neither x y (λ l. clash (b.before x l) (a.clear (omega (arith, b.most)))) (λ l. clash (a.before y l) (b.clear (omega (arith, a.most))))

length_at : (w x y : ℕ) → BitLength w x → BitLength w y → x < y → ⊥
length_at w x zero a b l = omega arith
length_at w x (suc y) a b l = clash (b.top y refl) (a.above y (omega arith))

pub bit-length-once : {w x y : ℕ} → BitLength w x → BitLength w y → x ≡ y
bit-length-once {w} {x} {y} a b = neither x y (length_at w x y a b) (length_at w y x b a)

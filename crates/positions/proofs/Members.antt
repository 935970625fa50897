-- Laws of sets by their members, for callers: equal members make equal sets, and the turns of a loop that fills a set.
use mathlib.Core.Bool.{and-true, false≢true, Bool, true, false, ◌&&◌, ◌||◌, not}
use mathlib.Core.Logic.{⊎_elim}
use mathlib.Core.List.{List, [], ◌∷◌}
use mathlib.Core.Path.{◌≡◌, refl, sym, ◌∙◌}
use Prim.Native.Nat.{ℕ, zero, suc, ◌+◌, ◌*◌, ◌^◌, ◌<◌, ◌≤◌}
use native.Mathlib.Omega.{arith}
use lib.ListN.{get_or, length}
use lib.Seq.{ext_get_or}
use lib.Dec.{ltb, lit<}
use lib.Bits.{bit_or}
use Rattle.std.specs.Prelude.{Option, Some, None}
use borrow.Author.Tests.{lt-ltb, le-ltb}
use mir.Val.{Fits}
use mir.Syntax.{w64}
use Rattle.laws.specs.Counting.{all_below}
use Rattle.laws.proofs.Orders.{le-or-lt, bool_iff, and_both, imp_or, or-imp}
use Rattle.laws.proofs.Counting.{all-intro, all-elim}
use Rattle.positions.specs.Members.{has, Words, Subset, IsHighest}
use Rattle.positions.specs.declared.Positions.{Positions}
use Rattle.positions.specs.declared.NodeIndex.{NodeIndex}
use Rattle.positions.proofs.Bits.{bit-ext}
use Rattle.positions.proofs.Words.{has-out, has-at, none}

-- the contracts determine a set: two sets of whole words with the same members are equal
pub ext-positions : (p q : Positions) → Words p.words → Words q.words → ((k : ℕ) → has p k ≡ has q k) → p ≡ q
ext-positions p q a b h =
    let e : p.words ≡ q.words = ext_get_or 0 p.words q.words (a.four ∙ sym b.four) (λ j l. bit-ext 64 (get_or p.words j 0) (get_or q.words j 0) (a.fit j) (b.fit j)
    (λ k m. let s : j < 4 = omega (arith, a.four) in sym (has-at p j k s m) ∙ h (64 * j + k) ∙ has-at q j k s m)) in
    λ i. record { words = e i }

-- the words of a parameter or of a call's result are whole: `search rules` finds both facts
pub whole_words : (ws : List ℕ) → length ws ≡ 4 → ((j : ℕ) → Fits w64 (get_or ws j 0)) → Words ws
whole_words ws l f = record { four = l; fit = λ j. (f j).fits }

-- a set with no member has only words of 0
pub all-zero : (p : Positions) → Words p.words → ((k : ℕ) → has p k ≡ false)
    → bit_or (bit_or (bit_or (get_or p.words 0 0) (get_or p.words 1 0)) (get_or p.words 2 0)) (get_or p.words 3 0) ≡ 0
all-zero p a h =
    let e : p ≡ record { words = 0 ∷ 0 ∷ 0 ∷ 0 ∷ [] } = ext-positions p (record { words = 0 ∷ 0 ∷ 0 ∷ 0 ∷ [] }) a (record { four = refl; fit = zeros }) (λ k. h k ∙ sym (none k)) in
    rw e
  where
    zeros : (j : ℕ) → get_or (0 ∷ 0 ∷ 0 ∷ 0 ∷ []) j 0 < 2 ^ 64
    zeros zero = lit< tt
    zeros (suc zero) = lit< tt
    zeros (suc (suc zero)) = lit< tt
    zeros (suc (suc (suc zero))) = lit< tt
    zeros (suc (suc (suc (suc j)))) = lit< tt

-- a member is below 256
pub has-small : (p : Positions) (k : ℕ) → has p k ≡ true → k < 256
has-small p k e = ⊎_elim (λ (l : 256 ≤ k). absurd (false≢true (sym (has-out p k l) ∙ e))) (λ (l : k < 256). l) (le-or-lt 256 k)

-- that each member of p is in q, as a test over the 256 positions
pub subset-law : (p q : Positions) (r : Bool) → (r ≡ true → (k : ℕ) → has p k ≡ true → has q k ≡ true)
    → (((k : ℕ) → has p k ≡ true → has q k ≡ true) → r ≡ true) → Subset p q r
subset-law p q r sound complete = record { exact = exact; sound = sound; complete = complete }
  where
    exact : r ≡ all_below (λ k. not (has p k) || has q k) 256
    exact = bool_iff r (all_below (λ k. not (has p k) || has q k) 256)
        (λ e. all-intro (λ k. not (has p k) || has q k) 256 (λ k m. imp_or (has p k) (has q k) (sound e k)))
        (λ e. complete (λ k h. or-imp (has p k) (has q k) (all-elim (λ k. not (has p k) || has q k) 256 e k (has-small p k h)) h))

-- the greatest of the members below n is the greatest member below n
pub highest-law : (p q : Positions) (n : ℕ) → ((k : ℕ) → has q k ≡ (has p k && ltb k n)) → (r : Option NodeIndex) → IsHighest q 256 r → IsHighest p n r
highest-law p q n h (Some i) z =
    let k = i.0 in
    let b = and_both (has p k) (ltb k n) (sym (h k) ∙ z.inside) in
    record {
      inside = b.0;
      small = z.small;
      under = ⊎_elim (λ (l : n ≤ k). absurd (false≢true (sym (le-ltb k n l) ∙ b.1))) (λ (l : k < n). l) (le-or-lt n k);
      above = λ m l o. gone p q n h m o (⊎_elim (λ (s : 256 ≤ m). has-out q m s) (λ (s : m < 256). z.above m l s) (le-or-lt 256 m));
    }
  where
    gone : (p q : Positions) (n : ℕ) → ((k : ℕ) → has q k ≡ (has p k && ltb k n)) → (m : ℕ) → m < n → has q m ≡ false → has p m ≡ false
    gone p q n h m o e = sym (and-true (has p m)) ∙ rw (lt-ltb m n o) at (sym (h m) ∙ e)
highest-law p q n h None z = λ k l. sym (and-true (has p k)) ∙ rw (lt-ltb k n l) at (sym (h k) ∙ ⊎_elim (λ (s : 256 ≤ k). has-out q k s) (λ (s : k < 256). z k s) (le-or-lt 256 k))

-- A cut is order-free: two logs that hold the same notes with the same versions have cuts of the same lengths, with the same ids.
use mathlib.Core.Bool.{true}
use mathlib.Core.Logic.{⊎_elim}
use mathlib.Core.Path.{◌≡◌}
use Prim.Native.Nat.{ℕ, suc, ◌<◌, ◌≤◌}
use native.Mathlib.Nat.{le_antisymm}
use native.Mathlib.Omega.{arith}
use Rattle.laws.proofs.Orders.{le-or-lt, bool_iff}
use Rattle.positions.specs.Members.{has}
use Rattle.tables.specs.Slots.{descends}
use Rattle.graph.specs.Whole.{EventGraph}
use Rattle.graph.proofs.DescentLaws.{recorded-intro, recorded-held, recorded-elim}
use Rattle.promises.specs.Reached.{Versions}
use Rattle.promises.specs.Demand.{SameId}
use Rattle.promises.proofs.Pigeonhole.{pigeonhole}
use Rattle.promises.proofs.Matching.{Match, swapped, same_back, one-slot, descends-over}

-- ---- as many are held

held-within : {g h : EventGraph} {W U : Versions} → Match g W h U → g.held ≤ h.held
held-within {g} {h} m = pigeonhole (SameId g h) g.held h.held (λ j l. let w = m.to j l in (w.0, w.1, w.2.id)) (one-slot m)

pub held_same : {g h : EventGraph} {W U : Versions} → Match g W h U → g.held ≡ h.held
held_same m = le_antisymm (held-within m) (held-within (swapped m))

-- ---- a cut has the same ids before its end

module _ {g h : EventGraph} {W U : Versions} (m : Match g W h U) (k : ℕ) (recorded : has g.cuts k ≡ true) where
  -- in the other too, what stands beyond it descends from all that stands up to it
  over-cut : (i j a b : ℕ) → i < g.held → k < i → j ≤ k → a < h.held → b < h.held → SameId g h i a → SameId g h j b → descends h.pasts a b ≡ true
  over-cut i j a b l o p q r s t =
      descends-over m i j a b l q r s t (recorded-elim g m.left.graph k recorded i j l o p)

  -- what stands up to position k does so in the other: all before it there comes from up to k
  pub cut-stays : (i a : ℕ) → i ≤ k → a < h.held → SameId g h i a → a ≤ k
  cut-stays i a l q s =
      let n = pigeonhole (SameId h g) (suc a) (suc k) partner (λ x y z p r. one-slot (swapped m) x y z (omega arith) (omega arith)) in
      omega arith
    where
      partner : (b : ℕ) → b < suc a → (j : ℕ) × (j < suc k) × SameId h g b j
      partner b p =
          let x = m.back b (omega arith) in (
            x.0,
            ⊎_elim
                (λ (o : x.0 ≤ k). omega arith)
                (λ (o : k < x.0). absurd (omega (arith, m.right.graph.earlier b a (omega arith) (over-cut x.0 i b a x.1 o l (omega arith) q (same_back x.2.id) s))))
                (le-or-lt x.0 k),
            x.2.id,
          )

  -- and what stands beyond it does so too: all up to k come before it there
  pub cut-leaves : (i a : ℕ) → k < i → i < g.held → a < h.held → SameId g h i a → k < a
  cut-leaves i a o l q s =
      pigeonhole (SameId g h) (suc k) a partner (λ x y z p r. one-slot m x y z (omega arith) (omega arith))
    where
      partner : (j : ℕ) → j < suc k → (b : ℕ) × (b < a) × SameId g h j b
      partner j p =
          let x = m.to j (omega arith) in
          (x.0, m.right.graph.earlier a x.0 q (over-cut i j a x.0 l o (omega arith) q x.1 s x.2.id), x.2.id)

  pub cut-over : has h.cuts k ≡ true
  cut-over =
      recorded-intro h m.right.graph k (omega (arith, (recorded-held g m.left.graph k recorded).0, held-within m)) each
    where
      each : (j i : ℕ) → j < h.held → k < j → i ≤ k → descends h.pasts j i ≡ true
      each j i q o l =
          let x = m.back j q in
          let y = m.back i (omega arith) in
          over-cut x.0 y.0 j i x.1
          (⊎_elim (λ (z : x.0 ≤ k). absurd (omega (arith, cut-stays x.0 j z q (same_back x.2.id)))) (λ (z : k < x.0). z) (le-or-lt x.0 k))
          (⊎_elim (λ (z : y.0 ≤ k). z) (λ (z : k < y.0). absurd (omega (arith, cut-leaves y.0 i z y.1 (omega arith) (same_back y.2.id)))) (le-or-lt y.0 k))
          q (omega arith) (same_back x.2.id) (same_back y.2.id)

pub cuts-same : {g h : EventGraph} {W U : Versions} → Match g W h U → (k : ℕ) → has g.cuts k ≡ has h.cuts k
cuts-same {g} {h} m k = bool_iff (has g.cuts k) (has h.cuts k) (cut-over m k) (cut-over (swapped m) k)

-- each of the first n of the one has its id among the first n of the other
abbrev pub Prefix : EventGraph → EventGraph → ℕ → Type 0
Prefix g h n = (j : ℕ) → j < n → (k : ℕ) × (k < n) × SameId g h j k

pub prefix-over : {g h : EventGraph} {W U : Versions} → Match g W h U → (k : ℕ) → has g.cuts k ≡ true → Prefix g h (suc k)
prefix-over {g} {h} m k c j l =
    let w = m.to j (omega (arith, (recorded-held g m.left.graph k c).0)) in
    let s = cut-stays m k c j w.0 (omega arith) w.1 w.2.id in
    (w.0, omega arith, w.2.id)

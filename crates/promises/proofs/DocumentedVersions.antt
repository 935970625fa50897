-- A cut is the past of a critical version, with it; and every critical version that is not empty makes a cut so.
use mathlib.Core.Bool.{true, false, true≢false}
use mathlib.Core.Logic.{◌⊎◌, ◌↔◌, inl, inr, ⊎_elim}
use mathlib.Core.Path.{◌≡◌, sym, ◌∙◌}
use Prim.Native.Nat.{ℕ, zero, suc, ◌+◌, ◌<◌, ◌≤◌}
use native.Mathlib.Omega.{arith}
use Rattle.laws.specs.Counting.{any_below}
use Rattle.laws.proofs.Orders.{le-or-lt, true-or-false}
use Rattle.laws.proofs.Counting.{any-elim}
use Rattle.laws.proofs.Searching.{any_false, decided-prefix}
use Rattle.tables.specs.Slots.{descends}
use Rattle.graph.specs.Whole.{EventGraph}
use Rattle.promises.specs.Reached.{Versions, version_at}
use Rattle.promises.specs.Documented.{Covers, Before, IsCut, Under, CriticalVersion, MaximalBelow}
use Rattle.promises.proofs.LogOk.{LogOk}
use Rattle.promises.proofs.Documented.{before_of, of-before, before-through}

module _ (g : EventGraph) (W : Versions) (ok : LogOk g W) where
  -- what is below a member, or a member, has its past below one
  under-through : (In : ℕ → Type 0) (i j : ℕ) → Before g W i j → Under g W In j → Under g W In i
  under-through In i j b = ⊎_elim (λ (v : In j). inr (j, v, b))
      (λ (w : (k : ℕ) × In k × Before g W j k). inr (w.0, w.1, before-through g W ok w.0 j i w.2 b))

  -- of the first n positions, each is maximal there or in the past of one that is: what is not has a later one above it
  up : (n : ℕ) → n ≤ g.held → (d i : ℕ) → n ≤ i + d → i < n → Under g W (MaximalBelow g W n) i
  up n l zero i m q = absurd (omega arith)
  up n l (suc d) i m q = ⊎_elim
      (λ (t : any_below (λ j. descends g.pasts j i) n ≡ true).
      let w = any-elim (λ j. descends g.pasts j i) n t in
      let b = before_of g W ok w.0 i (omega (arith, w.1)) w.2 in
      under-through (MaximalBelow g W n) i w.0 b (up n l d w.0 (omega (arith, b.earlier)) w.1))
      (λ (z : any_below (λ j. descends g.pasts j i) n ≡ false). inl (q, λ j a b. true≢false (sym (of-before g W ok j i b) ∙ any_false (λ j. descends g.pasts j i) n z j a)))
      (true-or-false (any_below (λ j. descends g.pasts j i) n))

  pub version-documented : (n : ℕ) → IsCut g W n → CriticalVersion g W (MaximalBelow g W n) × ((i : ℕ) → Under g W (MaximalBelow g W n) i ↔ (i < n))
  version-documented n c = (
    record {
      held = λ k m. omega (arith, m.0, c.most);
      each = λ i l. ⊎_elim
          (λ (q : n ≤ i). inr (λ k m. record { held = l; earlier = omega (arith, m.0); covered = c.covers i k q l m.0 }))
          (λ (q : i < n). inl (back i q)) (le-or-lt n i);
    },
    λ i. (there i, back i),
  )
    where
      there : (i : ℕ) → Under g W (MaximalBelow g W n) i → i < n
      there i = ⊎_elim (λ (m : MaximalBelow g W n i). m.0)
          (λ (w : (k : ℕ) × MaximalBelow g W n k × Before g W i k). omega (arith, w.1.0, w.2.earlier))

      back : (i : ℕ) → i < n → Under g W (MaximalBelow g W n) i
      back i q = up n c.most n i (omega arith) q

  module _ (In : ℕ → Type 0) (v : CriticalVersion g W In) where
    under-held : (i : ℕ) → Under g W In i → i < g.held
    under-held i = ⊎_elim (λ (m : In i). v.held i m) (λ (w : (k : ℕ) × In k × Before g W i k). omega (arith, w.2.held, w.2.earlier))

    -- nothing up to a member of V or of its past comes after all of V
    not_after : (i j : ℕ) → i ≤ j → Under g W In j → ((k : ℕ) → In k → Before g W k i) → ⊥
    not_after i j l u a = ⊎_elim
        (λ (m : In j). omega (arith, (a j m).earlier))
        (λ (w : (k : ℕ) × In k × Before g W j k). omega (arith, (a w.0 w.1).earlier, w.2.earlier)) u

    pub prefix-documented : (k : ℕ) → In k → (n : ℕ) × IsCut g W n × ((i : ℕ) → Under g W In i ↔ (i < n))
    prefix-documented k m =
        let w = decided-prefix (Under g W In) g.held decide down in
        (w.0, cut w.0 w.1 w.2, λ i. ((λ u. (w.2 i (under-held i u)).0 u), λ q. (w.2 i (omega (arith, w.1))).1 q))
      where
        decide : (i : ℕ) → i < g.held → Under g W In i ⊎ (Under g W In i → ⊥)
        decide i l = ⊎_elim (λ (u : Under g W In i). inl u) (λ (a : (k : ℕ) → In k → Before g W k i). inr (λ u. not_after i i (omega arith) u a)) (v.each i l)

        down : (i j : ℕ) → i < j → j < g.held → Under g W In j → Under g W In i
        down i j l h u = ⊎_elim (λ (x : Under g W In i). x) (λ (a : (k : ℕ) → In k → Before g W k i). absurd (not_after i j (omega arith) u a)) (v.each i (omega arith))

        cut : (n : ℕ) → n ≤ g.held → ((i : ℕ) → i < g.held → Under g W In i ↔ (i < n)) → IsCut g W n
        cut n l h = record {
          some = omega (arith, (h k (v.held k m)).0 (inl m));
          most = l;
          covers = λ i j q b r. ⊎_elim
              (λ (u : Under g W In i). absurd (omega (arith, (h i b).0 u)))
              (λ (a : (k : ℕ) → In k → Before g W k i). covers i j a ((h j (omega arith)).1 r)) (v.each i b);
        }
          where
            covers : (i j : ℕ) → ((k : ℕ) → In k → Before g W k i) → Under g W In j → Covers g (version_at g W i) j
            covers i j a = ⊎_elim (λ (x : In j). (a j x).covered)
                (λ (w : (k : ℕ) × In k × Before g W j k). (before-through g W ok i w.0 j (a w.0 w.1) w.2).covered)

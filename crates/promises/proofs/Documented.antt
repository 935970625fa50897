-- Descent, parents, heads and cuts are what the documents say, over positions and versions.
use mathlib.Core.Bool.{true, false, true≢false}
use mathlib.Core.Logic.{◌↔◌}
use mathlib.Core.Path.{◌≡◌, sym, ◌∙◌}
use Prim.Native.Nat.{ℕ, suc, ◌<◌}
use native.Mathlib.Omega.{arith}
use lib.Dec.{leb, ltb}
use borrow.Author.Tests.{lt-ltb, le-leb, leb-true}
use Rattle.laws.proofs.Orders.{and_both, is_false}
use Rattle.clocks.specs.Vectors.{entry}
use Rattle.positions.specs.Members.{has}
use Rattle.tables.specs.Slots.{descends}
use Rattle.graph.specs.Whole.{EventGraph}
use Rattle.graph.specs.Graphs.{parents, heads}
use Rattle.graph.specs.Invariant.{replica_at, seq_at}
use Rattle.graph.proofs.DescentLaws.{recorded-intro, recorded-held, recorded-elim}
use Rattle.graph.proofs.MeaningLaws.{parent-elim, parent-intro, head-elim, head-intro}
use Rattle.promises.specs.Reached.{Versions, version_at}
use Rattle.promises.specs.Documented.{Before, DirectParent, Maximal, IsCut}
use Rattle.promises.proofs.LogOk.{LogOk}

module _ (g : EventGraph) (W : Versions) (ok : LogOk g W) where
  -- ---- descent is cover

  pub before_of : (i j : ℕ) → i < g.held → descends g.pasts i j ≡ true → Before g W j i
  before_of i j l d =
      let m = ok.graph.earlier i j l d in
      let b = and_both (ltb j i) (leb (seq_at g j) (entry (version_at g W i) (replica_at g j))) (sym (ok.descent i j l (omega arith)) ∙ d) in
      record { held = l; earlier = omega arith; covered = leb-true (seq_at g j) (entry (version_at g W i) (replica_at g j)) b.1 }

  pub of-before : (i j : ℕ) → Before g W j i → descends g.pasts i j ≡ true
  of-before i j b =
      ok.descent i j b.held (omega (arith, b.held, b.earlier))
      ∙ rw (lt-ltb j i (omega (arith, b.earlier))) (le-leb (seq_at g j) (entry (version_at g W i) (replica_at g j)) b.covered)

  pub past-exact : (i j : ℕ) → i < g.held → (descends g.pasts i j ≡ true) ↔ Before g W j i
  past-exact i j l = (before_of i j l, of-before i j)

  -- the past of the past is past
  pub before-through : (i j k : ℕ) → Before g W j i → Before g W k j → Before g W k i
  before-through i j k a b = before_of i k a.held (ok.graph.through i j k a.held (of-before i j a) (of-before j k b))

  is-before : (i j : ℕ) → i < g.held → (Before g W j i → ⊥) → descends g.pasts i j ≡ false
  is-before i j l h = is_false (descends g.pasts i j) (λ t. h (before_of i j l t))

  -- ---- parents and heads

  pub parent-exact : (i k : ℕ) → i < g.held → (parents g i k ≡ true) ↔ DirectParent g W k i
  parent-exact i k l = (there, back)
    where
      there : parents g i k ≡ true → DirectParent g W k i
      there h =
          let p = parent-elim g i k h in
          record {
            before = before_of i k l p.0;
            nearest = λ m a b. true≢false (sym (of-before m k a) ∙ p.1 m (of-before i m b));
          }

      back : DirectParent g W k i → parents g i k ≡ true
      back p = parent-intro g i k (of-before i k p.before)
          (λ j d. let b = before_of i j l d in is-before j k (omega (arith, b.earlier)) (λ a. p.nearest j a b))

  pub head-exact : (k : ℕ) → (heads g k ≡ true) ↔ Maximal g W k
  head-exact k = (there, back)
    where
      there : heads g k ≡ true → Maximal g W k
      there h =
          let p = head-elim g ok.graph k h in
          record { held = p.0; last = λ j b. true≢false (sym (of-before j k b) ∙ p.1 j b.held) }

      back : Maximal g W k → heads g k ≡ true
      back m = head-intro g k m.held (λ j l. is-before j k l (m.last j))

  -- ---- cuts

  pub cut-exact : (k : ℕ) → (has g.cuts k ≡ true) ↔ IsCut g W (suc k)
  cut-exact k = (there, back)
    where
      there : has g.cuts k ≡ true → IsCut g W (suc k)
      there h =
          let l = recorded-held g ok.graph k h in
          record {
            some = omega arith;
            most = omega (arith, l.0);
            covers = λ i j m b q. (before_of i j (omega arith) (recorded-elim g ok.graph k h i j (omega arith) (omega arith) (omega arith))).covered;
          }

      back : IsCut g W (suc k) → has g.cuts k ≡ true
      back c = recorded-intro g ok.graph k (omega (arith, c.most))
          (λ j i b m r. of-before j i (record { held = b; earlier = omega arith; covered = c.covers j i (omega arith) (omega arith) (omega arith) }))

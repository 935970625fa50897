-- Why a length is no cut, and the chain, are what document 02 says, over positions and versions: descent is cover.
use mathlib.Core.Bool.{true, false≢true}
use mathlib.Core.Logic.{⊎_elim, ◌↔◌}
use mathlib.Core.Path.{◌≡◌, sym, ◌∙◌}
use Prim.Native.Nat.{ℕ, suc, ◌-◌, ◌≤◌}
use native.Mathlib.Omega.{arith}
use Rattle.std.specs.Prelude.{Ok, Some, None}
use Rattle.laws.proofs.Orders.{is_false}
use Rattle.positions.specs.Members.{has}
use Rattle.tables.specs.Slots.{descends}
use Rattle.graph.specs.Whole.{EventGraph}
use Rattle.graph.specs.Whys.{lack, why_of}
use Rattle.graph.proofs.WhyLaws.{Shows, why-cases, why-cut, why-refused, why-pair}
use Rattle.graph.proofs.ChainLaws.{chain-none, chain_by}
use Rattle.promises.specs.Reached.{Versions, Reached}
use Rattle.promises.specs.Documented.{DirectParent, IsCut}
use Rattle.promises.specs.Why.{HoldsBack, WhyDocumented}
use Rattle.promises.proofs.LogOk.{LogOk}
use Rattle.promises.proofs.ReachedLog.{reached-ok}
use Rattle.promises.proofs.Documented.{before_of, of-before, parent-exact, cut-exact}

module _ (g : EventGraph) (W : Versions) (ok : LogOk g W) where
  why-is-cut : (n : ℕ) → (why_of g n ≡ Ok None) ↔ IsCut g W n
  why-is-cut n = (there, back)
    where
      there : why_of g n ≡ Ok None → IsCut g W n
      there e =
          let r = (why-cut g ok.graph n).0 e in
          let s : suc (n - 1) ≡ n = omega (arith, r.0) in
          rw s at ((cut-exact g W ok (n - 1)).0 r.2)

      back : IsCut g W n → why_of g n ≡ Ok None
      back c =
          let s : suc (n - 1) ≡ n = omega (arith, c.some) in
          (why-cut g ok.graph n).1 (c.some, c.most, (cut-exact g W ok (n - 1)).1 (rw s c))

  why-is-pair : (n a b : ℕ) → (why_of g n ≡ Ok (Some (lack a b))) ↔ HoldsBack g W n a b
  why-is-pair n a b = (λ e. there ((why-pair g ok.graph n a b).0 e), λ h. (why-pair g ok.graph n a b).1 (back h))
    where
      there : Shows g n a b → HoldsBack g W n a b
      there s = record {
        after = s.after;
        held = s.held;
        first = λ i k p q r. (before_of g W ok i k (omega (arith, s.held)) (s.first i k p q r)).covered;
        before = s.before;
        lacks = λ c. false≢true (sym s.lacks ∙ of-before g W ok a b (record { held = s.held; earlier = omega (arith, s.after, s.before); covered = c }));
        lowest = λ k q. (before_of g W ok a k s.held (s.lowest k q)).covered;
      }

      back : HoldsBack g W n a b → Shows g n a b
      back h = record {
        after = h.after;
        held = h.held;
        first = λ i k p q r. of-before g W ok i k (record { held = omega (arith, h.held); earlier = omega arith; covered = h.first i k p q r });
        before = h.before;
        lacks = is_false (descends g.pasts a b) (λ t. h.lacks (before_of g W ok a b h.held t).covered);
        lowest = λ k q. of-before g W ok a k (record { held = h.held; earlier = omega (arith, h.after, h.before); covered = h.lowest k q });
      }

  pair-given : (n : ℕ) → 1 ≤ n → n ≤ g.held → (IsCut g W n → ⊥) ↔ ((a : ℕ) × (b : ℕ) × (why_of g n ≡ Ok (Some (lack a b))))
  pair-given n some most = (there, back)
    where
      there : (IsCut g W n → ⊥) → (a : ℕ) × (b : ℕ) × (why_of g n ≡ Ok (Some (lack a b)))
      there h = ⊎_elim
          (λ (c : (why_of g n ≡ Ok None) × (has g.cuts (n - 1) ≡ true)). absurd (h ((why-is-cut n).0 c.0)))
          (λ (p : (a : ℕ) × (b : ℕ) × (why_of g n ≡ Ok (Some (lack a b))) × Shows g n a b). (p.0, p.1, p.2)) (why-cases g ok.graph n some most)

      back : (a : ℕ) × (b : ℕ) × (why_of g n ≡ Ok (Some (lack a b))) → IsCut g W n → ⊥
      back p c = let h = (why-is-pair n p.0 p.1).0 p.2 in h.lacks (c.covers p.0 p.1 h.after h.held h.before)

  pub why-documented : WhyDocumented g W
  why-documented = record {
    cut = why-is-cut;
    refused = why-refused g ok.graph;
    pair = why-is-pair;
    given = pair-given;
    chain = chain_by g ok.graph (λ i k. DirectParent g W k i) (parent-exact g W ok);
    none = chain-none g ok.graph;
  }

pub reached-why : {g : EventGraph} {W : Versions} {accepted gone : ℕ} → Reached g W accepted gone → WhyDocumented g W
reached-why {g = g} {W = W} p = why-documented g W (reached-ok p)

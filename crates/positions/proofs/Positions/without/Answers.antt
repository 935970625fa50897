-- Word by word, the bits that the other lacks.
use mathlib.Core.Bool.{Bool, ◌&&◌, not}
use mathlib.Core.Path.{◌≡◌, refl}
use Prim.Native.Nat.{ℕ, ◌<◌}
use lib.ListN.{get_or}
use borrow.Author.Rules.{rules}
use Rattle.positions.specs.Bits.{bit}
use Rattle.positions.proofs.Made.{made}
use Rattle.positions.proofs.Words.{by-two}
use Rattle.positions.proofs.Positions.without.Goals as goal

pub returns : goal.returns
returns c = let a = c.args in
    by-two (λ (x y : Bool). x && not y) a.self a.other _ refl
    (made _ (λ s. (s.0.now ≡ a.self.words) × (s.1.now ≡ a.other.words)) (λ j y. (k : ℕ) → k < 64 → bit y k ≡ (bit (get_or a.self.words j 0) k && not (bit (get_or a.other.words j 0) k)))
    (λ s i y t p q. search rules) (refl, refl) c.from_fn.ensures.items)

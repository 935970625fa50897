-- Word by word, and bit by bit, an `and`.
use mathlib.Core.Bool.{◌&&◌}
use mathlib.Core.Path.{◌≡◌, refl, ap, ◌∙◌}
use Prim.Native.Nat.{ℕ}
use lib.Bits.{bit_and}
use lib.ListN.{get_or}
use borrow.Author.Rules.{rules}
use Rattle.positions.specs.Bits.{bit}
use Rattle.positions.proofs.Bits.{bit-and}
use Rattle.positions.proofs.Made.{made_as}
use Rattle.positions.proofs.Words.{by-two}
use Rattle.positions.proofs.Positions.intersection.Goals as goal

pub returns : goal.returns
returns c = let a = c.args in
    let e = made_as _ (λ s. (s.0.now ≡ a.self.words) × (s.1.now ≡ a.other.words)) (λ j. bit_and (get_or a.self.words j 0) (get_or a.other.words j 0)) (λ s i y t p q. search rules) (refl, refl) c.from_fn.ensures.items in
    by-two ◌&&◌ a.self a.other _ refl (λ j l k p. ap (λ (x : ℕ). bit x k) (e j l) ∙ bit-and k _ _)

-- Each word keeps its bits below what is left of n where the word starts.
use mathlib.Core.Bool.{Bool, ◌&&◌}
use mathlib.Core.Path.{◌≡◌, refl, sym, ap₂, ◌∙◌}
use Prim.Native.Nat.{ℕ, ◌-◌, ◌*◌, ◌<◌}
use lib.Dec.{ltb}
use lib.ListN.{get_or}
use borrow.Author.Rules.{rules}
use Rattle.positions.specs.Bits.{bit}
use Rattle.positions.specs.Members.{has}
use Rattle.positions.proofs.Made.{made}
use Rattle.positions.proofs.Words.{by-words, has-at, has-out, less-below}
use Rattle.positions.proofs.Positions.below.Goals as goal

pub returns : goal.returns
returns c = let a = c.args in
    let e = made _ (λ s. (s.0.now ≡ a.self.words) × (s.1.now ≡ a.n)) (λ j y. (k : ℕ) → k < 64 → bit y k ≡ (bit (get_or a.self.words j 0) k && ltb k (a.n - 64 * j)))
    (λ s i y t p q. search rules) (refl, refl) c.from_fn.ensures.items in
    by-words _ (λ (k : ℕ). has a.self k && ltb k a.n)
    (λ j l k p. e j l k p ∙ ap₂ (λ (x y : Bool). x && y) (sym (has-at a.self j k l p)) (less-below a.n (64 * j) k refl))
    (λ k p. rw (has-out a.self k p))

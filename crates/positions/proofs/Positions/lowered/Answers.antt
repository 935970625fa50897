-- The word j of the result starts at bit n % 64 of the word n / 64 + j.
use mathlib.Core.Path.{◌≡◌, refl}
use Prim.Native.Nat.{ℕ, ◌+◌, ◌/◌, ◌%◌}
use native.Mathlib.Omega.{arith}
use lib.ListN.{get_or, length}
use borrow.Author.Rules.{rules}
use Rattle.numbers.specs.Words.{joined_words}
use Rattle.positions.specs.Members.{has}
use Rattle.positions.proofs.Made.{made_as}
use Rattle.positions.proofs.Words.{by-words, has-out, lowered-at}
use Rattle.positions.proofs.Positions.lowered.Goals as goal

pub returns : goal.returns
returns c = let a = c.args in
    let ws = a.self.words in
    let w = a.n / 64 in
    let l : length ws ≡ 4 = search rules in
    let e = made_as _ (λ s. (s.0.now ≡ ws) × (s.1.now ≡ w) × (s.2.now ≡ a.n)) (λ j. joined_words (get_or ws (w + j) 0) (get_or ws (w + j + 1) 0) (a.n % 64))
    (λ s i y t p q. search rules) (refl, refl, refl) c.from_fn.ensures.items in
    by-words _ (λ (k : ℕ). has a.self (k + a.n))
    (λ j m k p. lowered-at a.self a.n j _ _ _ l refl refl (e j m) (search rules) k p)
    (λ k p. has-out a.self (k + a.n) (omega arith))

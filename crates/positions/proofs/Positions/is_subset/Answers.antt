-- Each member is in the other set where the set without it is the empty one.
use mathlib.Core.Bool.{false}
use mathlib.Core.List.{List}
use mathlib.Core.Logic.{⊎_elim}
use mathlib.Core.Path.{◌≡◌, sym, ap, ◌∙◌}
use Prim.Native.Nat.{ℕ}
use borrow.Author.Rules.{rules}
use Rattle.std.specs.Cmp.Lexicographic.{same_text, other_text}
use Rattle.laws.proofs.Orders.{true-or-false, imp-of, of-imp}
use Rattle.positions.specs.Members.{has}
use Rattle.positions.specs.declared.Positions.{Positions}
use Rattle.positions.proofs.Members.{whole_words, subset-law, ext-positions}
use Rattle.positions.proofs.Positions.is_subset.Goals as goal

pub returns : goal.returns
returns c = let a = c.args in
    let d = c.without.result in
    let z = c.empty.result in
    let e = c.without.ensures in
    let q = c.eq.ensures in
    let dw = whole_words d.words (search rules) (λ j. search rules) in
    let zw = whole_words z.words (search rules) (λ j. search rules) in
    subset-law a.self a.other _
    (λ t k. imp-of (has a.self k) (has a.other k) (sym (e k) ∙ ap (λ (ws : List ℕ). has (record { words = ws }) k) (same_text d.words z.words (sym t ∙ q)) ∙ c.empty.ensures k))
    (λ h. ⊎_elim (λ t. t)
    (λ (f : c.eq.result ≡ false). absurd (other_text d.words z.words (sym f ∙ q) (ap (λ (p : Positions). p.words) (ext-positions d z dw zw (λ k. e k ∙ of-imp (has a.self k) (has a.other k) (h k) ∙ sym (c.empty.ensures k))))))
    (true-or-false c.eq.result))

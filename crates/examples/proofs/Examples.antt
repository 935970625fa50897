-- The starred examples of graph G and history H: one table, one statement. The rows are computed where they are proved: G's in GraphExampleTable.antt,
-- H's in the crate history.
use mathlib.Core.Bool.{Bool, true}
use mathlib.Core.List.{List, [], ◌∷◌, ◌++◌}
use mathlib.Core.Path.{◌≡◌, refl, ap, ◌∙◌}
use Prim.Native.Nat.{ℕ}
use borrow.Author.Tests.{eq-eqb}
use Rattle.laws.proofs.Orders.{and_both}
use Rattle.history.specs.Examples.{answers, expected}
use Rattle.examples.specs.Examples.{starred, holds, is, compared, table}
use Rattle.examples.proofs.GraphExampleTable.{graph-examples}
use Rattle.history.proofs.Examples as history

-- two tables that hold are one
holds-both : (xs ys : List Bool) → holds xs ≡ true → holds ys ≡ true → holds (xs ++ ys) ≡ true
holds-both [] ys a b = b
holds-both (x ∷ xs) ys a b = let c = and_both x (holds xs) a in rw c.0 (holds-both xs ys c.1 b)

-- a list is itself, and so is a table
is-self : (xs : List ℕ) → is xs xs ≡ true
is-self [] = refl
is-self (x ∷ xs) = rw (eq-eqb x x refl) (is-self xs)

compared-self : (xs : List (List ℕ)) → holds (compared xs xs) ≡ true
compared-self [] = refl
compared-self (x ∷ xs) = rw (is-self x) (compared-self xs)

pub examples : holds table ≡ true
examples = holds-both starred (compared answers expected) graph-examples (ap (λ (xs : List (List ℕ)). holds (compared xs expected)) history.examples ∙ compared-self expected)

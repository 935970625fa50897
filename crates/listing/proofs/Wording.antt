-- Words of a line: which of the fixed texts the first is.
use mathlib.Core.Bool.{Bool, true, false, false≢true}
use mathlib.Core.List.{List, [], ◌∷◌}
use mathlib.Core.Logic.{⊎_elim}
use mathlib.Core.Path.{◌≡◌, refl, sym, ◌∙◌}
use Prim.Native.Nat.{ℕ, ◌≤◌, ◌<◌}
use native.Mathlib.Omega.{arith}
use lib.Dec.{eqb, leb}
use lib.ListN.{length, get_or, get_or-eq_default}
use Rattle.std.proofs.Common.{Option, Some, None}
use Rattle.std.specs.Cmp.Lexicographic.{pointwise}
use Rattle.std.proofs.lemmas.Slice.Eq.{slice_eq-Decides}
use Rattle.std.proofs.lemmas.Bool.Decides.{Decides-eqb}
use Rattle.laws.proofs.Orders.{le-or-lt, true-or-false}
use Rattle.laws.specs.Counting.{pick}
use Rattle.text.specs.Bytes.{Same}
use Rattle.listing.specs.Words.{same_bytes}
use Rattle.listing.specs.Commands.{nothing, sheet_line, Tells}
use Rattle.listing.specs.Inner.{up_to_end}
use Rattle.listing.specs.declared.command.Command.{Command}
use Rattle.listing.specs.declared.command.Command.TheVariants.{Sheet}

-- a byte that is not 0 stands within the line
pub byte-within : (s : List ℕ) (at b : ℕ) → get_or s at 0 ≡ b → 0 < b → at < length s
byte-within s at b e h = ⊎_elim (λ (l : length s ≤ at). absurd (omega (arith, e, get_or-eq_default s 0 l))) (λ (l : at < length s). l) (le-or-lt (length s) at)

-- the comparison of slices is that of the definition
same-is : (s t : List ℕ) → same_bytes s t ≡ pointwise eqb s t
unfolding same_bytes
same-is [] [] = refl
same-is [] (b ∷ t) = refl
same-is (a ∷ s) [] = refl
same-is (a ∷ s) (b ∷ t) = rw (same-is s t)

-- the definition says whether both are the same bytes
same-sound : (s t : List ℕ) → same_bytes s t ≡ true → s ≡ t
unfolding same_bytes
same-sound s t h = (slice_eq-Decides Decides-eqb s t _ (same-is s t)).0 h

-- so a word that was not met is another
pub unmet : (s t : List ℕ) {r : Bool} → Same s t r → r ≡ false → same_bytes s t ≡ false
unmet s t h f = ⊎_elim (λ (e : same_bytes s t ≡ true). absurd (false≢true (sym f ∙ h.complete (same-sound s t e)))) (λ (e : same_bytes s t ≡ false). e) (true-or-false (same_bytes s t))

-- the one command of a word alone
pub sheet-told : (s v : List ℕ) (at : ℕ) {r : Option Command} → r ≡ up_to_end s (Some (Sheet, at)) → Tells (sheet_line s at) v v r
unfolding sheet_line
sheet-told s v at {r} e = by (leb (length s) at) e
  where
    by : (t : Bool) → r ≡ pick t (Some Sheet) None → Tells (pick t (Some Sheet, []) nothing) v v r
    by true e = record { command = e; content = refl }
    by false e = record { command = e; content = refl }

-- A frontier has sixteen entries, and R of them are shown; then what stands behind them.
use mathlib.Core.List.{List, [], ◌∷◌, append_assoc}
use mathlib.Core.Path.{◌≡◌}
use Prim.Native.Nat.{ℕ}
use lib.ListN.{length, take}
use borrow.Author.Rules.{rules}
use Rattle.listing.specs.Laying.{spaced, newline}
use Rattle.listing.proofs.Laying.{pieces_append, spaced-append}
use Rattle.listing.proofs.Shown.{shown-entries}
use Rattle.listing.proofs.answer.frontier_line.Goals as goal

pub returns-clause-written : goal.returns-clause-written
returns-clause-written c =
    let f = c.args.f in
    let l : length f.entries ≡ 16 = search rules in
    let xs : List ℕ = take f.len f.entries in
    let shown = rw (c.min.ensures, c.len.ensures, c.entries-entries.ensures, shown-entries f.entries f.len l) at c.spaced_decimals.ensures.written in
    rw (spaced-append xs c.args.behind.now, append_assoc (spaced xs) (spaced c.args.behind.now) (newline ∷ []), pieces_append, ← c.put_number.ensures.written, ← shown) c.line_rest.ensures.written

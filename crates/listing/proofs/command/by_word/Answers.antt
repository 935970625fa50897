-- A word that was met decides alone, and where none was met the line is none.
use mathlib.Core.Path.{◌≡◌, refl}
use lib.ListN.{length}
use Rattle.listing.specs.Commands.{by_word}
use Rattle.listing.specs.Words.{bytes, same_bytes}
use Rattle.listing.proofs.Wording.{unmet, sheet-told}
use Rattle.listing.proofs.command.by_word.Goals as goal

pub returns-then-same-7 : goal.returns-then-same-7
unfolding by_word same_bytes bytes
returns-then-same-7 c = let x = c.args.word.now in
    let e : x ≡ bytes "sheet" = c.same-7.ensures.sound c.if-same-7.true in
    let told = sheet-told c.args.s.now c.args.vector.now (length x) c.up_to_end-then-same-7.ensures in
    rw e (rw e at told)

pub returns : goal.returns
unfolding by_word bytes
returns c = let x = c.args.word.now in
    rw (
      unmet x (bytes "replicas") c.same.ensures c.if-same.false,
      unmet x (bytes "append") c.same-2.ensures c.if-same-2.false,
      unmet x (bytes "greatest") c.same-3.ensures c.if-same-3.false,
      unmet x (bytes "check") c.same-4.ensures c.if-same-4.false,
      unmet x (bytes "advance") c.same-5.ensures c.if-same-5.false,
      unmet x (bytes "remove") c.same-6.ensures c.if-same-6.false,
      unmet x (bytes "sheet") c.same-7.ensures c.if-same-7.false,
      unmet x (bytes "why") c.same-8.ensures c.if-same-8.false,
    ) (record { command = refl; content = refl })

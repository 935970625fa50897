-- The first word ends within the line.
use mathlib.Core.Path.{sym}
use lib.Seq.{length-take-le}
use native.Mathlib.Omega.{arith}
use Rattle.text.proofs.Before.{before-le}
use Rattle.listing.proofs.command.read_line.Goals as goal

pub slice_bounds-by_word-end : goal.slice_bounds-by_word-end
slice_bounds-by_word-end c = sym (length-take-le c.find_byte-end.result c.args.line.now (omega (arith, before-le 32 c.args.line.now)))

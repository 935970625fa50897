-- The numbers passed stand behind one another.
use mathlib.Core.Path.{◌≡◌}
use lib.ListN.{take}
use Rattle.text.specs.Bytes.{collected_in}
use Rattle.listing.specs.Laying.{with_pieces, spaced}
use Rattle.listing.proofs.answer.spaced_decimals.Given as goal

abbrev pub invariant-loop-n : goal.invariant-loop-n
invariant-loop-n l = (collected_in l.out ≡ with_pieces (collected_in l.initial.out) (spaced (take l.n-index l.list))) × (l.out.bytes.ghost_name ≡ l.initial.out.bytes.ghost_name)

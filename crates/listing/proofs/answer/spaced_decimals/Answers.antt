-- One more number behind those passed.
use mathlib.Core.Path.{◌∙◌}
use Rattle.listing.proofs.Laying.{pieces_append, spaced-more}
use Rattle.listing.proofs.answer.spaced_decimals.Goals as goal

pub loop-n-preserved : goal.loop-n-preserved
loop-n-preserved c = let l = c.loop-n in (
  rw (spaced-more c.args.list.now l.n-index c.loop-n-test.true, pieces_append, ← l.invariant.0) c.spaced_decimal.ensures.written,
  c.spaced_decimal.ensures.same_reference ∙ l.invariant.1,
)

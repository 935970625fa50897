-- One answer for each case.
use mathlib.Core.Path.{sym, ◌∙◌}
use Rattle.graph.specs.Whys.{why_of}
use Rattle.listing.specs.Whys.{why_answer}
use Rattle.listing.proofs.why.why_answer.Goals as goal

pub returns-in-Ok-None-clause-written : goal.returns-in-Ok-None-clause-written
unfolding why_answer why_of
returns-in-Ok-None-clause-written c = rw (sym c.why.ensures ∙ c.in-Ok-None.is, c.in-Ok-None.field-0-is) c.cut_line.ensures.written

pub returns-in-Ok-Some-clause-written : goal.returns-in-Ok-Some-clause-written
unfolding why_answer why_of
returns-in-Ok-Some-clause-written c = rw (sym c.why.ensures ∙ c.in-Ok-Some.is, c.in-Ok-Some.field-0-is) c.lacks_answer.ensures.written

pub returns-in-Err-clause-written : goal.returns-in-Err-clause-written
unfolding why_answer why_of
returns-in-Err-clause-written c = rw (sym c.why.ensures ∙ c.in-Err.is) c.refusal_line.ensures.written

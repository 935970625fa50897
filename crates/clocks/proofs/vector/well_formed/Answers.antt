-- The length and the entries are the two parts of `well_formed`.
use Rattle.std.proofs.Common.{refl, arith}
use Rattle.std.proofs.lemmas.Bool.{lt-leb}
use mathlib.Core.Bool.{false≢true}
use Rattle.clocks.specs.Vectors.{well_formed}
use Rattle.clocks.proofs.Vectors.{formed-by}
use Rattle.clocks.proofs.vector.well_formed.Goals as goal

pub returns-then-r-v : goal.returns-then-r-v
unfolding well_formed
returns-then-r-v c = rw (lt-leb _ _ c.if-r-v.true)

pub returns-then-x-gt-TOP : goal.returns-then-x-gt-TOP
returns-then-x-gt-TOP c =
    formed-by _ _ _ c.if-r-v.false (λ t. absurd (false≢true t), λ h. absurd (omega (arith, h c.loop-x.x-index c.loop-x-test.true, c.if-x-gt-TOP.true)))

pub returns : goal.returns
returns c = formed-by _ _ _ c.if-r-v.false (λ t k p. c.loop-x.invariant k (omega arith), λ h. refl)

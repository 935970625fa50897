use mathlib.Core.Path.{◌≡◌, ◌∙◌, sym}
use Rattle.text.specs.Inner.{written_back}
use Rattle.text.proofs.Spelling.{back-turn}
use native.Mathlib.Omega.{arith}
use Rattle.text.proofs.number.write_back.Goals as goal

pub loop-j-preserved : goal.loop-j-preserved
loop-j-preserved c = let l = c.loop-j in l.invariant ∙ back-turn l.out c.args.at l.j l.rest c.loop-j-test.true

pub returns : goal.returns
unfolding written_back
returns c = let l = c.loop-j in let e : l.j ≡ 0 = omega arith in sym (l.invariant ∙ rw e)

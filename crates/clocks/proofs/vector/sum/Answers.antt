use Rattle.std.proofs.Common.{rules, ◌≡◌, ◌+◌, ◌%◌, ◌^◌, fold, ◌∙◌}
use Rattle.clocks.proofs.Vectors.{total-folded}
use Rattle.clocks.proofs.vector.sum.Goals as goal

pub returns : goal.returns
returns c = let h : c.fold.result ≡ fold (λ s x. (s + x) % 2 ^ 64) 0 c.args.v.now = search rules in h ∙ total-folded c.args.v.now

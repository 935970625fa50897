use Rattle.std.proofs.Common.{◌≡◌, count_by, nat_lt, length, ◌∙◌, rules}
use Rattle.clocks.proofs.Versions.{counted}
use Rattle.clocks.proofs.version_vector.positive.Goals as goal

pub returns : goal.returns
returns c = let es = c.args.entries in
    let h : c.count.result ≡ count_by (λ x. nat_lt 0 x) es = search rules in
    let l : length es ≡ 16 = search rules in
    rw l at (h ∙ counted (λ x. nat_lt 0 x) es)

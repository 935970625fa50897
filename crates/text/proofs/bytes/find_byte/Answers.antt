use mathlib.Core.Path.{◌≡◌, ◌∙◌}
use lib.ListN.{drop, length-drop}
use native.Mathlib.Omega.{arith}
use Rattle.text.specs.Bytes.{bytes_before}
use Rattle.text.proofs.Before.{before-le, first_or_end}
use Rattle.text.proofs.bytes.find_byte.Goals as goal

found : (c : goal.After-unwrap_or) → c.unwrap_or.result ≡ bytes_before c.args.b (drop c.args.at c.args.s.now)
found c = c.unwrap_or.ensures ∙ rw (c.place_of.ensures, c.tail-rest.ensures) (first_or_end c.args.b (drop c.args.at c.args.s.now))

pub overflow_add-result : goal.overflow_add-result
overflow_add-result c = omega (arith, found c, before-le c.args.b (drop c.args.at c.args.s.now), length-drop c.args.at c.args.s.now)

pub returns : goal.returns
returns c = omega (arith, found c)

-- No second answer fits the contract of a public function of `numbers`, one statement for each; `Post` as in OneAnswerClocks.antt.
use Rattle.numbers.proofs.less.Reads.{Post as less}
use Rattle.numbers.proofs.larger.Reads.{Post as larger}
use Rattle.numbers.proofs.smaller.Reads.{Post as smaller}
use Rattle.numbers.proofs.entry.Reads.{Post as entry}
use Rattle.numbers.proofs.wide.Reads.{Post as wide}
use Rattle.numbers.proofs.size.Reads.{Post as size}
use Rattle.numbers.proofs.narrow.Reads.{Post as narrow}
use Rattle.numbers.proofs.digit.Reads.{Post as digit}
use Rattle.numbers.proofs.joined.Reads.{Post as joined}
use Rattle.promises.proofs.OneAnswer.{one_answer, Once}

pub numbers-less-once : Once less
numbers-less-once κs a x y s t p q = one_answer p q

pub numbers-larger-once : Once larger
numbers-larger-once κs a x y s t p q = one_answer p q

pub numbers-smaller-once : Once smaller
numbers-smaller-once κs a x y s t p q = one_answer p q

pub numbers-entry-once : Once entry
numbers-entry-once κs a x y s t p q = one_answer p q

pub numbers-wide-once : Once wide
numbers-wide-once κs a x y s t p q = one_answer p q

pub numbers-size-once : Once size
numbers-size-once κs a x y s t p q = one_answer p q

pub numbers-narrow-once : Once narrow
numbers-narrow-once κs a x y s t p q = one_answer p q

pub numbers-digit-once : Once digit
numbers-digit-once κs a x y s t p q = one_answer p q

pub numbers-joined-once : Once joined
numbers-joined-once κs a x y s t p q = one_answer p q

-- No second answer fits the contract of `first_observer` of `history`; `Post` as in OneAnswerClocks.antt.
use Rattle.history.proofs.event_history.EventHistory.first_observer.Reads.{Post as first-observer}
use Rattle.promises.proofs.OneAnswer.{one_answer, Once}

pub first-observer-once : Once first-observer
first-observer-once κs a x y s t p q = one_answer p q

-- No second answer fits the contract of `why` or of `chain`; as in OneAnswerGraph.antt.
use mathlib.Core.List.{List}
use mathlib.Core.Path.{◌≡◌}
use Prim.Native.Nat.{ℕ}
use Rattle.graph.specs.Whys.{WritesList}
use Rattle.graph.proofs.EventGraph.why.Reads.{Post as why}
use Rattle.graph.proofs.EventGraph.chain.Reads.{Post as chain}
use Rattle.std.specs.Prelude.{Result}
use Rattle.clocks.specs.declared.refusal.Refusal.{Refusal}
use Rattle.promises.proofs.OneAnswer.{one_answer, Once, OnceWith}

-- a list that is written, with the buffer
list-once : {xs out a a' : List ℕ} {r r' : Result ℕ Refusal} → WritesList xs out a r → WritesList xs out a' r' → (r ≡ r') × (a ≡ a')
list-once p q = (one_answer p.answer q.answer, one_answer p.list q.list)

pub why-once : Once why
why-once κs a x y s t p q = one_answer p q

pub chain-once : OnceWith chain (λ κs s. s.1.1.1.0.now)
chain-once κs a x y s t p q = list-once p q

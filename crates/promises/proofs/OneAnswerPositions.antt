-- No second answer fits the contract of a public function of `positions`, one statement for each; `Post` as in OneAnswerClocks.antt. Of a set the contract
-- says the members; that its words are whole is the type's, and is asked of both answers.
use mathlib.Core.Path.{◌≡◌}
use Rattle.positions.specs.Members.{Words}
use Rattle.positions.proofs.Members.{ext-positions}
use Rattle.positions.proofs.Positions.empty.Reads.{Post as set-empty}
use Rattle.positions.proofs.Positions.all.Reads.{Post as set_all}
use Rattle.positions.proofs.Positions.with.Reads.{Post as set-with}
use Rattle.positions.proofs.Positions.union.Reads.{Post as set-union}
use Rattle.positions.proofs.Positions.intersection.Reads.{Post as set-intersection}
use Rattle.positions.proofs.Positions.without.Reads.{Post as set-without}
use Rattle.positions.proofs.Positions.below.Reads.{Post as set_below}
use Rattle.positions.proofs.Positions.lowered.Reads.{Post as set-lowered}
use Rattle.positions.proofs.Positions.compacted_by.Reads.{Post as set-compacted-by}
use Rattle.positions.proofs.Positions.compacted.Reads.{Post as set-compacted}
use Rattle.positions.proofs.Positions.compaction.Reads.{Post as set-compaction}
use Rattle.positions.proofs.Positions.from_words.Reads.{Post as set-from-words}
use Rattle.positions.proofs.Positions.words.Reads.{Post as set_words}
use Rattle.positions.proofs.Positions.contains.Reads.{Post as set-contains}
use Rattle.positions.proofs.Positions.size.Reads.{Post as set-size}
use Rattle.positions.proofs.Positions.is_subset.Reads.{Post as set-is-subset}
use Rattle.positions.proofs.Positions.first_missing.Reads.{Post as set-first-missing}
use Rattle.positions.proofs.Positions.highest_below.Reads.{Post as set-highest-below}
use Rattle.positions.specs.declared.Positions.{Positions}
use Rattle.positions.specs.declared.Compaction.{Compaction}
use Rattle.promises.proofs.OneAnswer.{one_answer, Once}
use Rattle.promises.proofs.OneAnswerSets.{Marked, compacted-once, planned-once, subset-once, missing-once, highest-once}

-- two sets of whole words, or two plans, that fit are equal
abbrev pub OnceWhole : {K : Type 0} {A S : K → Type 0} → ((κs : K) → A κs → Positions → S κs → Type 0) → Type 0
OnceWhole {K} {A} {S} P = (κs : K) (a : A κs) (x y : Positions) (s t : S κs) → Words x.words → Words y.words → P κs a x s → P κs a y t → x ≡ y

abbrev OnceMarked : {K : Type 0} {A S : K → Type 0} → ((κs : K) → A κs → Compaction → S κs → Type 0) → Type 0
OnceMarked {K} {A} {S} P = (κs : K) (a : A κs) (x y : Compaction) (s t : S κs) → Marked x.marks → Marked y.marks → P κs a x s → P κs a y t → x ≡ y

-- ---- sets

pub set-empty-once : OnceWhole set-empty
set-empty-once κs a x y s t u w p q = ext-positions x y u w (λ k. one_answer (p k) (q k))

pub set-all-once : OnceWhole set_all
set-all-once κs a x y s t u w p q = ext-positions x y u w (λ k. one_answer (p k) (q k))

pub set-with-once : OnceWhole set-with
set-with-once κs a x y s t u w p q = ext-positions x y u w (λ k. one_answer (p k) (q k))

pub set-union-once : OnceWhole set-union
set-union-once κs a x y s t u w p q = ext-positions x y u w (λ k. one_answer (p k) (q k))

pub set-intersection-once : OnceWhole set-intersection
set-intersection-once κs a x y s t u w p q = ext-positions x y u w (λ k. one_answer (p k) (q k))

pub set-without-once : OnceWhole set-without
set-without-once κs a x y s t u w p q = ext-positions x y u w (λ k. one_answer (p k) (q k))

pub set-below-once : OnceWhole set_below
set-below-once κs a x y s t u w p q = ext-positions x y u w (λ k. one_answer (p k) (q k))

pub set-lowered-once : OnceWhole set-lowered
set-lowered-once κs a x y s t u w p q = ext-positions x y u w (λ k. one_answer (p k) (q k))

pub set-compacted-by-once : OnceWhole set-compacted-by
set-compacted-by-once κs a x y s t u w p q = ext-positions x y u w (λ k. one_answer (p k) (q k))

pub set-compacted-once : OnceWhole set-compacted
set-compacted-once κs a x y s t u w p q = compacted-once u w p q

pub set-compaction-once : OnceMarked set-compaction
set-compaction-once κs a x y s t u w p q = planned-once u w p q

-- ---- numbers, truth values, words

pub set-from-words-once : Once set-from-words
set-from-words-once κs a x y s t p q = one_answer p q

pub set-words-once : Once set_words
set-words-once κs a x y s t p q = one_answer p q

pub set-contains-once : Once set-contains
set-contains-once κs a x y s t p q = one_answer p q

pub set-size-once : Once set-size
set-size-once κs a x y s t p q = one_answer p q

pub set-is-subset-once : Once set-is-subset
set-is-subset-once κs a x y s t p q = subset-once p q

pub set-first-missing-once : Once set-first-missing
set-first-missing-once κs a x y s t p q = missing-once p q

pub set-highest-below-once : Once set-highest-below
set-highest-below-once κs a x y s t p q = highest-once a.0 a.1.0 x y p q

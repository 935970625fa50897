-- No second answer fits a contract: of every form that the contracts of `clocks`, `tables` and `graph` have, two answers that both fit are equal,
-- with what they leave in the lent buffers. docs/ANSWERS.md says for each public function which of these statements it is. Sets: OneAnswerSets.antt.
use mathlib.Core.Bool.{Bool}
use mathlib.Core.List.{List}
use mathlib.Core.Path.{◌≡◌, sym, ◌∙◌}
use Prim.Native.Nat.{ℕ, ◌<◌}
use native.Mathlib.Decide.{ℕ_discrete}
use lib.ListN.{length}
use lib.Seq.{ext_get_or}
use denote.Ref.{Bor}
use Rattle.clocks.specs.Vectors.{entry}
use Rattle.std.specs.Prelude.{Result}
use Rattle.clocks.specs.Versions.{Depends}
use Rattle.tables.specs.Listing.{Writes, ListsIf}
use Rattle.clocks.specs.declared.refusal.Refusal.{Refusal}
use Rattle.clocks.proofs.Refusals.{refused-once}
use Rattle.clocks.specs.declared.version_vector.Version.{Version}

-- ---- the statement, of a contract P of the lifetimes, the arguments, the answer and the arguments' last values

-- two answers that fit are equal
abbrev pub Once : {K : Type 0} {A R S : K → Type 0} → ((κs : K) → A κs → R κs → S κs → Type 0) → Type 0
Once {K} {A} {R} {S} P = (κs : K) (a : A κs) (x y : R κs) (s t : S κs) → P κs a x s → P κs a y t → x ≡ y

-- of an answer that is lent, the numbers are equal
abbrev pub OnceLent : {K : Type 0} {A S : K → Type 0} → ((κs : K) → A κs → Bor (List ℕ) → S κs → Type 0) → Type 0
OnceLent {K} {A} {S} P = (κs : K) (a : A κs) (x y : Bor (List ℕ)) (s t : S κs) → P κs a x s → P κs a y t → x.now ≡ y.now

-- and what they leave in one buffer, or in two
abbrev pub OnceWith : {K : Type 0} {A R S : K → Type 0} → ((κs : K) → A κs → R κs → S κs → Type 0) → ((κs : K) → S κs → List ℕ) → Type 0
OnceWith {K} {A} {R} {S} P b = (κs : K) (a : A κs) (x y : R κs) (s t : S κs) → P κs a x s → P κs a y t → (x ≡ y) × (b κs s ≡ b κs t)

abbrev pub OnceWith₂ : {K : Type 0} {A R S : K → Type 0} → ((κs : K) → A κs → R κs → S κs → Type 0) → (b c : (κs : K) → S κs → List ℕ) → Type 0
OnceWith₂ {K} {A} {R} {S} P b c = (κs : K) (a : A κs) (x y : R κs) (s t : S κs) → P κs a x s → P κs a y t → (x ≡ y) × (b κs s ≡ b κs t) × (c κs s ≡ c κs t)

-- or in three
abbrev pub OnceWith₃ : {K : Type 0} {A R S : K → Type 0} → ((κs : K) → A κs → R κs → S κs → Type 0) → (b c d : (κs : K) → S κs → List ℕ) → Type 0
OnceWith₃ {K} {A} {R} {S} P b c d =
    (κs : K) (a : A κs) (x y : R κs) (s t : S κs) → P κs a x s → P κs a y t → (x ≡ y) × (b κs s ≡ b κs t) × (c κs s ≡ c κs t) × (d κs s ≡ d κs t)

-- and what they leave in a value that is lent
abbrev pub OnceLeaving : {K B : Type 0} {A R S : K → Type 0} → ((κs : K) → A κs → R κs → S κs → Type 0) → ((κs : K) → S κs → B) → Type 0
OnceLeaving {K} {B} {A} {R} {S} P b = (κs : K) (a : A κs) (x y : R κs) (s t : S κs) → P κs a x s → P κs a y t → (x ≡ y) × (b κs s ≡ b κs t)

-- ---- an equation with a definition: whatever the answer is, a number, a truth value, an enum, a struct, or the numbers of a lent slice

pub one_answer : {A : Type 0} {d x y : A} → x ≡ d → y ≡ d → x ≡ y
one_answer a b = a ∙ sym b

-- an array of n numbers of which the contract says every entry
pub one-array : (f : ℕ → ℕ) (n : ℕ) (x y : List ℕ) → length x ≡ n → length y ≡ n
    → ((i : ℕ) → i < n → entry x i ≡ f i) → ((i : ℕ) → i < n → entry y i ≡ f i) → x ≡ y
one-array f n x y l m a b = ext_get_or 0 x y (l ∙ sym m) (λ i p. let q : i < n = rw l at p in one_answer (a i q) (b i q))

-- ---- clocks

-- `dependencies`, with both buffers
pub depends-once : {v : Version} {replicas seqs a b a' b' : List ℕ} {r r' : Result ℕ Refusal}
    → Depends v replicas seqs a b r → Depends v replicas seqs a' b' r' → (r ≡ r') × (a ≡ a') × (b ≡ b')
depends-once p q = (one_answer p.answer q.answer, one_answer p.names q.names, one_answer p.sequences q.sequences)

-- ---- tables and graph

-- a list of positions, or of lengths, with the buffer; `Lists` is `Writes` of the positions themselves
pub writes-once : {t : ℕ → Bool} {f : ℕ → ℕ} {out a a' : List ℕ} {r r' : Result ℕ Refusal} → Writes t f out a r → Writes t f out a' r' → (r ≡ r') × (a ≡ a')
writes-once p q = (one_answer p.answer q.answer, one_answer p.list q.list)

-- the same after a test
pub lists-if-once : {number : ℕ} {t : ℕ → Bool} {out a a' : List ℕ} {r r' : Result ℕ Refusal}
    → ListsIf number t out a r → ListsIf number t out a' r' → (r ≡ r') × (a ≡ a')
lists-if-once {number} {r} {r'} p q = elim (ℕ_discrete number 0) [
  | yes z ↦ writes-once (p.listed z) (q.listed z)
  | no z ↦ let u = p.refused z in let w = q.refused z in (refused-once number r r' z u.0 w.0, one_answer u.1 w.1)
]

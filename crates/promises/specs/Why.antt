-- Document 02, P3, over positions and versions: why a length is no cut, and the chain of lowest parents. The statement that it is so of a graph and its versions is
-- `WhyDocumented`.
use Rattle.std.specs.Prelude.{[], ◌⊎◌, ◌↔◌, ◌≡◌, ℕ, ◌<◌, ◌≤◌, Ok, Err, Some, None}
use Rattle.graph.specs.Whole.{EventGraph}
use Rattle.graph.specs.Whys.{lack, why_of, chain_of, Downward}
use Rattle.promises.specs.Reached.{Versions, version_at}
use Rattle.promises.specs.Documented.{Covers, DirectParent, IsCut}
use Rattle.clocks.specs.declared.refusal.Refusal.TheVariants.{BadLength}

-- document 02: "the lowest position at or after it whose event does not descend from everything before the length, with the lowest such ancestor it lacks."
pub record HoldsBack (g : EventGraph) (W : Versions) (n later earlier : ℕ) : Type 0 where
  pub after : n ≤ later
  pub held : later < g.held
  -- every event from the length to before it covers everything before the length
  pub first : (i k : ℕ) → n ≤ i → i < later → k < n → Covers g (version_at g W i) k
  pub before : earlier < n
  pub lacks : Covers g (version_at g W later) earlier → ⊥
  -- it covers everything lower
  pub lowest : (k : ℕ) → k < earlier → Covers g (version_at g W later) k

pub record WhyDocumented (g : EventGraph) (W : Versions) : Type 0 where
  pub cut : (n : ℕ) → (why_of g n ≡ Ok None) ↔ IsCut g W n
  -- "Refusals: 20 BadLength, for 0 or more than the number held."
  pub refused : (n : ℕ) → (why_of g n ≡ Err BadLength) ↔ ((n ≡ 0) ⊎ (g.held < n))
  pub pair : (n later earlier : ℕ) → (why_of g n ≡ Ok (Some (lack later earlier))) ↔ HoldsBack g W n later earlier
  -- "The pair is given exactly when the length is not a cut."
  pub given : (n : ℕ) → 1 ≤ n → n ≤ g.held
      → (IsCut g W n → ⊥) ↔ ((later : ℕ) × (earlier : ℕ) × (why_of g n ≡ Ok (Some (lack later earlier))))
  -- "downward, each time to the lowest parent, until there is none"; from a position that is not held, nothing
  pub chain : (i : ℕ) → i < g.held → Downward (λ i k. DirectParent g W k i) i (chain_of g i)
  pub none : (i : ℕ) → g.held ≤ i → chain_of g i ≡ []

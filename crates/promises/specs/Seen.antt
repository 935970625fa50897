-- Document 02, P8, over positions: "whether a version covers all held events", answered from each replica's highest held sequence. The statement that it is so of a graph is
-- `SeenDocumented`.
use Rattle.std.specs.Prelude.{true, false, List, ◌↔◌, ◌≡◌, ℕ, ◌<◌, Ok, Err}
use Rattle.clocks.specs.Vectors.{well_formed}
use Rattle.graph.specs.Whole.{EventGraph}
use Rattle.graph.specs.Seen.{seen_all, seen_by_looking}
use Rattle.promises.specs.Documented.{Covers}
use Rattle.clocks.specs.declared.refusal.Refusal.TheVariants.{BadVector}

-- the vector covers every held event
abbrev pub CoversAll : EventGraph → List ℕ → Type 0
CoversAll g v = (j : ℕ) → j < g.held → Covers g v j

pub record SeenDocumented (g : EventGraph) : Type 0 where
  pub yes : (v : List ℕ) → well_formed g.named.len v ≡ true → (seen_all g v ≡ Ok true) ↔ CoversAll g v
  pub no : (v : List ℕ) → well_formed g.named.len v ≡ true → (seen_all g v ≡ Ok false) ↔ (CoversAll g v → ⊥)
  pub refused : (v : List ℕ) → (seen_all g v ≡ Err BadVector) ↔ (well_formed g.named.len v ≡ false)
  -- yes on an empty graph
  pub none : (v : List ℕ) → well_formed g.named.len v ≡ true → g.held ≡ 0 → seen_all g v ≡ Ok true
  -- "The answer equals the one from looking at every event, for every version."
  pub same : (v : List ℕ) → seen_all g v ≡ seen_by_looking g v

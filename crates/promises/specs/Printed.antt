-- Document 02, P1: a sheet tells held ids apart. No two of its event lines agree in origin, sequence and disambiguator.
use Rattle.std.specs.Prelude.{◌≡◌, ℕ, Some}
use Rattle.graph.specs.Graphs.{event_at}
use Rattle.listing.specs.Sheets.{id_text, SmallTag}
use Rattle.promises.specs.Reached.{Versions, Reached, created, checkpointed, append, flush, advance, raise, remove, retain, clear}
use Rattle.clocks.specs.declared.tagged_op.TaggedOp.{TaggedOp}
use Rattle.graph.specs.Whole.{EventGraph}

-- events at two positions whose id fields are printed alike stand at one position
abbrev pub PrintsApart : EventGraph → Type 0
PrintsApart g = (j k : ℕ) (d e : TaggedOp) → event_at g j ≡ Some d → event_at g k ≡ Some e → id_text d.tag.id ≡ id_text e.tag.id → j ≡ k

-- each event that was handed over had a disambiguator of its type, absent or below 2^32, as every event of a program has
abbrev pub OfType : {g : EventGraph} {W : Versions} {accepted gone : ℕ} → Reached g W accepted gone → Type 0
OfType (created r h) = Unit {0}
OfType (checkpointed r v h) = Unit {0}
OfType (append p e v) = SmallTag e.id.disambiguator × OfType p
OfType (flush p f) = OfType p
OfType (advance p bound) = OfType p
OfType (raise p r) = OfType p
OfType (remove p id) = OfType p
OfType (retain p mask) = OfType p
OfType (clear p) = OfType p

-- Words of a line: fixed texts, and whether a run of bytes is one.
use Rattle.std.specs.Prelude.{Bool, true, false, ◌&&◌, List, [], ◌∷◌, ℕ, eqb}
use Prim.Native.Char.{code}
use Prim.Native.String.{String, [] as no-letter, ◌∷◌ as ◌then◌}
use Rattle.text.specs.Bytes.{bytes_before}

-- the bytes of a text of plain letters
unfoldable pub bytes : String → List ℕ
bytes no-letter = []
bytes (c then s) = code c ∷ bytes s

-- both are the same bytes
unfoldable pub same_bytes : List ℕ → List ℕ → Bool
same_bytes [] [] = true
same_bytes [] (b ∷ t) = false
same_bytes (a ∷ s) [] = false
same_bytes (a ∷ s) (b ∷ t) = eqb a b && same_bytes s t

-- how many bytes stand before the first space, byte 32, or all of them
abbrev pub before_space : List ℕ → ℕ
before_space s = bytes_before 32 s

-- Pieces of text written one behind the other: two runs are one, and where there is room for all, their bytes stand in the buffer.
use mathlib.Core.List.{List, [], ◌∷◌, ◌++◌, append_assoc, append-nil}
use mathlib.Core.Path.{◌≡◌, refl, sym, ap, ◌∙◌}
use Prim.Native.Nat.{ℕ, ◌+◌, ◌*◌, ◌≤◌, ◌<◌}
use native.Mathlib.Nat.{add-zero}
use native.Mathlib.Numerals.{add-one}
use native.Mathlib.Omega.{arith}
use lib.ListN.{length, take, drop, get_or, length-append, length-drop, take-append-drop}
use lib.Seq.{take-suc, take_at, drop-append-add, drop-drop, length-take-le}
use Rattle.text.specs.Numbers.{spelled}
use Rattle.text.specs.Bytes.{Collected, placed, placed_end, with_put}
use Rattle.text.proofs.Placing.{placed-in}
use Rattle.text.proofs.Spelling.{digits_le}
use Rattle.listing.specs.Laying.{with_pieces, laid, laid_end, Laid, joined, spaced, pieces_below}

-- one run behind another
pub pieces_append : (b : Collected) (ps qs : List (List ℕ)) → with_pieces b (ps ++ qs) ≡ with_pieces (with_pieces b ps) qs
pieces_append b [] qs = refl
pieces_append b (p ∷ ps) qs = pieces_append (with_put b p) ps qs

pub nothing_behind : (ns : List ℕ) → ns ++ [] ≡ ns
nothing_behind ns = append-nil ns

pub pieces_then : (b : Collected) (ps qs : List (List ℕ)) (b' b'' : Collected) → b' ≡ with_pieces b ps → b'' ≡ with_pieces b' qs → b'' ≡ with_pieces b (ps ++ qs)
pieces_then b ps qs b' b'' e f = f ∙ ap (λ (x : Collected). with_pieces x qs) e ∙ sym (pieces_append b ps qs)

-- the same, told of the bytes and the place
pub laid_pieces : (b : Collected) (ps : List (List ℕ)) → Laid b.bytes b.len ps (with_pieces b ps).bytes (with_pieces b ps).len
unfolding laid laid_end
laid_pieces b [] = record { text = refl; end = refl }
laid_pieces b (p ∷ ps) = let m = laid_pieces (with_put b p) ps in record { text = m.text; end = m.end }

-- one more number
pub spaced-append : (ns ms : List ℕ) → spaced (ns ++ ms) ≡ spaced ns ++ spaced ms
unfolding spaced
spaced-append [] ms = refl
spaced-append (n ∷ ns) ms = rw (spaced-append ns ms)

pub spaced-more : (ns : List ℕ) (i : ℕ) → i < length ns → spaced (take (i + 1) ns) ≡ spaced (take i ns) ++ spaced (get_or ns i 0 ∷ [])
spaced-more ns i h = rw (add-one i, take-suc ns i 0 h) (spaced-append (take i ns) (get_or ns i 0 ∷ []))

-- how many bytes numbers take
pub size-spaced : (ns : List ℕ) → length (joined (spaced ns)) ≤ 21 * length ns
unfolding joined spaced
size-spaced [] = omega arith
size-spaced (n ∷ ns) = omega (arith, length-append (spelled n) (joined (spaced ns)), digits_le n, size-spaced ns)

pub pieces_more : (f : ℕ → List (List ℕ)) (n : ℕ) → pieces_below f (n + 1) ≡ pieces_below f n ++ f n
unfolding pieces_below
pieces_more f n = rw (add-one n)

-- a piece put, and bytes behind it, are both put together
module _ (out : List ℕ) (at : ℕ) (p q : List ℕ) (h : at + length p + length q ≤ length out) where
  abbrev before : List ℕ
  before = take at out ++ p

  abbrev filled : List ℕ
  filled = take at out ++ p ++ drop (at + length p) out

  long : length before ≡ at + length p
  long = length-append (take at out) p ∙ omega (arith, length-take-le at out (omega arith))

  pub length-placed : length (placed out at p) ≡ length out
  length-placed =
      ap length (sym (placed-in out at p (omega arith)).1)
      ∙ length-append before (drop (at + length p) out)
      ∙ omega (arith, long, length-drop (at + length p) out)

  front : take (at + length p) filled ≡ before
  front = take_at before (drop (at + length p) out) (at + length p) long

  rest : drop (at + length p + length q) filled ≡ drop (at + length p + length q) out
  rest =
      ap (λ (k : ℕ). drop (k + length q) filled) (sym long)
      ∙ drop-append-add before (drop (at + length p) out) (length q)
      ∙ drop-drop (length q) (at + length p) out

  pub filled-then : placed (placed out at p) (at + length p) q ≡ placed out at (p ++ q)
  filled-then =
      let l : length (p ++ q) ≡ length p + length q = length-append p q in
      let e : at + length p + length q ≡ at + length (p ++ q) = omega (arith, l) in
      let n : placed out at p ≡ filled = sym (placed-in out at p (omega arith)).1 in
      let long' : length filled ≡ length out = ap length (sym n) ∙ length-placed in
      rw n
      (sym (placed-in filled (at + length p) q (omega (arith, long'))).1
      ∙ rw (front, rest, e, append_assoc (take at out) p q) (placed-in out at (p ++ q) (omega (arith, l))).1)

-- where there is room for all, the bytes of the pieces stand from the place on, and nothing else changes
pub laid-whole : (ps : List (List ℕ)) (out : List ℕ) (at : ℕ) → at + length (joined ps) ≤ length out
    → (laid out at ps ≡ placed out at (joined ps)) × (laid_end out at ps ≡ at + length (joined ps))
unfolding laid laid_end joined
laid-whole [] out at h =
    let e : take at out ++ [] ++ drop (at + 0) out ≡ out = rw (append-nil, add-zero) (take-append-drop at out) in
    (sym e ∙ (placed-in out at [] h).1, sym (add-zero at))
laid-whole (p ∷ ps) out at h =
    let l : length (p ++ joined ps) ≡ length p + length (joined ps) = length-append p (joined ps) in
    let room : at + length p + length (joined ps) ≤ length out = omega (arith, l) in
    let e : placed_end out at p ≡ at + length p = sym (placed-in out at p (omega arith)).0 in
    let more = laid-whole ps (placed out at p) (at + length p) (omega (arith, length-placed out at p (joined ps) room)) in
    rw e (more.0 ∙ filled-then out at p (joined ps) room, more.1 ∙ omega (arith, l))

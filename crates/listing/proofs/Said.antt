-- A command reads back as it was written. A place in a line is known by the bytes that are left behind it.
use mathlib.Core.Bool.{Bool, true, false, false≢true}
use mathlib.Core.List.{List, [], ◌∷◌, ◌++◌}
use mathlib.Core.Path.{◌≡◌, refl, sym, ap, ◌∙◌}
use Prim.Native.Nat.{ℕ, zero, suc, ◌+◌, ◌/◌, ◌^◌, ◌≤◌, ◌<◌}
use native.Mathlib.Nat.{add-zero}
use native.Mathlib.Omega.{arith}
use lib.Dec.{ltb, eqb}
use lib.ListN.{length, take, drop, get_or, length-drop, take-append-drop}
use lib.Seq.{get_or-drop, drop-drop, drop-append_seam, length-take-le}
use borrow.Author.Tests.{lt-ltb, ne_eqb}
use Rattle.laws.specs.Counting.{pick}
use Rattle.text.specs.Numbers.{is_digit, digits_in, number_at, places_up_to, places, last_digits, spelled}
use Rattle.text.proofs.ReadBack.{digits_last, read_back}
use Rattle.listing.specs.Commands.{spaced_number, spaced_tag, spaced_id, entries, entries_end}
use Rattle.listing.specs.Laying.{joined, spaced}
use Rattle.listing.specs.Sheets.{SmallTag, SmallId}
use Rattle.clocks.specs.declared.id.Disambiguator.{Disambiguator}
use Rattle.clocks.specs.declared.id.Disambiguator.TheVariants.{Absent, Number as number}
use Rattle.clocks.specs.declared.id.EventId.{EventId}
use Rattle.std.proofs.Common.{Some, None}
use Rattle.listing.proofs.Wording.{byte-within}

-- what is left at a place gives the byte there
byte_left : (s rest : List ℕ) (at b : ℕ) → drop at s ≡ b ∷ rest → get_or s at 0 ≡ b
byte_left s rest at b e = ap (λ (k : ℕ). get_or s k 0) (sym (add-zero at)) ∙ sym (get_or-drop at s 0 0) ∙ ap (λ (l : List ℕ). get_or l 0 0) e

-- and what is left further on
left-more : (s p rest : List ℕ) (at : ℕ) → drop at s ≡ p ++ rest → drop (at + length p) s ≡ rest
left-more s p rest at e = sym (drop-drop (length p) at s) ∙ ap (drop (length p)) e ∙ drop-append_seam p rest

-- a number that stands at a place
number-at : (s rest : List ℕ) (at n : ℕ) → at ≤ length s → drop at s ≡ spelled n ++ rest → n < 2 ^ 64 → digits_in rest ≡ 0 → number_at s at ≡ Some (n, at + length (spelled n))
number-at s rest at n h e small z =
    let l : length (take at s) ≡ at = length-take-le at s h in
    let split : take at s ++ (spelled n ++ rest) ≡ s = ap (λ (r : List ℕ). take at s ++ r) (sym e) ∙ take-append-drop at s in
    rw (split, l) at (read_back (take at s) rest n small z)

pub spaced-at : (s rest : List ℕ) (at n : ℕ) → drop at s ≡ 32 ∷ (spelled n ++ rest) → n < 2 ^ 64 → digits_in rest ≡ 0
    → (spaced_number s at ≡ Some (n, at + 1 + length (spelled n))) × (drop (at + 1 + length (spelled n)) s ≡ rest)
unfolding spaced_number
spaced-at s rest at n e small z =
    let b : get_or s at 0 ≡ 32 = byte_left s (spelled n ++ rest) at 32 e in
    let more : drop (at + 1) s ≡ spelled n ++ rest = left-more s (32 ∷ []) (spelled n ++ rest) at e in
    let within = byte-within s at 32 b (omega arith) in
    (rw b (number-at s rest (at + 1) n (omega (arith, within)) more small z), left-more s (spelled n) rest (at + 1) more)

-- nothing stands behind the end
spaced-end : (s : List ℕ) (at : ℕ) → drop at s ≡ [] → spaced_number s at ≡ None
unfolding spaced_number
spaced-end s at e =
    let b : get_or s at 0 ≡ 0 = ap (λ (k : ℕ). get_or s k 0) (sym (add-zero at)) ∙ sym (get_or-drop at s 0 0) ∙ ap (λ (l : List ℕ). get_or l 0 0) e in
    rw b

-- numbers as text, each after a space
abbrev pub text : List ℕ → List ℕ
text ns = joined (spaced ns)

pub digits-text : (ns : List ℕ) → digits_in (text ns) ≡ 0
unfolding digits_in joined spaced
digits-text [] = refl
digits-text (n ∷ ns) = refl

-- numbers below 2^64
abbrev pub Small : List ℕ → Type 0
Small [] = Unit {0}
Small (n ∷ ns) = (n < 2 ^ 64) × Small ns

pub end-left : (s : List ℕ) (at : ℕ) → drop at s ≡ [] → length s ≤ at
end-left s at e = omega (arith, length-drop at s, ap length e)

pub entries_at : (k : ℕ) (s : List ℕ) (at : ℕ) (ns : List ℕ) → length ns ≤ k → Small ns → drop at s ≡ text ns → (entries k s at ≡ ns) × (length s ≤ entries_end k s at)
unfolding entries entries_end joined spaced
entries_at zero s at [] h small e = (refl, end-left s at e)
entries_at zero s at (n ∷ ns) h small e = absurd (omega arith)
entries_at (suc k) s at [] h small e = rw (spaced-end s at e) (refl, end-left s at e)
entries_at (suc k) s at (n ∷ ns) h small e =
    let first = spaced-at s (text ns) at n e small.0 (digits-text ns) in
    let more = entries_at k s (at + 1 + length (spelled n)) ns (omega arith) small.1 first.1 in
    rw first.0 (ap (λ (l : List ℕ). n ∷ l) more.0, more.1)

-- D after a space
abbrev pub tag_text : Disambiguator → List ℕ
tag_text Absent = 32 ∷ 45 ∷ []
tag_text (number d) = 32 ∷ spelled d

digits-tag : (d : Disambiguator) (rest : List ℕ) → digits_in (tag_text d ++ rest) ≡ 0
unfolding digits_in
digits-tag Absent rest = refl
digits-tag (number d) rest = refl

digit-first : (s : List ℕ) → 0 < digits_in s → is_digit (get_or s 0 0) ≡ true
unfolding digits_in
digit-first [] h = absurd (omega arith)
digit-first (b ∷ s) h = by (is_digit b) h
  where
    by : (t : Bool) → 0 < pick t (suc (digits_in s)) 0 → t ≡ true
    by true l = refl
    by false l = absurd (omega arith)

places-some : (most n : ℕ) → 0 < most → 0 < places_up_to most n
unfolding places_up_to
places-some zero n h = absurd (omega arith)
places-some (suc most) n h = by (ltb n 10)
  where
    by : (t : Bool) → 0 < pick t 1 (suc (places_up_to most (n / 10)))
    by true = omega arith
    by false = omega arith

-- a number does not start with a dash
pub no-dash : (n : ℕ) (rest : List ℕ) → get_or (spelled n ++ rest) 0 0 ≡ 45 → ⊥
unfolding spelled places
no-dash n rest e =
    let some : 0 < digits_in (last_digits (places_up_to 20 n) n ++ rest) = omega (arith, digits_last (places_up_to 20 n) n rest, places-some 20 n (omega arith)) in
    false≢true (rw e at (digit-first (last_digits (places_up_to 20 n) n ++ rest) some))

tag_at : (s rest : List ℕ) (at : ℕ) (d : Disambiguator) → drop at s ≡ tag_text d ++ rest → SmallTag d → digits_in rest ≡ 0
    → (spaced_tag s at ≡ Some (d, at + length (tag_text d))) × (drop (at + length (tag_text d)) s ≡ rest)
unfolding spaced_tag
tag_at s rest at Absent e small z =
    let b : get_or s at 0 ≡ 32 = byte_left s (45 ∷ rest) at 32 e in
    let dash : get_or s (at + 1) 0 ≡ 45 = byte_left s rest (at + 1) 45 (left-more s (32 ∷ []) (45 ∷ rest) at e) in
    (rw (b, dash), left-more s (32 ∷ 45 ∷ []) rest at e)
tag_at s rest at (number d) e small z =
    let b : get_or s at 0 ≡ 32 = byte_left s (spelled d ++ rest) at 32 e in
    let more : drop (at + 1) s ≡ spelled d ++ rest = left-more s (32 ∷ []) (spelled d ++ rest) at e in
    let first : get_or s (at + 1) 0 ≡ get_or (spelled d ++ rest) 0 0 = ap (λ (k : ℕ). get_or s k 0) (sym (add-zero (at + 1))) ∙ sym (get_or-drop (at + 1) s 0 0) ∙ ap (λ (l : List ℕ). get_or l 0 0) more in
    let other : eqb (get_or s (at + 1) 0) 45 ≡ false = ne_eqb (get_or s (at + 1) 0) 45 (λ q. no-dash d rest (sym first ∙ q)) in
    let n = number-at s rest (at + 1) d (omega (arith, byte-within s at 32 b (omega arith))) more (omega arith) z in
    let l : at + 1 + length (spelled d) ≡ at + suc (length (spelled d)) = omega arith in
    (rw (b, other, n, lt-ltb d (2 ^ 32) small, l), left-more s (32 ∷ spelled d) rest at e)

-- O S D, each after a space, and what follows
abbrev pub id_then : EventId → List ℕ → List ℕ
id_then id rest = 32 ∷ (spelled id.idx.0 ++ (32 ∷ (spelled id.seq ++ (tag_text id.disambiguator ++ rest))))

pub id-at : (s rest : List ℕ) (at : ℕ) (id : EventId) → drop at s ≡ id_then id rest → SmallId id → digits_in rest ≡ 0
    → (next : ℕ) × (spaced_id s at ≡ Some (id, next)) × (drop next s ≡ rest)
unfolding spaced_id digits_in
id-at s rest at id e small z =
    let last = tag_text id.disambiguator ++ rest in
    let o = spaced-at s (32 ∷ (spelled id.seq ++ last)) at id.idx.0 e small.0 refl in
    let at_s = at + 1 + length (spelled id.idx.0) in
    let q = spaced-at s last at_s id.seq o.1 small.1 (digits-tag id.disambiguator rest) in
    let d = tag_at s rest (at_s + 1 + length (spelled id.seq)) id.disambiguator q.1 small.2 z in
    (at_s + 1 + length (spelled id.seq) + length (tag_text id.disambiguator), rw (o.0, q.0, d.0), d.1)

-- The words are searched from the highest on; each that was passed is empty.
use mathlib.Core.Bool.{false}
use mathlib.Core.List.{List, [], ◌∷◌}
use mathlib.Core.Path.{◌≡◌, refl, sym, ap, ◌∙◌}
use Prim.Native.Nat.{ℕ, ◌+◌, ◌*◌, ◌<◌, ◌≤◌}
use native.Mathlib.Omega.{arith}
use lib.ListN.{length, length-append, get_or, get_or-append}
use lib.Seq.{get_or-append_seam}
use borrow.Author.Rules.{rules}
use Rattle.std.specs.List.{push}
use Rattle.positions.specs.Inner.{BitLength}
use Rattle.positions.specs.Members.{has}
use Rattle.positions.specs.declared.Positions.{Positions}
use Rattle.positions.proofs.Words.{has-out, empty-word, highest-at}
use Rattle.positions.proofs.Positions.highest.Goals as goal
use Rattle.positions.proofs.Positions.highest.Goals.{After-bit_length-l}

-- the last of the words that are left, and those before it
last : (ws rest next : List ℕ) (x : ℕ) → rest ≡ push next x → ((i : ℕ) → i < length rest → get_or rest i 0 ≡ get_or ws i 0)
    → (length rest ≡ length next + 1) × (get_or ws (length next) 0 ≡ x) × ((i : ℕ) → i < length next → get_or next i 0 ≡ get_or ws i 0)
last ws rest next x e h =
    let n : length rest ≡ length next + 1 = rw e (length-append next (x ∷ []) ∙ refl) in (
      n,
      sym (h (length next) (omega (arith, n))) ∙ ap (λ (ys : List ℕ). get_or ys (length next) 0) e ∙ get_or-append_seam next x [] 0,
      λ i l. sym (get_or-append next (x ∷ []) 0 i l) ∙ ap (λ (ys : List ℕ). get_or ys i 0) (sym e) ∙ h i (omega (arith, n)),
    )

-- the word that is looked at, and those that are left before it
record Looked (self : Positions) (rest : List ℕ) (j l : ℕ) : Type 0 where
  inside : j < 4
  word : BitLength (get_or self.words j 0) l
  above : (i : ℕ) → 64 * j + 64 ≤ i → has self i ≡ false
  long : length rest ≡ j
  left : (i : ℕ) → i < length rest → get_or rest i 0 ≡ get_or self.words i 0

looked : (c : After-bit_length-l) → Looked c.args.self c.next.new.self.iter.iter.rest.now c.in-Some.j c.bit_length-l.result
looked c =
    let s = c.in-Some.ensures.steps in
    let v = c.loop-j.invariant in
    let w = last c.args.self.words c.loop-j.j-iterator.iter.iter.rest.now c.next.new.self.iter.iter.rest.now c.in-Some.w.now s.1.0 v.2 in
    let j : c.in-Some.j ≡ length c.next.new.self.iter.iter.rest.now = omega (arith, s.1.1, v.0) in
    record {
      inside = omega (arith, w.0, v.1);
      word = rw (j, w.1) c.bit_length-l.ensures;
      above = λ i l. v.3 i (omega (arith, w.0));
      long = sym j;
      left = w.2;
    }

pub loop-j-init : goal.loop-j-init
loop-j-init c = let e : c.into_iter-j-iterator.result.iter.iter.rest.now ≡ c.args.self.words = search rules in
    let f : length c.args.self.words ≡ 4 = search rules in
    (search rules, omega (arith, ap length e, f), λ i l. rw e, λ i l. has-out c.args.self i (omega (arith, ap length e, f)))

pub returns-then-l-gt0 : goal.returns-then-l-gt0
returns-then-l-gt0 c = let w = looked c.before in
    highest-at c.args.self c.in-Some.j _ w.inside w.word w.above c.if-l-gt0.true _ (omega (arith, c.if-l-gt0.true))

pub loop-j-preserved : goal.loop-j-preserved
loop-j-preserved c = let w = looked c.before in
    let s = c.in-Some.ensures.steps in
    (s.0 ∙ c.loop-j.invariant.0, omega (arith, w.long, w.inside), w.left, λ i l. empty-word c.args.self c.in-Some.j _ w.inside w.word w.above c.if-l-gt0.false i (omega (arith, w.long)))

pub returns : goal.returns
returns c = let s = c.in-None.ensures.steps in λ k l. c.loop-j.invariant.3 k (omega (arith, s.1.0))

-- What a turn of the loop that reads a vector keeps: the entries that were read, against those that are left.
use mathlib.Core.List.{List, [], ◌∷◌, ◌++◌, append_assoc, append-nil}
use mathlib.Core.Path.{◌≡◌, refl, sym, ap, ◌∙◌}
use Prim.Native.Nat.{ℕ, zero, suc, ◌+◌, ◌-◌, ◌≤◌, ◌<◌}
use native.Mathlib.Omega.{arith}
use lib.ListN.{length, set, length-append, length-set}
use Rattle.std.proofs.Common.{Some, None}
use Rattle.laws.proofs.Lists.{written-more}
use Rattle.laws.specs.Lists.{written}
use Rattle.listing.specs.Commands.{spaced_number, entries, entries_end}

entries-more : (k : ℕ) (s : List ℕ) (at n next : ℕ) → 0 < k → spaced_number s at ≡ Some (n, next)
    → (entries k s at ≡ n ∷ entries (k - 1) s next) × (entries_end k s at ≡ entries_end (k - 1) s next)
unfolding entries entries_end
entries-more zero s at n next h e = absurd (omega arith)
entries-more (suc k) s at n next h e = let d : suc k - 1 ≡ k = omega arith in rw (d, e) (refl, refl)

entries-stop : (k : ℕ) (s : List ℕ) (at : ℕ) → spaced_number s at ≡ None → (entries k s at ≡ []) × (entries_end k s at ≡ at)
unfolding entries entries_end
entries-stop zero s at e = (refl, refl)
entries-stop (suc k) s at e = rw e (refl, refl)

entries-full : (k : ℕ) (s : List ℕ) (at : ℕ) → k ≡ 0 → (entries k s at ≡ []) × (entries_end k s at ≡ at)
unfolding entries entries_end
entries-full k s at e = rw e (refl, refl)

-- the loop at a place with n entries read, of at most k
pub record Passed (s : List ℕ) (from k : ℕ) (out₀ out : List ℕ) (at n : ℕ) : Type 0 where
  pub got : List ℕ
  pub count : length got ≡ n
  pub room : n ≤ k
  pub long : length out ≡ length out₀
  pub list : entries k s from ≡ got ++ entries (k - n) s at
  pub end : entries_end k s from ≡ entries_end (k - n) s at
  pub stored : out ≡ written got out₀

pub passed_start : (s : List ℕ) (from k : ℕ) (out₀ : List ℕ) → Passed s from k out₀ out₀ from 0
passed_start s from k out₀ =
    let d : k - 0 ≡ k = omega arith in
    record { got = []; count = refl; room = omega arith; long = refl; list = rw d; end = rw d; stored = refl }

pub passed-turn : (s : List ℕ) (from k : ℕ) (out₀ out : List ℕ) (at n v next : ℕ) → Passed s from k out₀ out at n → n < k → k ≤ length out₀
    → spaced_number s at ≡ Some (v, next) → Passed s from k out₀ (set out n v) next (n + 1)
passed-turn s from k out₀ out at n v next p h l e =
    let m = entries-more (k - n) s at v next (omega arith) e in
    let d : k - (n + 1) ≡ k - n - 1 = omega arith in
    record {
      got = p.got ++ (v ∷ []);
      count = length-append p.got (v ∷ []) ∙ omega (arith, p.count);
      room = omega arith;
      long = length-set out n v ∙ p.long;
      list = p.list ∙ rw (m.0, d) (sym (append_assoc p.got (v ∷ []) (entries (k - n - 1) s next)));
      end = p.end ∙ rw (m.1, d);
      stored = rw (p.stored, ← p.count) (written-more p.got out₀ v (omega (arith, p.count)));
    }

-- where no entry is left, all are read
pub passed-all : (s : List ℕ) (from k : ℕ) (out₀ out : List ℕ) (at n : ℕ) → Passed s from k out₀ out at n
    → (entries (k - n) s at ≡ []) × (entries_end (k - n) s at ≡ at)
    → (◌≡◌ {A = ℕ × ℕ} (n, at) (length (entries k s from), entries_end k s from)) × (out ≡ written (entries k s from) out₀)
passed-all s from k out₀ out at n p z =
    let all : entries k s from ≡ p.got = p.list ∙ rw z.0 (append-nil p.got) in
    let end : entries_end k s from ≡ at = p.end ∙ z.1 in
    (rw (all, end, p.count), rw all p.stored)

pub passed-stop : (s : List ℕ) (from k : ℕ) (out₀ out : List ℕ) (at n : ℕ) → Passed s from k out₀ out at n → spaced_number s at ≡ None
    → (◌≡◌ {A = ℕ × ℕ} (n, at) (length (entries k s from), entries_end k s from)) × (out ≡ written (entries k s from) out₀)
passed-stop s from k out₀ out at n p e = passed-all s from k out₀ out at n p (entries-stop (k - n) s at e)

pub passed-full : (s : List ℕ) (from k : ℕ) (out₀ out : List ℕ) (at n : ℕ) → Passed s from k out₀ out at n → k ≤ n
    → (◌≡◌ {A = ℕ × ℕ} (k, at) (length (entries k s from), entries_end k s from)) × (out ≡ written (entries k s from) out₀)
passed-full s from k out₀ out at n p h =
    let e : k ≡ n = omega (arith, p.room) in
    let pair : ℕ → ℕ × ℕ = λ m. (m, at) in
    let all = passed-all s from k out₀ out at n p (entries-full (k - n) s at (omega arith)) in
    (ap pair e ∙ all.0, all.1)

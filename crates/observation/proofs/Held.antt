-- On every history that calls reached: versions never fall, the number held is what was accepted less what was removed, rows are told apart, and how much is held at most.
use mathlib.Core.Bool.{true, ◌&&◌}
use mathlib.Core.List.{List}
use mathlib.Core.Path.{◌≡◌, ap, ◌∙◌}
use Prim.Native.Nat.{ℕ, ◌+◌, ◌*◌, ◌<◌, ◌≤◌}
use native.Mathlib.Nat.{min-le_right}
use native.Mathlib.Omega.{arith}
use lib.Dec.{leb, eqb}
use Rattle.std.proofs.Common.{Some}
use Rattle.laws.specs.Counting.{sum_below}
use Rattle.clocks.specs.Vectors.{desks, entry}
use Rattle.history.specs.Tables.{row_of, padded, note_at}
use Rattle.history.specs.Traces.{replicas, last_of, retained_of, held, version_row, held_count}
use Rattle.history.specs.Rooms.{beyond, is_full}
use Rattle.history.specs.Lists.{event_at}
use Rattle.history.proofs.Tables.{row_reads, padded-entry}
use Rattle.history.proofs.Traces.{held_tells, held_in}
use Rattle.history.proofs.Counts.{held-exact}
use Rattle.history.proofs.Free.{full-exact, one-most, all_most}
use Rattle.history.proofs.Notes.{row-once, event-at-row}
use Rattle.history.specs.Whole.{EventHistory}
use Rattle.observation.specs.Reached.{Versions, Reached}
use Rattle.observation.proofs.Kept.{reached-kept}

module _ {h : EventHistory} {versions notes boundaries : List ℕ} {W : Versions} {accepted gone : ℕ} (w : Reached h versions notes boundaries W accepted gone) where
  -- of all that were accepted, retained or not
  pub versions-rise : (r s t i : ℕ) → 1 ≤ s → s ≤ t → t ≤ last_of h r → entry (W r s) i ≤ entry (W r t) i
  versions-rise = (reached-kept w).carried.rises

  -- the row of a retained event is the version that it was accepted with, R long by the R of now
  pub row_is : (r s : ℕ) → held h r s ≡ true → version_row h versions r s ≡ padded (W r s) (replicas h)
  row_is r s e = row_reads versions (16 * row_of h r s) (W r s) (replicas h) (min-le_right h.len desks) ((reached-kept w).carried.rows r s e)

  -- so it says what that version said
  pub row-entry : (r s : ℕ) → held h r s ≡ true → (i : ℕ) → entry (version_row h versions r s) i ≡ entry (W r s) i
  row-entry r s e i =
      ap (λ (x : List ℕ). entry x i) (row_is r s e)
      ∙ padded-entry (W r s) (replicas h) ((reached-kept w).carried.long r s (held_in h r s e).1 (held_tells h r s e).2) i

  -- and so of the rows of two retained events
  pub rows-rise : (r s t i : ℕ) → held h r s ≡ true → held h r t ≡ true → s ≤ t → entry (version_row h versions r s) i ≤ entry (version_row h versions r t) i
  rows-rise r s t i a b l =
      let c = (reached-kept w).carried in
      omega (arith, row-entry r s a i, row-entry r t b i, c.rises r s t i (held_in h r s a).1 l (held_tells h r t b).2)

  -- a version's own entry is the sequence
  pub own-entry : (r s : ℕ) → 1 ≤ s → s ≤ last_of h r → entry (W r s) r ≡ s
  own-entry = (reached-kept w).carried.own

  -- the number that `len` answers is the sum of what each replica retains: no wrap
  pub count-is : held_count h ≡ sum_below (retained_of h) (replicas h)
  count-is = held-exact h (reached-kept w).ok

  -- with what is gone it is all that was accepted
  pub count-balance : held_count h + gone ≡ accepted
  count-balance = (reached-kept w).count

  pub held-balance : sum_below (retained_of h) (replicas h) + gone ≡ accepted
  held-balance = omega (arith, count-is, count-balance)

  -- the row of a retained event, which lists name, is its own, and `event_at` gives the event there
  pub event-at-is : (r s : ℕ) → held h r s ≡ true → event_at h notes (row_of h r s) ≡ Some (note_at h notes r s)
  event-at-is r s e = event-at-row h notes r s (reached-kept w).owned e

  pub rows_apart : (r s q t : ℕ) → held h r s ≡ true → held h q t ≡ true → row_of h r s ≡ row_of h q t → (r ≡ q) × (s ≡ t)
  rows_apart = row-once h (reached-kept w).ok

  -- one replica retains at most 392, all together at most 512; Full is given where what is retained beyond eight each is 384
  pub one-held : (r : ℕ) → r < desks → retained_of h r ≤ 392
  one-held r l = one-most h r (reached-kept w).ok l

  pub all_held : sum_below (retained_of h) desks ≤ 512
  all_held = all_most h (reached-kept w).ok

  pub full_is : (r : ℕ) → is_full h r ≡ (leb 8 (retained_of h r) && eqb (beyond h) 384)
  full_is r = full-exact h r (reached-kept w).ok

-- Laws of frontiers: join is the least upper bound and meet the greatest lower bound; what a version includes it covers; every call
-- keeps a frontier well made; and well-made frontiers that compare equal are equal.
use Rattle.std.proofs.Common.{◌≡◌, ℕ, ◌<◌, ◌≤◌, min, max, true, false, ◌&&◌, eqb, nat_eq, [], ◌∷◌, eqb-true, Some, Result, Ok, Err, ltb, List, length, get_or, set, replicate, sym, refl, ap, ◌∙◌, ⊎_elim, arith, length-set, get_or-set_other, get_or-set_same, ext_get_or, ltb-false, le-ltb, eq-eqb, ne_eqb}
use Rattle.std.specs.Result.{ResultUnwrapsOrElse}
use Rattle.std.specs.Cmp.Lexicographic.{pointwise}
use Rattle.std.specs.declared.cmp.Ordering.TheVariants.{Equal}
use mathlib.Core.Bool.{false≢true}
use native.Mathlib.Nat.{max-le, le-max_left, le-max_right, min-le_left, min-le_right, le-min}
use native.Mathlib.Decide.{ℕ_discrete}
use Rattle.laws.specs.Counting.{pick}
use Rattle.laws.specs.Lists.{tabulate}
use Rattle.laws.proofs.Lists.{get_or-zeros, tabulate-cong, get_or-tabulate, get_or-tabulate-all, length-tabulate}
use Rattle.laws.proofs.Orders.{true-or-false, or-neither, and_both, bool_iff}
use Rattle.clocks.specs.contracts.causal_frontier.CausalFrontierPartialEq.TheImpl as frontier_eq
use Rattle.clocks.specs.Refusals.{accepted, bad_count, number_in}
use Rattle.clocks.specs.Vectors.{top, desks, entry, well_formed, covers, at_most, compared}
use Rattle.clocks.specs.Frontiers.{FrontierAnswer, made as answer_of, answered, FrontierOk, zeros, join_entries, meet_entries, joined, met, is_bad_count, new_frontier, from_entries, is_bad_raise, widened, same_frontier}
use Rattle.clocks.specs.declared.causal_frontier.CausalFrontier.{CausalFrontier}
use Rattle.clocks.specs.declared.id.EventId.{EventId}
use Rattle.clocks.specs.declared.refusal.Refusal.{Refusal}
use Rattle.clocks.proofs.Refusals.{number-some, same-answer, same-refusal}
use Rattle.clocks.proofs.Vectors.{entry-out, well-formed-length, well-formed-entry, well-formed-out, at-most-intro, at-most-elim, at-most-refl, at-most-antisym, covers-mono, compared-tells, Tells}

-- ---- entries of a join and of a meet

pub join-entry : (v w : List ℕ) → length v ≤ desks → length w ≤ desks → (i : ℕ) → entry (join_entries v w) i ≡ max (entry v i) (entry w i)
unfolding join_entries
join-entry v w p q = get_or-tabulate-all (λ i. max (entry v i) (entry w i)) desks (λ i l. rw (entry-out v i (omega arith), entry-out w i (omega arith)))

pub meet-entry : (v w : List ℕ) → length v ≤ desks → length w ≤ desks → (i : ℕ) → entry (meet_entries v w) i ≡ min (entry v i) (entry w i)
unfolding meet_entries
meet-entry v w p q = get_or-tabulate-all (λ i. min (entry v i) (entry w i)) desks (λ i l. rw (entry-out v i (omega arith), entry-out w i (omega arith)))

-- of the sixteen entries no length is asked
pub joined_at : (v w : List ℕ) {r : List ℕ} → r ≡ join_entries v w → (i : ℕ) → i < desks → entry r i ≡ max (entry v i) (entry w i)
unfolding join_entries
joined_at v w e i l = ap (λ (x : List ℕ). entry x i) e ∙ get_or-tabulate (λ j. max (entry v j) (entry w j)) desks i l

pub met_at : (v w : List ℕ) {r : List ℕ} → r ≡ meet_entries v w → (i : ℕ) → i < desks → entry r i ≡ min (entry v i) (entry w i)
unfolding meet_entries
met_at v w e i l = ap (λ (x : List ℕ). entry x i) e ∙ get_or-tabulate (λ j. min (entry v j) (entry w j)) desks i l

-- what is joined to zeros is itself
pub join-zeros : (v : List ℕ) → join_entries (replicate 16 0) v ≡ tabulate (entry v) desks
unfolding join_entries
join-zeros v = tabulate-cong (λ i. max (entry (replicate 16 0) i) (entry v i)) (entry v) desks (λ i l. rw (get_or-zeros 16 i) (omega arith))

pub ruleset zero_joins = (join-zeros)

-- ---- join is the least upper bound, meet the greatest lower bound

module _ (v w : List ℕ) (p : length v ≤ desks) (q : length w ≤ desks) where
  pub join-left : at_most v (join_entries v w) ≡ true
  join-left = at-most-intro v (join_entries v w) (λ i. rw (join-entry v w p q i) (le-max_left (entry v i) (entry w i)))

  pub join-right : at_most w (join_entries v w) ≡ true
  join-right = at-most-intro w (join_entries v w) (λ i. rw (join-entry v w p q i) (le-max_right (entry v i) (entry w i)))

  pub join-least : (u : List ℕ) → at_most v u ≡ true → at_most w u ≡ true → at_most (join_entries v w) u ≡ true
  join-least u a b = at-most-intro (join_entries v w) u (λ i. rw (join-entry v w p q i) (max-le (at-most-elim v u a i) (at-most-elim w u b i)))

  pub meet_left : at_most (meet_entries v w) v ≡ true
  meet_left = at-most-intro (meet_entries v w) v (λ i. rw (meet-entry v w p q i) (min-le_left (entry v i) (entry w i)))

  pub meet_right : at_most (meet_entries v w) w ≡ true
  meet_right = at-most-intro (meet_entries v w) w (λ i. rw (meet-entry v w p q i) (min-le_right (entry v i) (entry w i)))

  pub meet-greatest : (u : List ℕ) → at_most u v ≡ true → at_most u w ≡ true → at_most u (meet_entries v w) ≡ true
  meet-greatest u a b = at-most-intro u (meet_entries v w) (λ i. rw (meet-entry v w p q i) (le-min (at-most-elim u v a i) (at-most-elim u w b i)))

-- a version that includes a frontier covers all that the frontier contains
pub includes-covers : (f : CausalFrontier) (v : List ℕ) → at_most f.entries v ≡ true → (id : EventId) → covers f.entries id ≡ true → covers v id ≡ true
includes-covers f v h id = covers-mono f.entries v id h

-- ---- every call keeps a frontier well made

pub zeros-ok : (r : ℕ) → r ≤ desks → FrontierOk (zeros r)
zeros-ok r l = record {
  room = l;
  long = refl;
  high = λ i. rw (get_or-zeros 16 i) (omega arith);
  rest = λ i p. get_or-zeros 16 i;
}

pub from-entries-ok : (r : ℕ) (v : List ℕ) → r ≤ desks → well_formed r v ≡ true → FrontierOk (record { len = r; entries = tabulate (entry v) desks })
from-entries-ok r v l h = record {
  room = l;
  long = length-tabulate (entry v) desks;
  high = λ i. rw (same i) (well-formed-entry r v h i);
  rest = λ i p. same i ∙ well-formed-out r v h i p;
}
  where
    same : (i : ℕ) → get_or (tabulate (entry v) desks) i 0 ≡ entry v i
    same = get_or-tabulate-all (entry v) desks (λ i p. well-formed-out r v h i (omega arith))

-- the number and the frontier of a creation's answer; of a refused one the frontier is the default
pub made-number : (r : Result CausalFrontier Refusal) → number_in r ≡ (answer_of r).refusal
made-number (Ok f) = refl
made-number (Err refusal) = refl

pub made-frontier : (r : Result CausalFrontier Refusal) (f : CausalFrontier) → ResultUnwrapsOrElse r (λ g. g ≡ zeros 0) f → f ≡ (answer_of r).frontier
made-frontier (Ok g) f e = e
made-frontier (Err refusal) f e = e

-- what a creation answered tells the Result
pub made-tells : (r s : Result CausalFrontier Refusal) → answer_of r ≡ answer_of s → r ≡ s
made-tells (Ok f) (Ok g) e = ap (λ (a : FrontierAnswer). Ok a.frontier) e
made-tells (Ok f) (Err b) e = absurd (number-some b (ap (λ (a : FrontierAnswer). a.refusal) (sym e)))
made-tells (Err a) (Ok g) e = absurd (number-some a (ap (λ (a : FrontierAnswer). a.refusal) e))
made-tells (Err a) (Err b) e = ap Err (same-refusal a b (ap (λ (a : FrontierAnswer). a.refusal) e))

-- and so does what a change answered, with the frontier after it
pub answered-tells : (r s : Result (Unit {0}) Refusal) (f g : CausalFrontier) → answered r f ≡ answered s g → (r ≡ s) × (f ≡ g)
answered-tells r s f g e = (same-answer r s (ap (λ (a : FrontierAnswer). a.refusal) e), ap (λ (a : FrontierAnswer). a.frontier) e)

-- a frontier made from a well-formed vector says the same
pub made : (r : ℕ) (v : List ℕ) → r ≤ desks → well_formed r v ≡ true
    → FrontierOk (from_entries r v).frontier × ((from_entries r v).frontier.len ≡ r) × ((i : ℕ) → entry (from_entries r v).frontier.entries i ≡ entry v i)
unfolding from_entries
made r v l h = elim (ℕ_discrete r 0) [
  | yes z ↦ rw (eq-eqb r 0 z) (zeros-ok 0 (omega arith), sym z, λ i. get_or-zeros 16 i ∙ sym (well-formed-out r v h i (omega arith)))
  | no z ↦ rw (ne_eqb r 0 z, le-ltb desks r l, h) (from-entries-ok r v l h, refl, get_or-tabulate-all (entry v) desks (λ i q. well-formed-out r v h i (omega arith)))
]

-- a count that is not refused is 1 to 16
pub good-count : (r : ℕ) → is_bad_count r ≡ false → (1 ≤ r) × (r ≤ desks)
good-count r e = elim (ℕ_discrete r 0) [
  | yes q ↦ absurd (false≢true (sym e ∙ rw (eq-eqb r 0 q)))
  | no q ↦ (omega arith, ltb-false desks r (rw (ne_eqb r 0 q) at e))
]

-- a frontier that creation gives is well made, refused or not
pub new-made : (r : ℕ) → FrontierOk (new_frontier r).frontier
unfolding new_frontier
new-made r = ⊎_elim
    (λ (t : is_bad_count r ≡ true). rw t (zeros-ok 0 (omega arith)))
    (λ (z : is_bad_count r ≡ false). rw z (zeros-ok r (good-count r z).1)) (true-or-false (is_bad_count r))

pub from-made : (r : ℕ) (v : List ℕ) → FrontierOk (from_entries r v).frontier
unfolding from_entries
from-made r v = ⊎_elim
    (λ (t : is_bad_count r ≡ true). rw t (zeros-ok 0 (omega arith)))
    (λ (z : is_bad_count r ≡ false). ⊎_elim
    (λ (w : well_formed r v ≡ true). rw (z, w) (from-entries-ok r v (good-count r z).1 w))
    (λ (w : well_formed r v ≡ false). rw (z, w) (zeros-ok 0 (omega arith))) (true-or-false (well_formed r v)))
    (true-or-false (is_bad_count r))

pub set-ok : (f : CausalFrontier) (i value : ℕ) → FrontierOk f → i < f.len → value ≤ top → FrontierOk (record { len = f.len; entries = set f.entries i value })
set-ok f i value ok l h = record {
  room = ok.room;
  long = length-set f.entries i value ∙ ok.long;
  high = high;
  rest = λ k p. get_or-set_other f.entries i k value 0 (λ e. omega arith) ∙ ok.rest k p;
}
  where
    high : (k : ℕ) → entry (set f.entries i value) k ≤ top
    high k = elim (ℕ_discrete k i) [
      | yes e ↦ rw (e, get_or-set_same f.entries i value 0 (omega (arith, ok.room, ok.long))) h
      | no e ↦ rw (get_or-set_other f.entries i k value 0 e) (ok.high k)
    ]

module _ (f g : CausalFrontier) (a : FrontierOk f) (b : FrontierOk g) where
  join-at : (i : ℕ) → entry (join_entries f.entries g.entries) i ≡ max (entry f.entries i) (entry g.entries i)
  join-at = join-entry f.entries g.entries (omega (arith, a.long)) (omega (arith, b.long))

  meet-at : (i : ℕ) → entry (meet_entries f.entries g.entries) i ≡ min (entry f.entries i) (entry g.entries i)
  meet-at = meet-entry f.entries g.entries (omega (arith, a.long)) (omega (arith, b.long))

  pub join-ok : FrontierOk (joined f g)
  unfolding join_entries
  join-ok = record {
    room = max-le a.room b.room;
    long = length-tabulate (λ i. max (entry f.entries i) (entry g.entries i)) desks;
    high = λ i. rw (join-at i) (max-le (a.high i) (b.high i));
    rest = λ i p.
        let l = le-max_left f.len g.len in
        let r = le-max_right f.len g.len in
        join-at i ∙ rw (a.rest i (omega arith), b.rest i (omega arith));
  }

  pub meet-ok : FrontierOk (met f g)
  unfolding meet_entries
  meet-ok = record {
    room = max-le a.room b.room;
    long = length-tabulate (λ i. min (entry f.entries i) (entry g.entries i)) desks;
    high = λ i. rw (meet-at i) (omega (arith, min-le_left (entry f.entries i) (entry g.entries i), a.high i));
    rest = λ i p.
        let l = le-max_left f.len g.len in
        let r = le-max_right f.len g.len in
        meet-at i ∙ rw (a.rest i (omega arith), b.rest i (omega arith));
  }

  -- well-made frontiers of one R with equal entries are equal
  pub frontier-ext : f.len ≡ g.len → ((i : ℕ) → entry f.entries i ≡ entry g.entries i) → f ≡ g
  frontier-ext l h =
      let e = ext_get_or 0 f.entries g.entries (a.long ∙ sym b.long) (λ i p. h i) in
      λ t. record { len = l t; entries = e t }

  -- so `Equal` is equality
  pub compared-equal-eq : f.len ≡ g.len → compared f.entries g.entries ≡ Some Equal → f ≡ g
  compared-equal-eq l e =
      let t : Tells (Some Equal) (at_most f.entries g.entries) (at_most g.entries f.entries) = rw e at (compared-tells f.entries g.entries) in
      frontier-ext l (at-most-antisym f.entries g.entries t.0 t.1)

-- a version joined to a frontier
pub join-version-ok : (f : CausalFrontier) (v : List ℕ) → FrontierOk f → well_formed f.len v ≡ true → FrontierOk (record { len = f.len; entries = join_entries f.entries v })
unfolding join_entries
join-version-ok f v ok h = record {
  room = ok.room;
  long = length-tabulate (λ i. max (entry f.entries i) (entry v i)) desks;
  high = λ i. rw (at i) (max-le (ok.high i) (well-formed-entry f.len v h i));
  rest = λ i p. at i ∙ rw (ok.rest i p, well-formed-out f.len v h i p);
}
  where
    at : (i : ℕ) → entry (join_entries f.entries v) i ≡ max (entry f.entries i) (entry v i)
    at = join-entry f.entries v (omega (arith, ok.long)) (omega (arith, ok.room, well-formed-length f.len v h))

-- ---- more desks

-- a raise that is not refused is to 1 to 16, and not below the present R
pub good-raise : (r s : ℕ) → is_bad_raise r s ≡ false → (1 ≤ s) × (s ≤ desks) × (r ≤ s)
good-raise r s e =
    let t = or-neither (is_bad_count s) (ltb s r) e in
    ((good-count s t.0).0, (good-count s t.0).1, ltb-false s r t.1)

-- it is not refused for these
pub raise-fits : (r s : ℕ) → 1 ≤ s → s ≤ desks → r ≤ s → is_bad_raise r s ≡ false
raise-fits r s p q l = rw (ne_eqb s 0 (λ e. omega arith), le-ltb desks s q, le-ltb s r l)

-- the number is 0 or 17
pub widen-refusal : (f : CausalFrontier) (r : ℕ) → (widened f r).refusal ≡ pick (is_bad_raise f.len r) bad_count accepted
unfolding widened
widen-refusal f r = ⊎_elim
    (λ (t : is_bad_raise f.len r ≡ true). rw t)
    (λ (z : is_bad_raise f.len r ≡ false). rw z) (true-or-false (is_bad_raise f.len r))

-- the same R changes nothing
pub widen-same : (f : CausalFrontier) → (widened f f.len).frontier ≡ f
unfolding widened
widen-same f = ⊎_elim
    (λ (t : is_bad_raise f.len f.len ≡ true). rw t)
    (λ (z : is_bad_raise f.len f.len ≡ false). rw z) (true-or-false (is_bad_raise f.len f.len))

-- refused or not, every entry reads as before
pub widen-entries : (f : CausalFrontier) (r : ℕ) → (widened f r).frontier.entries ≡ f.entries
unfolding widened
widen-entries f r = ⊎_elim
    (λ (t : is_bad_raise f.len r ≡ true). rw t)
    (λ (z : is_bad_raise f.len r ≡ false). rw z) (true-or-false (is_bad_raise f.len r))

-- and the frontier stays well made, so that the new entries are 0
pub widen_ok : (f : CausalFrontier) (r : ℕ) → FrontierOk f → FrontierOk (widened f r).frontier
unfolding widened
widen_ok f r ok = ⊎_elim
    (λ (t : is_bad_raise f.len r ≡ true). rw t ok)
    (λ (z : is_bad_raise f.len r ≡ false). rw z (record {
      room = (good-raise f.len r z).1;
      long = ok.long;
      high = ok.high;
      rest = λ i p. ok.rest i (omega (arith, (good-raise f.len r z).2));
    })) (true-or-false (is_bad_raise f.len r))

-- R is then what was asked
pub widen-len : (f : CausalFrontier) (r : ℕ) → (widened f r).refusal ≡ accepted → (widened f r).frontier.len ≡ r
unfolding widened
widen-len f r e = ⊎_elim
    (λ (t : is_bad_raise f.len r ≡ true). absurd (omega (arith, rw t at e)))
    (λ (z : is_bad_raise f.len r ≡ false). rw z) (true-or-false (is_bad_raise f.len r))

-- ---- what the derived `==` answers

rows-equal : (v w : List ℕ) → pointwise nat_eq v w ≡ true → v ≡ w
rows-equal [] [] e = refl
rows-equal [] (y ∷ w) e = absurd (false≢true e)
rows-equal (x ∷ v) [] e = absurd (false≢true e)
rows-equal (x ∷ v) (y ∷ w) e = let p = and_both (eqb x y) (pointwise nat_eq v w) e in
    rw (eqb-true x y p.0, rows-equal v w p.1)

rows-same : (v : List ℕ) → pointwise nat_eq v v ≡ true
rows-same [] = refl
rows-same (x ∷ v) = rw (eq-eqb x x refl) (rows-same v)

pub derived-same-frontier : (f g : CausalFrontier) → length f.entries ≡ length g.entries → (frontier_eq.ghosts).eq f g ≡ same_frontier f g
derived-same-frontier f g l =
    let v = f.entries in
    let w = g.entries in
    ap (λ b. eqb f.len g.len && b)
    (bool_iff (pointwise nat_eq v w) (at_most v w && at_most w v)
    (λ t. rw (rows-equal v w t, at-most-refl w))
    (λ t. let p = and_both (at_most v w) (at_most w v) t in
    rw (ext_get_or 0 v w l (λ i k. at-most-antisym v w p.0 p.1 i)) (rows-same w)))

-- Six parts, one behind the other.
use mathlib.Core.List.{List, [], ◌∷◌, ◌++◌}
use Prim.Native.Nat.{ℕ}
use Rattle.text.specs.Bytes.{collected_in}
use Rattle.text.specs.Numbers.{spelled}
use Rattle.listing.specs.Laying.{space, newline}
use Rattle.listing.specs.Whys.{found_fields}
use Rattle.listing.proofs.Laying.{pieces_then}
use Rattle.listing.proofs.why.pair_line.Goals as goal

pub returns-clause-written : goal.returns-clause-written
returns-clause-written c =
    let later = found_fields c.args.later in
    let earlier = found_fields c.args.earlier in
    let end : List (List ℕ) = newline ∷ [] in
    let out = collected_in c.put-3.new.self in
    pieces_then (collected_in c.args.out.now) (spelled 0 ∷ space ∷ []) (later ++ (space ∷ (earlier ++ end))) (collected_in c.put.new.self) out (rw c.put_number.ensures.written at c.put.ensures.written)
    (pieces_then (collected_in c.put.new.self) later (space ∷ (earlier ++ end)) (collected_in c.found_fields.new.out) out c.found_fields.ensures.written
    (pieces_then (collected_in c.found_fields.new.out) (space ∷ []) (earlier ++ end) (collected_in c.put-2.new.self) out c.put-2.ensures.written
    (pieces_then (collected_in c.put-2.new.self) earlier end (collected_in c.found_fields-2.new.out) out c.found_fields-2.ensures.written c.put-3.ensures.written)))

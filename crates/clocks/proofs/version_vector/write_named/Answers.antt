use Rattle.std.proofs.Common.{◌≡◌, refl, ◌∙◌, add-one, arith, le-ltb, lt-ltb}
use Rattle.laws.proofs.Counting.{count_room, count_turn, count-pass}
use Rattle.laws.proofs.Lists.{write-turn, pass-turn}
use Rattle.laws.specs.Lists.{list_below}
use Rattle.laws.specs.Counting.{count_below}
use Rattle.clocks.specs.Versions.{named, needed}
use Rattle.clocks.proofs.version_vector.write_named.Goals as goal
use Rattle.clocks.proofs.version_vector.write_named.Goals.{then-seq-gt0, else-seq-gt0}

pub loop-i-init : goal.loop-i-init
unfolding count_below list_below
loop-i-init c = record { few = omega arith; count = refl; names = refl; sequences = refl }

pub bounds-replicas-n : goal.bounds-replicas-n
bounds-replicas-n c = let l = c.loop-i in
    omega (arith, c.requires.replicas_room, l.auto.replicas, count_room (named c.args.entries) l.i l.n 16 l.invariant.count (lt-ltb _ _ c.if-seq-gt0.true) c.loop-i-test.true)

pub bounds-seqs-n : goal.bounds-seqs-n
bounds-seqs-n c = let l = c.loop-i in
    omega (arith, c.requires.seqs_room, l.auto.seqs, count_room (named c.args.entries) l.i l.n 16 l.invariant.count (lt-ltb _ _ c.if-seq-gt0.true) c.loop-i-test.true)

pub loop-i-preserved : goal.loop-i-preserved
loop-i-preserved c = let a = c.args in
    let l = c.loop-i in
    let t = named a.entries in
    rw (add-one l.i) (elim c.if-seq-gt0.branch [
      | then-seq-gt0 w ↦ let p = lt-ltb _ _ w.if-seq-gt0.true in
          let r = count_room t l.i l.n 16 l.invariant.count p c.loop-i-test.true in
          record {
            few = omega (arith, w.n-is, l.invariant.few);
            count = w.n-is ∙ count_turn t l.i l.n l.invariant.count p;
            names = rw w.replicas-is (write-turn t (λ k. k) l.i l.n _ l.replicas a.replicas.now l.invariant.count (omega (arith, r, c.requires.replicas_room)) refl p l.invariant.names);
            sequences = rw w.seqs-is (write-turn t (needed a.entries a.origin.0) l.i l.n _ l.seqs a.seqs.now l.invariant.count (omega (arith, r, c.requires.seqs_room)) w.needed.ensures p l.invariant.sequences);
          }
      | else-seq-gt0 w ↦ let p = le-ltb _ _ w.if-seq-gt0.false in
          record {
            few = omega (arith, w.n-is, l.invariant.few);
            count = w.n-is ∙ count-pass t l.i l.n l.invariant.count p;
            names = rw w.replicas-is (pass-turn t (λ k. k) l.i l.replicas a.replicas.now p l.invariant.names);
            sequences = rw w.seqs-is (pass-turn t (needed a.entries a.origin.0) l.i l.seqs a.seqs.now p l.invariant.sequences);
          }
    ])

pub returns-clause-names : goal.returns-clause-names
returns-clause-names c = let e : c.loop-i.i ≡ 16 = omega arith in rw (← e) c.loop-i.invariant.names

pub returns-clause-sequences : goal.returns-clause-sequences
returns-clause-sequences c = let e : c.loop-i.i ≡ 16 = omega arith in rw (← e) c.loop-i.invariant.sequences

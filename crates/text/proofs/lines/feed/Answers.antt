-- The part of the line that the piece holds is stored as far as the buffer reaches, and the place behind it follows from where the line ends.
use mathlib.Core.Path.{◌∙◌, sym}
use lib.ListN.{drop}
use lib.Seq.{length-take-le}
use native.Mathlib.Omega.{arith}
use Rattle.text.proofs.Before.{before-le}
use Rattle.text.proofs.Pieces.{feed-ended, feed-open}
use Rattle.text.proofs.lines.feed.Goals as goal

pub slice_bounds-put-end : goal.slice_bounds-put-end
slice_bounds-put-end c = let a = c.args in
    rw c.tail.ensures (sym (length-take-le c.min-count.result (drop a.at a.piece.now) (omega (arith, before-le 10 (drop a.at a.piece.now)))))

pub returns-then-end-piece : goal.returns-then-end-piece
returns-then-end-piece c = let a = c.args in
    feed-ended a.line.now a.held a.piece.now a.at c.find_byte-end.result c.min-count.result c.settled-after.result c.put.new.out c.find_byte-end.ensures
    c.settled-after.ensures (c.min-count.ensures ∙ rw c.saturating_sub.ensures) (c.put.ensures.out_after ∙ rw c.tail.ensures) c.if-end-piece.true

pub returns : goal.returns
returns c = let a = c.args in
    feed-open a.line.now a.held a.piece.now a.at c.find_byte-end.result c.min-count.result c.settled-after.result c.put.new.out c.find_byte-end.ensures
    c.settled-after.ensures (c.min-count.ensures ∙ rw c.saturating_sub.ensures) (c.put.ensures.out_after ∙ rw c.tail.ensures) c.if-end-piece.false

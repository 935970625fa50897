-- Each turn goes on in the piece.
use Rattle.std.proofs.Common.{◌-◌, length}
use Rattle.desk.proofs.answer_piece.Given as goal

abbrev pub decreases-loop-i : goal.decreases-loop-i
decreases-loop-i l = length l.piece - l.i

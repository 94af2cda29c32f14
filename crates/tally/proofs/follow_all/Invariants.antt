-- `tally::follow_all` ends, and the stream was followed over all that was read.
-- Assumes nothing.
use Rattle.tally.proofs.Laws.{ahead, Fine}
use Rattle.tally.proofs.follow_all.Given as goal

abbrev pub invariant-loop-input : goal.invariant-loop-input
invariant-loop-input g l = Fine l.s l.input l.buf

abbrev pub decreases-loop-input : goal.decreases-loop-input
decreases-loop-input g l = ahead l.input

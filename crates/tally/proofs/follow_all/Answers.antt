-- `tally::follow_all` meets its contract: at each turn the stream was followed over all that was read.
-- Assumes nothing.
use Rattle.tally.proofs.Laws.{fine_on}
use Rattle.tally.proofs.follow_all.Goals as goal

pub loop-input-preserved : goal.loop-input-preserved
loop-input-preserved g c =
    fine_on _ _ _ c.loop-input.invariant c.loop-input-test.true _ _ c.read_more-input.ensures c.read_more-input.auto.buf
    _ _ c.follow-s.auto.buf c.follow-s.ensures

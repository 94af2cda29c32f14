-- `tally::tally` meets its contract: the text of the stream is that of what was read.
-- Assumes nothing.
use Rattle.tally.proofs.Laws.{told}
use Rattle.tally.proofs.tally.Goals as goal

pub returns : goal.returns
returns g c = told _ _ _ c.follow_all.ensures _ _ _ c.finish-long.ensures

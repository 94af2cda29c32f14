-- `rising::insert` meets its contract.
-- Assumes nothing.
use Rattle.rising.proofs.Steps.{insert_moved}
use Rattle.rising.proofs.insert.Goals as goal

pub returns : goal.returns
returns c = rw c.copy_within.ensures.after (insert_moved _ _ _ _ c.requires.0 c.requires.1)

-- `following::chunks::begin` meets its contract: slot 0 of a fresh house, just opened.
-- Assumes nothing.
use Rattle.following.proofs.Alone.{begins}
use Rattle.following.proofs.chunks.begin.Goals as goal

pub returns : goal.returns
returns c = rw c.begin.ensures begins

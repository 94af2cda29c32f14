-- `following::chunks::follow` meets its contract: a stream that goes on is followed, one that has stopped stays so.
-- Assumes nothing.
use Rattle.following.proofs.Carry.{stopped_stays}
use Rattle.following.proofs.chunks.follow.Goals as goal

pub returns-in-Some : goal.returns-in-Some
returns-in-Some c = stopped_stays _ _ _ c.requires.0 _ c.in-Some.is

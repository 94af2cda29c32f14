-- `pouring::pour_more` meets its contract: bytes of the chunk move to the carry, which is walked again.
-- Assumes nothing.
use Rattle.pouring.proofs.Pours.{tops}
use Rattle.pouring.proofs.pour_more.Goals as goal

pub returns : goal.returns
returns c =
    let told = c.top_up-n.ensures in
    tops _ _ _ _ c.args.p c.args.carry.now c.args.chunk.now _ _ _ _ _ _ _ c.requires.3 told.0 told.1.0
    told.1.1.0 told.1.1.1 c.pour_carry.ensures

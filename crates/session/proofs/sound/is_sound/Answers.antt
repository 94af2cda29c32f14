-- `session::sound::is_sound` meets its contract: the parts first, then the wafers, then what the place asks.
-- Assumes nothing.
use Rattle.std.proofs.Common.{rules}
use Rattle.session.specs.Session.{sound}
use Rattle.session.proofs.sound.is_sound.Goals as goal

pub returns-then-wafers_right : goal.returns-then-wafers_right
unfolding sound
returns-then-wafers_right c = search rules

pub returns-else-wafers_right : goal.returns-else-wafers_right
unfolding sound
returns-else-wafers_right c = search rules

-- `session::sound::wafers_right` meets its contract: no wafer, or the heads of some.
-- Assumes nothing.
use Rattle.std.proofs.Common.{rules}
use Rattle.rising.specs.Rising.{rising_from, rising, all_below}
use Rattle.session.specs.Session.{kept_right}
use Rattle.session.proofs.sound.wafers_right.Goals as goal

pub returns-then-wafers-eq0 : goal.returns-then-wafers-eq0
unfolding kept_right all_below rising rising_from
returns-then-wafers-eq0 c = search rules

-- `session::sound::kept_right` meets its contract: each return is one case of `kept_right`.
-- Assumes nothing.
use Rattle.std.proofs.Common.{rules}
use Rattle.rising.specs.Rising.{rising_from, rising, all_below}
use Rattle.session.specs.Session.{kept_right}
use Rattle.session.proofs.Laws.{kept_last}
use Rattle.session.proofs.sound.kept_right.Goals as goal

pub returns-then-used-eq0 : goal.returns-then-used-eq0
unfolding kept_right all_below rising rising_from
returns-then-used-eq0 c = search rules

pub returns-else-used-eq0 : goal.returns-else-used-eq0
returns-else-used-eq0 c = search (rules, kept_last)

pub returns-else-is_rising : goal.returns-else-is_rising
unfolding kept_right
returns-else-is_rising c = search rules

-- `lent::settle_lent` meets its contract: each return is one case of `settled`.
-- Assumes nothing.
use mathlib.Core.Path.{◌∙◌}
use Rattle.house.proofs.Delivering.{settled_refused, settled_taken, settled_wanted}
use Rattle.house.proofs.Delivering.{guessed_refused, guessed_taken, guessed_wanted}
use Rattle.lent.proofs.settle_lent.Goals as goal

pub returns-in-Refused : goal.returns-in-Refused
returns-in-Refused c = (settled_refused _ _ c.in-Refused.is, guessed_refused _ _ _ c.in-Refused.is)

pub returns-in-Taken : goal.returns-in-Taken
returns-in-Taken c = (settled_taken _ _ c.in-Taken.is _ c.settle_parts.ensures, guessed_taken _ _ _ c.in-Taken.is)

pub returns-in-Wanted : goal.returns-in-Wanted
returns-in-Wanted c = (
  c.result_lent.ensures.0 ∙ settled_wanted _ _ c.in-Wanted.is,
  c.result_lent.ensures.1 ∙ guessed_wanted _ _ _ c.in-Wanted.is,
)

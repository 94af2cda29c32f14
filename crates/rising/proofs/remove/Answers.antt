-- `rising::remove` meets its contract.
-- Assumes nothing.
use mathlib.Core.Path.{◌∙◌}
use Rattle.rising.proofs.Steps.{remove_moved}
use Rattle.rising.proofs.remove.Goals as goal

pub returns : goal.returns
returns c = c.copy_within.ensures.after ∙ remove_moved _ _ _ _ c.requires.0

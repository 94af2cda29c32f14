-- `house::Slot::closed` meets its contract: each return is one case of its definition.
-- Assumes nothing.
use mathlib.Core.Bool.{false}
use mathlib.Core.Path.{ap}
use Rattle.session.specs.declared.Session.{Session}
use Rattle.house.proofs.Slot.closed.Goals as goal

pub returns : goal.returns
returns c = ap (λ (s : Session). record { taken = false; floor = 0; session = s; held = 0 }) c.begin.ensures

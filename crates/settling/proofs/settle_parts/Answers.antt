-- `settling::settle_parts` meets its contract: each arm is one case of `changed`. What is put in or taken out behind the
-- parts leaves them alone.
-- Assumes nothing.
use Rattle.std.proofs.Common.{rules}
use Rattle.settling.specs.Settling.{changed}
use Rattle.settling.proofs.Laws.{insert_wafer, remove_wafer}
use Rattle.settling.proofs.settle_parts.Goals as goal

pub returns-in-Stands : goal.returns-in-Stands
unfolding changed
returns-in-Stands c = search rules

pub returns-in-Opens : goal.returns-in-Opens
unfolding changed
returns-in-Opens c = search rules

pub returns-in-Closes : goal.returns-in-Closes
unfolding changed
returns-in-Closes c = search rules

pub returns-in-WaferOpens : goal.returns-in-WaferOpens
unfolding changed
returns-in-WaferOpens c = search (rules, insert_wafer)

pub returns-in-WaferCloses : goal.returns-in-WaferCloses
unfolding changed
returns-in-WaferCloses c = search (rules, remove_wafer)

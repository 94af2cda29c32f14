-- `settling::settle_verdict` meets its contract: each arm is one case of `after`.
-- Assumes nothing.
use Rattle.std.proofs.Common.{rules}
use Rattle.settling.specs.Settling.{after}
use Rattle.settling.proofs.settle_verdict.Goals as goal

pub returns-in-Refused : goal.returns-in-Refused
unfolding after
returns-in-Refused c = search rules

pub returns-in-Taken : goal.returns-in-Taken
unfolding after
returns-in-Taken c = search rules

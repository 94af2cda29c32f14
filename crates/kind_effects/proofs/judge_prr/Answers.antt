-- `kind_effects::judge_prr` meets its contract: each return is one case of `judge_prr`.
-- Assumes nothing.
use Rattle.std.proofs.Common.{rules}
use Rattle.kind_effects.specs.Effects.{judge_prr}
use Rattle.kind_effects.proofs.Laws.{held_opened}
use Rattle.kind_effects.proofs.judge_prr.Goals as goal

pub returns-in_default : goal.returns-in_default
unfolding judge_prr
returns-in_default c = search rules

pub returns-in_default-checked_add : goal.returns-in_default-checked_add
unfolding judge_prr
returns-in_default-checked_add c = search rules

pub overflow_sub-next : goal.overflow_sub-next
overflow_sub-next c = search (rules, held_opened)

pub returns : goal.returns
unfolding judge_prr
returns c = search rules

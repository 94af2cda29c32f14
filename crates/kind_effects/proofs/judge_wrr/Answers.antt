-- `kind_effects::judge_wrr` meets its contract: each return is one case of `judge_wrr`. Wafers whose heads rise do so
-- themselves.
-- Assumes nothing.
use Rattle.std.proofs.Common.{rules}
use Rattle.session.proofs.Wafers.{heads_rise_lem}
use Rattle.kind_effects.specs.Effects.{judge_wrr}
use Rattle.kind_effects.proofs.Laws.{held_opened}
use Rattle.kind_effects.proofs.judge_wrr.Goals as goal

pub place_of-requires : goal.place_of-requires
place_of-requires c = search (rules, heads_rise_lem)

pub returns-in_default : goal.returns-in_default
unfolding judge_wrr
returns-in_default c = search rules

pub overflow_sub-next : goal.overflow_sub-next
overflow_sub-next c = search (rules, held_opened)

pub returns : goal.returns
unfolding judge_wrr
returns c = search rules

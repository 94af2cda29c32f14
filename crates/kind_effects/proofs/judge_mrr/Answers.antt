-- `kind_effects::judge_mrr` meets its contract: each return is one case of `judge_mrr`. The smallest of the open parts is
-- the first of the cells that they stand in.
-- Assumes nothing.
use Rattle.std.proofs.Common.{rules}
use Rattle.kind_effects.specs.Effects.{judge_mrr}
use Rattle.kind_effects.proofs.Laws.{mrr_open}
use Rattle.kind_effects.proofs.judge_mrr.Goals as goal

pub returns-then-st-ne0 : goal.returns-then-st-ne0
returns-then-st-ne0 c = search (rules, mrr_open)

pub returns-then-st-ne0-2 : goal.returns-then-st-ne0-2
unfolding judge_mrr
returns-then-st-ne0-2 c = search rules

pub returns-then-not-st : goal.returns-then-not-st
unfolding judge_mrr
returns-then-not-st c = search rules

pub returns : goal.returns
unfolding judge_mrr
returns c = search rules

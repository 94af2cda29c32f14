-- `kind_effects::judge_pir` meets its contract: each return is one case of `judge_pir`.
-- Assumes nothing.
use Rattle.std.proofs.Common.{rules}
use Rattle.kind_effects.specs.Effects.{judge_pir}
use Rattle.kind_effects.proofs.judge_pir.Goals as goal

pub returns-in_default : goal.returns-in_default
unfolding judge_pir
returns-in_default c = search rules

pub returns-then-st-ge-PARTS : goal.returns-then-st-ge-PARTS
unfolding judge_pir
returns-then-st-ge-PARTS c = search rules

pub returns : goal.returns
unfolding judge_pir
returns c = search rules

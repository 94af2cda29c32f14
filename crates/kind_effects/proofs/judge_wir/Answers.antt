-- `kind_effects::judge_wir` meets its contract: each return is one case of `judge_wir`.
-- Assumes nothing.
use Rattle.std.proofs.Common.{rules}
use Rattle.kind_effects.specs.Effects.{judge_wir}
use Rattle.kind_effects.proofs.judge_wir.Goals as goal

pub returns-in_default : goal.returns-in_default
unfolding judge_wir
returns-in_default c = search rules

pub returns-then-st-ge-WAFERS : goal.returns-then-st-ge-WAFERS
unfolding judge_wir
returns-then-st-ge-WAFERS c = search rules

pub returns : goal.returns
unfolding judge_wir
returns c = search rules

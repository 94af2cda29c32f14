-- `judging::judge_lent` meets its contract: the first record, or a later one.
-- Assumes nothing.
use Rattle.std.proofs.Common.{rules}
use Rattle.judging.specs.Judge.{judge}
use Rattle.judging.proofs.judge_lent.Goals as goal

pub returns-then-is_start : goal.returns-then-is_start
unfolding judge
returns-then-is_start c = search rules

pub returns-else-is_start : goal.returns-else-is_start
unfolding judge
returns-else-is_start c = search rules

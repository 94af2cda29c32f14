-- `judging::judge_record` meets its contract: a sound session's cells may be lent, and a part or a wafer opens and
-- closes among the open ones.
-- Assumes nothing.
use Rattle.std.proofs.Common.{rules}
use Rattle.settling.specs.Settling.{after}
use Rattle.session.proofs.Laws.{sound_lent}
use Rattle.judging.specs.Judge.{judged}
use Rattle.judging.proofs.Laws.{judged_settles}
use Rattle.judging.proofs.judge_record.Goals as goal

pub judge_lent-verdict-requires : goal.judge_lent-verdict-requires
judge_lent-verdict-requires c = search (rules, sound_lent)

pub settle_verdict-requires : goal.settle_verdict-requires
settle_verdict-requires c = search (rules, sound_lent, judged_settles)

pub returns : goal.returns
unfolding judged after
returns c = search rules

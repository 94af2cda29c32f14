-- `desk::house_calls::house_call` is safe: a report has at most 1,024 rows.
-- Assumes nothing.
use Rattle.plays.proofs.Laws.{played_few}
use Rattle.desk.proofs.house_calls.house_call.Goals as goal

pub say_found-requires : goal.say_found-requires
say_found-requires g c = rw c.play-done.ensures.value (played_few _ _ _)

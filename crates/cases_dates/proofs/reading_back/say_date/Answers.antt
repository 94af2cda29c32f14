-- `cases_dates::reading_back::say_date` is safe: a date has at most 20 bytes, and all of them are said.
-- Assumes nothing.
use Rattle.std.proofs.Common.{arith}
use Rattle.dates.proofs.Laws.{date_size}
use Rattle.cases_dates.proofs.reading_back.say_date.Goals as goal

pub write_date-n-requires : goal.write_date-n-requires
write_date-n-requires g c = omega (arith, (date_size c.args.t).1)

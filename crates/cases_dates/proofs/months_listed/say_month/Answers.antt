-- `cases_dates::months_listed::say_month` is safe: a month has a day, so there is a second before the next month.
-- Assumes nothing.
use Rattle.std.proofs.Common.{arith}
use Rattle.months.proofs.Laws.{length_between}
use Rattle.cases_dates.proofs.months_listed.say_month.Goals as goal

pub overflow_sub-first : goal.overflow_sub-first
overflow_sub-first g c = omega (arith, c.month_length.ensures, (length_between c.args.month).0)

-- `dates::moment_of` meets its contract: the month is the day's, and its first day is not after the day.
-- Assumes nothing.
use mathlib.Core.Path.{refl}
use Prim.Native.Nat.{◌/◌}
use native.Mathlib.Omega.{arith}
use Rattle.months.proofs.Laws.{month_holds, month_last}
use Rattle.dates.proofs.Laws.{moment_fits}
use Rattle.dates.proofs.moment_of.Goals as goal

pub first_day-first-requires : goal.first_day-first-requires
first_day-first-requires c = omega (arith, c.month_of_day-month.ensures, month_last (c.args.t / 86400) (omega arith))

pub overflow_sub-result : goal.overflow_sub-result
overflow_sub-result c =
    let d = c.args.t / 86400 in
    rw (c.first_day-first.ensures, c.month_of_day-month.ensures) (month_holds d).0

pub returns : goal.returns
returns c =
    let t = c.args.t in
    rw (c.first_day-first.ensures, c.month_of_day-month.ensures) (refl, moment_fits t (omega arith))

-- `months::month_of_day` meets its contract: the start of the month reached and the days left are the day.
-- Assumes nothing.
use native.Mathlib.Numerals.{add-one}
use native.Mathlib.Omega.{arith}
use Rattle.months.proofs.Laws.{first_start, first_next, length_between, month_found}
use Rattle.months.proofs.month_of_day.Goals as goal

pub loop-left-init : goal.loop-left-init
loop-left-init c = (omega (arith, first_start), omega arith)

pub returns-then-left-n : goal.returns-then-left-n
returns-then-left-n c =
    month_found c.loop-left.month c.args.day (omega arith)
    (omega (arith, first_next c.loop-left.month, c.month_length-n.ensures))

pub loop-left-smaller : goal.loop-left-smaller
loop-left-smaller c = omega (arith, c.month_length-n.ensures, (length_between c.loop-left.month).0)

pub loop-left-preserved : goal.loop-left-preserved
loop-left-preserved c =
    let k = c.loop-left.month in
    let n = c.month_length-n.ensures in
    rw (add-one k) (omega (arith, n, first_next k), omega (arith, n, (length_between k).0))

-- `months::month_of_day` meets its contract: the start of the month reached and the days left are the day.
-- Assumes nothing.
use mathlib.Core.Path.{◌≡◌}
use Prim.Native.Nat.{◌≤◌, ◌+◌}
use Rattle.months.specs.Months.{first_day}
use Rattle.months.proofs.month_of_day.Given as goal

abbrev pub invariant-loop-left : goal.invariant-loop-left
invariant-loop-left l = (first_day l.month + l.left ≡ l.day) × (l.month + l.left ≤ l.day)

abbrev pub decreases-loop-left : goal.decreases-loop-left
decreases-loop-left l = l.left

-- `months::first_day` meets its contract: after i turns the sum is the day on which month i begins.
-- Assumes nothing.
use mathlib.Core.Path.{◌≡◌}
use Prim.Native.Nat.{◌≤◌, ◌*◌}
use Rattle.months.specs.Months.{first_day}
use Rattle.months.proofs.first_day.Given as goal

abbrev pub invariant-loop-i : goal.invariant-loop-i
invariant-loop-i l = (l.day ≡ first_day l.i) × (l.day ≤ 31 * l.i)

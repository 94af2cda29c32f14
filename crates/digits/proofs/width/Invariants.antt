-- `digits::width` meets its contract: a number that reaches a power of ten has a digit more than that power has noughts,
-- and one below it has no more.
-- Assumes nothing.
use mathlib.Core.Path.{◌≡◌}
use Prim.Native.Nat.{◌+◌, ◌-◌, ◌*◌, ◌≤◌}
use lib.ListN.{length}
use Rattle.digits.specs.Digits.{digits}
use Rattle.digits.proofs.Laws.{ceiling}
use Rattle.digits.proofs.width.Given as goal

abbrev pub invariant-loop-power : goal.invariant-loop-power
invariant-loop-power l = (1 ≤ l.count) × (l.count ≤ length (digits l.n)) × (10 ≤ l.power) × (l.power ≡ ceiling l.count)

-- a power that is not past the number is below its tenfold
abbrev pub decreases-loop-power : goal.decreases-loop-power
decreases-loop-power l = l.n * 10 + 10 - l.power

-- `cases_digits::say_powers` is safe: a power of ten is at least 1.
-- Assumes nothing.
use Rattle.std.proofs.Common.{lit<, arith}
use Rattle.std.proofs.Math.Nat.{one-le-pow}
use Rattle.cases_digits.proofs.say_powers.Goals as goal

pub overflow_sub-power : goal.overflow_sub-power
overflow_sub-power g c = rw c.pow-power.ensures (one-le-pow c.loop-digits.digits 10 (lit< tt))

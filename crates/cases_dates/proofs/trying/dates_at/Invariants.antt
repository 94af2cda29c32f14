-- `cases_dates::trying::dates_at`: no more are dates than were tried.
-- Assumes nothing.
use Rattle.std.proofs.Common.{◌≤◌}
use Rattle.cases_dates.proofs.trying.dates_at.Given as goal

abbrev pub invariant-loop-b : goal.invariant-loop-b
invariant-loop-b l = l.n ≤ l.b

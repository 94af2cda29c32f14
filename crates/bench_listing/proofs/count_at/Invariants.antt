-- `bench_listing::count_at`: its numbers fit: what is divided stays below what it was cut to.
-- Assumes nothing.
use Rattle.std.proofs.Common.{◌<◌}
use Rattle.bench_listing.proofs.count_at.Given as goal

abbrev pub invariant-loop : goal.invariant-loop
invariant-loop l = l.n < 4294967295

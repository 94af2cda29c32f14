-- `bench_listing::main`: its sum fits, since a listing has fewer bytes than the buffer.
-- Assumes nothing.
use Rattle.std.proofs.Common.{◌*◌, ◌≤◌}
use Rattle.bench_listing.proofs.main.Given as goal

abbrev pub invariant-loop-turn : goal.invariant-loop-turn
invariant-loop-turn l = (l.bytes ≤ 49152 * l.turn) × (l.last ≤ 49152)

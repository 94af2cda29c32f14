-- `bench_lent::run` ends: what is lent is what a session begins with.
-- Assumes nothing.
use Rattle.std.proofs.Common.{arith}
use Rattle.bench_lent.proofs.Laws.{begun_lending}
use Rattle.bench_lent.proofs.run.Goals as goal

pub follow-requires : goal.follow-requires
follow-requires c =
    record { lending = begun_lending; turns_bound = (omega arith, omega (arith, c.pairs-stream.ensures)) }

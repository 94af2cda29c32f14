-- `bench_lent::follow` meets its contract: a delivery keeps what the next one asks for.
-- Assumes nothing.
use Rattle.std.proofs.Common.{◌+◌, ◌≤◌, ◌<◌, length}
use Rattle.house.specs.Deliver.{core}
use Rattle.house.specs.Laws.{Lending}
use Rattle.bench_lent.proofs.follow.Given as goal

abbrev pub invariant-loop-turn : goal.invariant-loop-turn
invariant-loop-turn l =
    Lending l.room (core l.keys l.counts l.used l.standing l.parts) (1 + l.turn) × (l.accepted ≤ l.turn)
    × (l.at < length l.stream)

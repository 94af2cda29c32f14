-- `bench_lent::follow` meets its contract: a delivery keeps what the next one asks for.
-- Assumes nothing.
use Rattle.std.proofs.Common.{◌≡◌, sym, subst, ◌+◌, ◌-◌, arith}
use Rattle.numbers.specs.Laws.{Bytes}
use Rattle.numbers.proofs.Laws.{part_bytes}
use Rattle.house.specs.Deliver.{Outcome, core}
use Rattle.house.specs.Laws.{Lending}
use Rattle.house.proofs.Lending.{lending_core, lending_kept}
use Rattle.bench_lent.proofs.follow.Goals as goal
use Rattle.bench_lent.proofs.follow.Goals.{then-eq, else-eq}

pub loop-turn-init : goal.loop-turn-init
loop-turn-init c = (c.requires.lending, omega arith, omega arith)

pub deliver_lent-d-requires : goal.deliver_lent-d-requires
deliver_lent-d-requires c = lending_core _ _ _ c.loop-turn.invariant.0

pub loop-turn-preserved : goal.loop-turn-preserved
loop-turn-preserved c =
    let room = c.args.room in
    let stream = c.args.stream.now in
    let at = c.loop-turn.at in
    let most = 1 + c.loop-turn.turn in
    let more : most + 1 ≡ 1 + (c.loop-turn.turn + 1) = omega arith in
    let bytes : Bytes stream = λ k. omega (arith, c.type_inv.stream k) in
    let range = part_bytes stream at (c.end_of-end.result - at) bytes in
    let kept = lending_kept room _ most _ range (omega arith) (omega arith) c.loop-turn.invariant.0 in (
      rw (← more) (subst (λ (o : Outcome). Lending room o.core (most + 1)) (sym c.deliver_lent-d.ensures.0) kept),
      elim c.if-eq.branch [ then-eq w ↦ omega (arith, w.accepted-is) | else-eq w ↦ omega (arith, w.accepted-is) ],
      omega arith,
    )

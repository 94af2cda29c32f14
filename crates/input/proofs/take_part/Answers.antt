-- `input::take_part` meets its contract: what was laid is within the line.
-- Assumes nothing.
use Rattle.std.proofs.Common.{arith}
use Rattle.input.proofs.Laws.{placed_within}
use Rattle.input.proofs.take_part.Goals as goal

pub overflow_add-result : goal.overflow_add-result
overflow_add-result c =
    let laid = placed_within _ _ _ _ _ _ c.gather.ensures c.in-Ok.is in
    omega (arith, laid)

pub returns-in-Ok : goal.returns-in-Ok
returns-in-Ok c =
    let laid = placed_within _ _ _ _ _ _ c.gather.ensures c.in-Ok.is in
    omega (arith, laid, c.gather.auto)

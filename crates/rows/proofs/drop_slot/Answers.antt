-- `rows::drop_slot` meets its contract: the run that is taken out of both arrays is the rows that the slot holds.
-- Assumes nothing.
use native.Mathlib.Omega.{arith}
use Rattle.rows.proofs.Steps.{run_inside, is_dropped}
use Rattle.rows.proofs.drop_slot.Goals as goal

pub remove-requires : goal.remove-requires
remove-requires c = (
  run_inside _ _ _ _ c.requires.1 _ _ c.slot_rank-from.ensures c.held_by-n.ensures,
  omega arith,
)

pub remove-requires-2 : goal.remove-requires-2
remove-requires-2 c = (
  run_inside _ _ _ _ c.requires.1 _ _ c.slot_rank-from.ensures c.held_by-n.ensures,
  omega arith,
)

pub overflow_sub-result : goal.overflow_sub-result
overflow_sub-result c = omega (arith, run_inside _ _ _ _ c.requires.1 _ _ c.slot_rank-from.ensures c.held_by-n.ensures)

pub returns : goal.returns
returns c =
    rw (c.remove-2.ensures, c.remove.ensures)
    (is_dropped _ _ _ _ c.requires.1 _ _ c.slot_rank-from.ensures c.held_by-n.ensures)

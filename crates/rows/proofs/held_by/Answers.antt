-- `rows::held_by` meets its contract: the rows between the ranks of a slot and of the next are the slot's.
-- Assumes nothing.
use native.Mathlib.Omega.{arith}
use Rattle.rows.proofs.Steps.{ranks_up, stretch_held}
use Rattle.rows.proofs.held_by.Goals as goal

pub overflow_sub-result : goal.overflow_sub-result
overflow_sub-result c =
    ranks_up _ _ c.requires.1 _ _ _ _ c.slot_rank-before.ensures c.slot_rank.ensures (omega arith)

pub returns : goal.returns
returns c =
    stretch_held _ _ c.requires.1 c.requires.2 _ _ _ c.slot_rank-before.ensures c.slot_rank.ensures

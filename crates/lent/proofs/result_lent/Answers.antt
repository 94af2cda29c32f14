-- `lent::result_lent` meets its contract: each return is one case of its definition.
-- Assumes nothing.
use mathlib.Core.Path.{◌∙◌}
use lib.ListN.{take}
use Rattle.house.proofs.Delivering.{resulted_rows, resulted_none, result_noted}
use Rattle.lent.proofs.result_lent.Goals as goal

pub returns-in-Some : goal.returns-in-Some
returns-in-Some c = (
  resulted_rows _ _ _ _ _ c.row_key.ensures _ _ _ c.take_row.ensures.0 _ _ c.in-Some.is c.settle_parts.ensures,
  c.take_row.ensures.1
      ∙ result_noted c.args.room.slot (take c.args.used c.args.keys.now) c.args.key c.args.guesses.now
      c.cell_of.ensures c.row_key.ensures,
)

pub returns-in-None : goal.returns-in-None
returns-in-None c = (
  resulted_none _ _ _ _ _ c.row_key.ensures _ _ _ c.take_row.ensures.0 c.in-None.is,
  c.take_row.ensures.1
      ∙ result_noted c.args.room.slot (take c.args.used c.args.keys.now) c.args.key c.args.guesses.now
      c.cell_of.ensures c.row_key.ensures,
)

-- `lent::take_row` meets its contract: each return is one case of its definition.
-- Assumes nothing.
use mathlib.Core.Path.{ap, sym, ◌∙◌}
use lib.ListN.{set}
use Rattle.house.proofs.Delivering.{countable, row_taken_lem, row_none}
use Rattle.lent.proofs.take_row.Goals as goal

pub count_row-requires : goal.count_row-requires
count_row-requires c =
    countable _ _ _ _ _ _ c.requires c.find_row-at.ensures.0 (sym c.is_granted.ensures ∙ c.if-is_granted.true)

pub returns-then-is_granted : goal.returns-then-is_granted
returns-then-is_granted c = (
  row_taken_lem _ _ _ _ _ (sym c.is_granted.ensures ∙ c.if-is_granted.true) _ _ _ c.count_row.ensures,
  c.find_row-at.ensures.1 ∙ ap (set c.args.guesses.now c.args.cell) c.find_row-at.ensures.0,
)

pub returns-else-is_granted : goal.returns-else-is_granted
returns-else-is_granted c = (
  row_none _ _ _ _ _ (sym c.is_granted.ensures ∙ c.if-is_granted.false),
  c.find_row-at.ensures.1 ∙ ap (set c.args.guesses.now c.args.cell) c.find_row-at.ensures.0,
)

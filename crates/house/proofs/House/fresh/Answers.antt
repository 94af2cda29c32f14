-- `house::House::fresh` meets its contract: each return is one case of its definition.
-- Assumes nothing.
use mathlib.Core.Path.{ap}
use lib.ListN.{replicate}
use Rattle.rows.specs.Rows.{slot_count}
use Rattle.house.specs.declared.Slot.{Slot}
use Rattle.house.specs.House.{row_count}
use Rattle.house.proofs.House.fresh.Goals as goal

pub returns : goal.returns
returns c =
    ap
    (λ (s : Slot).
    record {
      keys = replicate row_count 0;
      counts = replicate row_count 0;
      used = 0;
      slots = replicate slot_count s;
    })
    c.closed.ensures

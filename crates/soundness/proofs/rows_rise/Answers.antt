-- `soundness::rows_rise` meets its contract: rows that fit have keys that one subtraction can compare.
-- Assumes nothing.
use mathlib.Core.Path.{sym, ◌∙◌}
use native.Mathlib.Omega.{arith}
use lib.ListN.{take}
use Rattle.rising.proofs.Laws.{below_more}
use Rattle.rows.specs.Rows.{past_slots}
use Rattle.rows.proofs.Laws.{fit_below}
use Rattle.soundness.proofs.rows_rise.Goals as goal

pub rises_below-requires : goal.rises_below-requires
rises_below-requires c =
    let keys = take c.args.used c.args.keys.now in (
      omega (arith, c.requires.0, c.requires.2),
      below_more past_slots _ keys (omega arith) (fit_below keys _ (sym c.rows_fit.ensures ∙ c.if-rows_fit.true)),
    )

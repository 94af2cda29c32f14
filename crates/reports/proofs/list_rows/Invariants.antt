-- `reports::list_rows` meets its contract: after i turns the first i rows are laid.
-- Assumes nothing.
use mathlib.Core.Path.{◌≡◌}
use Rattle.house.specs.Report.{row_at, filled, no_rows}
use Rattle.reports.proofs.list_rows.Given as goal

abbrev pub invariant-loop-i : goal.invariant-loop-i
invariant-loop-i l = l.rows ≡ filled (row_at l.house l.slot) l.i no_rows

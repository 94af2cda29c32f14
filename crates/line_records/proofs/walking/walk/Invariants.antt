-- `line_records::walking::walk` meets its contract: the fields read, then the walk to come behind them, are the
-- whole walk.
-- Assumes nothing.
use mathlib.Core.Path.{◌≡◌}
use Prim.Native.Nat.{◌≤◌}
use lib.ListN.{length}
use Rattle.line_layouts.specs.Columns.{columns, bar, most_columns}
use Rattle.line_layouts.proofs.Fills.{Withins}
use Rattle.line_records.proofs.Places.{Filled}
use Rattle.line_records.proofs.Placing.{Placing}
use Rattle.line_records.proofs.walking.walk.Given as goal

abbrev pub invariant-loop-j : goal.invariant-loop-j
invariant-loop-j l = (l.at ≤ length l.s) × (length l.fields ≡ most_columns) × Withins l.s l.fields
    × Filled (bar l.tag) l.order (columns l.tag) l.s l.fields l.at l.gone l.j
    × Placing l.order (columns l.tag) l.s l.fields l.at l.gone l.j

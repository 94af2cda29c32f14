-- `row_tests::rows_open` meets its contract. The invariant: every row's slot is open where those of the rows from i
-- on are.
-- Assumes nothing.
use mathlib.Core.Path.{◌≡◌}
use Prim.Native.Nat.{◌-◌}
use lib.ListN.{take, drop}
use Rattle.rows.specs.Rows.{rows_open}
use Rattle.row_tests.proofs.rows_open.Given as goal

abbrev pub invariant-loop-i : goal.invariant-loop-i
invariant-loop-i l = rows_open l.taken (take l.used l.keys) ≡ rows_open l.taken (drop l.i (take l.used l.keys))

abbrev pub decreases-loop-i : goal.decreases-loop-i
decreases-loop-i l = l.used - l.i

-- `row_tests::rows_fit` meets its contract. The invariant: every row fits where those passed do, by their bits, and
-- those from i on do.
-- Assumes nothing.
use mathlib.Core.Path.{◌≡◌}
use mathlib.Core.Bool.{◌&&◌}
use lib.ListN.{take, drop}
use Rattle.rows.specs.Rows.{bits_fit, rows_fit}
use Rattle.row_tests.proofs.rows_fit.Given as goal

abbrev pub invariant-loop-i : goal.invariant-loop-i
invariant-loop-i l = rows_fit (take l.used l.keys) (take l.used l.counts)
    ≡ ((bits_fit l.joined l.carried && l.counted)
    && rows_fit (drop l.i (take l.used l.keys)) (drop l.i (take l.used l.counts)))

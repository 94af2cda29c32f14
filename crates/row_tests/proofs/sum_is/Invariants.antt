-- `row_tests::sum_is` meets its contract. The invariant: the slot's sum is what is added up with the rows from i on,
-- where nothing stands above, and is more than any total where something does.
-- Assumes nothing.
use Prim.Native.Nat.{◌*◌, ◌≤◌}
use lib.ListN.{take, drop}
use Rattle.rows.specs.Rows.{sum_by}
use Rattle.rows.proofs.Steps.{Added}
use Rattle.row_tests.proofs.sum_is.Given as goal

abbrev pub invariant-loop-i : goal.invariant-loop-i
invariant-loop-i l = record {
  small : l.sum ≤ l.i * 4_294_967_295;
  added : Added (sum_by l.slot (take l.used l.keys) (take l.used l.counts))
      (sum_by l.slot (drop l.i (take l.used l.keys)) (drop l.i (take l.used l.counts))) l.sum l.above;
}

-- `tally_lines::put_rows` meets its contract: line after line, each behind the last.
-- Assumes nothing.
use native.Mathlib.Omega.{arith}
use Rattle.tally_lines.proofs.Rows.{laid_none, laid_on, laid_all}
use Rattle.tally_lines.proofs.put_rows.Goals as goal

pub loop-row-init : goal.loop-row-init
loop-row-init c = laid_none _ _

pub loop-row-preserved : goal.loop-row-preserved
loop-row-preserved c =
    laid_on _ _ _ _ _ _ _ _ c.loop-row-test.true c.put_row-at.auto.out c.loop-row.invariant c.put_row-at.ensures

pub returns : goal.returns
returns c =
    record {
      put = laid_all _ _ _ _ _ c.loop-row-test.false c.loop-row.invariant;
      few = omega (arith, c.loop-row.invariant.few, c.loop-row.auto.row-index-end);
    }

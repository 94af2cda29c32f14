-- `tally_lines::put_rows` meets its contract: the lines of the rows so far are laid over the output.
-- Assumes nothing.
use Rattle.tally_lines.proofs.Rows.{Laid}
use Rattle.tally_lines.proofs.put_rows.Given as goal

abbrev pub invariant-loop-row : goal.invariant-loop-row
invariant-loop-row l = Laid l.rows l.initial.out l.row-index l.out l.at

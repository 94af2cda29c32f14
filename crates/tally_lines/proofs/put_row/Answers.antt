-- `tally_lines::put_row` meets its contract: its line is put at the start of the part behind the offset.
-- Assumes nothing.
use Rattle.tally_lines.proofs.Lines.{row_laid}
use Rattle.tally_lines.proofs.put_row.Goals as goal

pub returns : goal.returns
returns c =
    let a = c.args in
    row_laid a.row a.out.now a.at c.requires c.put_line.result c.put_line.new.out
    c.put_line.ensures

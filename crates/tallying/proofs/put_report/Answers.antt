-- `tallying::put_report` meets its contract: the rows listed are those of the report.
-- Assumes nothing.
use Rattle.house.proofs.Reporting.{listing_few}
use Rattle.tally_lines.proofs.Lines.{put_as}
use Rattle.tallying.proofs.Texts.{lines_listed}
use borrow.Author.Rules.{rules}
use Rattle.tallying.proofs.put_report.Goals as goal

pub shared_ref_as_front-put_rows : goal.shared_ref_as_front-put_rows
shared_ref_as_front-put_rows c = rw c.list_rows-list.ensures (listing_few c.args.h 0 1024)

pub returns : goal.returns
returns c = put_as (lines_listed c.args.h (record { head = 0; site = 0; bin = 0; count = 0 }) c.list_rows-list.ensures (search rules)) c.put_rows.ensures.put

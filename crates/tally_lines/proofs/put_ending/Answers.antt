-- `tally_lines::put_ending` meets its contract: the head, then the site and the end of the line.
-- Assumes nothing.
use Rattle.output.proofs.Laws.{both}
use Rattle.tally_lines.specs.Lines.{head_word, site_word, numbered, said}
use Rattle.tally_lines.proofs.put_ending.Goals as goal

pub returns-in-Some : goal.returns-in-Some
returns-in-Some c =
    let room = rw c.in-Some.is at c.requires in
    let p = rw c.from.ensures at c.put_numbered-n.ensures in
    let q = rw c.from-in-Some.ensures at c.put_said.ensures in
    rw c.in-Some.is
    (both (numbered head_word c.in-Some.head) (said site_word c.in-Some.site) c.args.out.now room _ _ p _ _ q)

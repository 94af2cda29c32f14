-- `lines::reading::read_content` meets its contract: 18, or else the record is placed.
-- Assumes nothing.
use Rattle.std.proofs.lemmas.Result.{err_from_is_err_and}
use Rattle.line_texts.proofs.Whole.{content_taken}
use Rattle.lines.proofs.reading.read_content.Goals as goal

pub place-requires : goal.place-requires
place-requires c =
    let taken = content_taken c.args.sep c.args.s.now _ c.judge_content.ensures in
    rw c.in_ok-line.was at taken.there

pub returns-in_err-line : goal.returns-in_err-line
returns-in_err-line c =
    let taken = content_taken c.args.sep c.args.s.now _ c.judge_content.ensures in
    let p = err_from_is_err_and c.from_residual.result c.from_residual.ensures.1 in
    rw (p.1, p.2, ← taken.means, c.in_err-line.was)

pub returns : goal.returns
returns c =
    let taken = content_taken c.args.sep c.args.s.now _ c.judge_content.ensures in
    rw (← taken.means, c.in_ok-line.was) c.place.ensures

-- `tallying::finish_going` meets its contract: bytes left over are refused; with none, the rows or unfinished.
-- Assumes nothing.
use mathlib.Core.Path.{ap, sym, ◌∙◌}
use mathlib.Core.Bool.{true, false}
use native.Mathlib.Omega.{arith}
use Rattle.tallying.specs.Text.{report_lines}
use Rattle.following.specs.Lent.{stream_house}
use Rattle.tally_lines.proofs.Lines.{unfinished_most, put_as}
use Rattle.tallying.proofs.Texts.{put_left, put_closing}
use Rattle.tallying.proofs.finish_going.Goals as goal

-- the promise first: it is what a wrong line is refused by
pub returns-then-s-gt0 : goal.returns-then-s-gt0
returns-then-s-gt0 c =
    put_as
    (put_left (stream_house c.args.s) c.args.s.accepted c.args.s.held c.args.buf.now
    c.if-s-gt0.true c.requires.0 _ c.left_over.ensures) c.put_refused.ensures

pub returns-then-is_ended : goal.returns-then-is_ended
returns-then-is_ended c =
    put_as
    (ap report_lines c.house_of.ensures
    ∙ put_closing (stream_house c.args.s) c.args.s.accepted c.args.s.held
    c.args.buf.now c.if-s-gt0.false true (sym c.if-is_ended.true ∙ c.is_ended.ensures))
    c.put_report.ensures

pub returns-else-is_ended : goal.returns-else-is_ended
returns-else-is_ended c =
    put_as
    (put_closing (stream_house c.args.s) c.args.s.accepted c.args.s.held
    c.args.buf.now c.if-s-gt0.false false (sym c.if-is_ended.false ∙ c.is_ended.ensures))
    c.put_unfinished.ensures

pub put_unfinished-requires : goal.put_unfinished-requires
put_unfinished-requires c =
    omega (arith, unfinished_most c.args.s.accepted (omega (arith, c.requires.1)), c.requires.2)

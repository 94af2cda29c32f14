-- `requests::cutting::cut_line` meets its contract: a verb stands alone, or words follow.
-- Assumes nothing.
use native.Mathlib.Omega.{arith}
use Rattle.requests.proofs.CutLaws.{line_more, line_alone}
use Rattle.requests.proofs.cutting.cut_line.Goals as goal

pub returns-then-e-line : goal.returns-then-e-line
returns-then-e-line c =
    line_more c.args.line.now c.word_end-e.result c.word_end-e.ensures.0
    c.verb_of-verb.result c.verb_of-verb.ensures _ _ c.if-e-line.true c.cut_first.ensures

pub returns : goal.returns
returns c =
    line_alone c.args.line.now c.word_end-e.result c.word_end-e.ensures.0
    c.verb_of-verb.result c.verb_of-verb.ensures _ (omega arith) c.ask_alone-asked.ensures

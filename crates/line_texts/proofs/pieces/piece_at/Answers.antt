-- `line_texts::pieces::piece_at` meets its contract: behind the last piece there is an empty one.
-- Assumes nothing.
use Rattle.line_texts.proofs.Cuts.{next_more, next_last}
use Rattle.line_texts.proofs.pieces.piece_at.Goals as goal

pub returns-then-to-text : goal.returns-then-to-text
returns-then-to-text c =
    rw c.in-Some.is (next_more c.args.sep c.args.text.now c.in-Some.at _ c.piece_end-to.ensures c.if-to-text.true)

pub returns-else-to-text : goal.returns-else-to-text
returns-else-to-text c =
    rw c.in-Some.is (next_last c.args.sep c.args.text.now c.in-Some.at _ c.piece_end-to.ensures c.if-to-text.false)

-- `line_texts::pieces::piece_fits` meets its contract: an empty piece fits a column that is not required.
-- Assumes nothing.
use mathlib.Core.Path.{sym, ◌∙◌}
use borrow.Author.Tests.{eqb-true, eqb-false}
use Rattle.line_texts.proofs.Fits.{piece_empty, piece_value}
use Rattle.line_texts.proofs.pieces.piece_fits.Goals as goal

pub returns-then-is_empty : goal.returns-then-is_empty
returns-then-is_empty c = sym (piece_empty c.args.sep c.args.column c.args.piece.now
    (eqb-true _ _ (sym c.is_empty.ensures ∙ c.if-is_empty.true)))

pub returns-else-is_empty : goal.returns-else-is_empty
returns-else-is_empty c = c.value_fits.ensures ∙ sym (piece_value c.args.sep c.args.column c.args.piece.now
    (eqb-false _ _ (sym c.is_empty.ensures ∙ c.if-is_empty.false)))

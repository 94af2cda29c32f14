-- `line_texts::pieces::fields_fit` meets its contract: the columns left fit their pieces as all of them do.
-- Assumes nothing.
use mathlib.Core.Path.{◌≡◌}
use lib.ListN.{drop}
use Rattle.line_layouts.specs.Columns.{columns}
use Rattle.line_texts.specs.Pieces.{split, gathered, fields_fit}
use Rattle.line_texts.proofs.pieces.fields_fit.Given as goal

abbrev pub invariant-loop-j : goal.invariant-loop-j
invariant-loop-j l =
    let pieces = gathered l.tag (split l.sep (drop 4 l.text)) in
    fields_fit l.sep (columns l.tag) pieces ≡ fields_fit l.sep (drop l.j (columns l.tag)) (drop l.j pieces)

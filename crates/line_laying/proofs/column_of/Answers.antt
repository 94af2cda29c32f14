-- `line_laying::column_of` meets its contract: each arm is one layout.
-- Assumes nothing.
use Rattle.line_layouts.specs.Layouts.{column_of}
use Rattle.line_laying.proofs.column_of.Goals as goal

pub returns-in-Text : goal.returns-in-Text
unfolding column_of
returns-in-Text c = rw c.in-Text.is c.order_at.ensures

pub returns-in-Record : goal.returns-in-Record
unfolding column_of
returns-in-Record c = rw c.in-Record.is

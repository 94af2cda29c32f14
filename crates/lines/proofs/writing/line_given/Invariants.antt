-- `lines::writing::line_given` meets its contract: the fields passed are given.
-- Assumes nothing.
use Rattle.lines.proofs.Giving.{Giving}
use Rattle.lines.proofs.writing.line_given.Given as goal

abbrev pub invariant-loop-j : goal.invariant-loop-j
invariant-loop-j l = Giving l.line l.j

-- `line_texts::contents::sites_fit` meets its contract: the fields passed are as they must be beside each other.
-- Assumes nothing.
use Rattle.line_texts.proofs.Whole.{Sitting}
use Rattle.line_texts.proofs.contents.sites_fit.Given as goal

abbrev pub invariant-loop-j : goal.invariant-loop-j
invariant-loop-j l = Sitting l.line l.j l.gone

-- `input::take_line` meets its contract: the line stays within its buffer.
-- Assumes nothing.
use Rattle.std.proofs.Common.{◌≤◌, length}
use Rattle.input.proofs.take_line.Given as goal

abbrev pub invariant-loop : goal.invariant-loop
invariant-loop g l = l.g.long ≤ length l.line

-- `output::put` meets its contract: after i turns the first i bytes are laid over the start.
-- Assumes nothing.
use mathlib.Core.Path.{◌≡◌}
use lib.ListN.{take}
use Rattle.numbers.specs.Numbers.{over}
use Rattle.output.proofs.put.Given as goal

abbrev pub invariant-loop-i : goal.invariant-loop-i
invariant-loop-i g l = l.out ≡ over (take l.i l.bytes) l.initial.out

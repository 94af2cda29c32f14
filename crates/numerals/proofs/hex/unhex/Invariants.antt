-- `numerals::hex::unhex` meets its contract: at each turn the first bytes are laid over the line, and what is still
-- to be read stands behind them.
-- Assumes nothing.
use mathlib.Core.Path.{◌≡◌}
use lib.ListN.{take, drop}
use Rattle.numbers.specs.Numbers.{over}
use Rattle.numerals.specs.Hex.{bytes_of}
use Rattle.numerals.proofs.hex.unhex.Given as goal

abbrev pub invariant-loop-i : goal.invariant-loop-i
invariant-loop-i l = l.line ≡ over (take l.i (bytes_of (drop l.from l.initial.line))) l.initial.line

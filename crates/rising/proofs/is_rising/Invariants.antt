-- `rising::is_rising` meets its contract. The invariant: the list rises where the elements passed rise and the
-- rest rises from the last of them on.
-- Assumes nothing.
use mathlib.Core.Path.{◌≡◌}
use mathlib.Core.Bool.{◌&&◌}
use lib.ListN.{take}
use Rattle.rising.specs.Rising.{rising}
use Rattle.rising.proofs.Steps.{rising_rest}
use Rattle.rising.proofs.is_rising.Given as goal

abbrev pub invariant-loop-i : goal.invariant-loop-i
invariant-loop-i l = rising (take l.used l.s) ≡ (l.rises && rising_rest l.s l.used l.i)

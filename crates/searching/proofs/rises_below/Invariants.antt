-- `searching::rises_below` meets its contract. The invariant: the list rises where no gap passed is as wide as half and
-- the rest rises from the last of the elements passed on.
-- Assumes nothing.
use mathlib.Core.Path.{◌≡◌}
use mathlib.Core.Bool.{◌&&◌}
use Prim.Native.Nat.{◌/◌}
use lib.Dec.{eqb}
use lib.ListN.{take}
use Rattle.rising.specs.Rising.{rising}
use Rattle.rising.proofs.Steps.{rising_rest, half}
use Rattle.searching.proofs.rises_below.Given as goal

abbrev pub invariant-loop-at : goal.invariant-loop-at
invariant-loop-at l = rising (take l.used l.s) ≡ (eqb (l.falls / half) 0 && rising_rest l.s l.used l.at)

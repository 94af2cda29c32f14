-- The part of a slice that starts at a place is the slice without what is before it.
-- Assumes nothing.
use Prim.Native.Nat.{◌-◌}
use native.Mathlib.Omega.{arith}
use lib.ListN.{length, drop, length-drop}
use lib.Seq.{take_all}
use Rattle.prelude.specs.Parts.{PartFrom}

pub part_from : PartFrom
part_from s k = take_all (length s - k) (drop k s) (omega (arith, length-drop k s))

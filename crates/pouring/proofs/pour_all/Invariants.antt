-- `pouring::pour_all` meets its contract: every walk over the carry leads to the same end, with fewer bytes of the chunk ahead.
-- Assumes nothing.
use mathlib.Core.Path.{◌≡◌}
use Prim.Native.Nat.{◌-◌}
use lib.ListN.{length, take, drop}
use Rattle.house.specs.House.{carry_length}
use Rattle.cutting.specs.Walk.{walked}
use Rattle.pouring.specs.Pouring.{pouring, ends_in, pour_core}
use Rattle.pouring.proofs.Pours.{Flowing}
use Rattle.pouring.proofs.pour_all.Given as goal

abbrev pub invariant-loop-keys : goal.invariant-loop-keys
invariant-loop-keys l = Flowing l.room
    (walked (pouring l.room) (ends_in l.initial.q.fate (pour_core l.initial.keys l.initial.counts l.initial.parts l.initial.q) (take l.initial.q.held l.initial.carry))
    (drop l.initial.q.at l.chunk)) (pour_core l.keys l.counts l.parts l.q) l.q l.carry l.chunk
    × (length l.carry ≡ carry_length) × (length l.keys ≡ length l.initial.keys)
    × (length l.counts ≡ length l.initial.counts) × (length l.guesses ≡ length l.initial.guesses) × (length l.parts ≡ length l.initial.parts)
    × (length l.carry ≡ length l.initial.carry)

abbrev pub decreases-loop-keys : goal.decreases-loop-keys
decreases-loop-keys l = length l.chunk - l.q.at

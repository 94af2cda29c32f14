-- `soundness::slots_told` meets its contract: what the slots passed tell, and those to come.
-- Assumes nothing.
use mathlib.Core.Path.{◌≡◌}
use mathlib.Core.Bool.{◌&&◌}
use Prim.Native.Nat.{◌+◌, ◌*◌, ◌≤◌}
use lib.ListN.{length, take, drop}
use Rattle.house.specs.House.{taken_of, slots_sound, promised_from}
use Rattle.soundness.proofs.slots_told.Given as goal

abbrev pub invariant-loop-i : goal.invariant-loop-i
invariant-loop-i l = record {
  sixteen : length l.slots ≡ 16;
  sound : slots_sound 0 l.slots (take l.used l.keys) (take l.used l.counts)
      ≡ (l.sound && slots_sound l.i (drop l.i l.slots) (take l.used l.keys) (take l.used l.counts));
  bounded : l.promised ≤ 4_294_967_295 * l.i;
  promised : promised_from 0 l.slots (take l.used l.keys)
      ≡ l.promised + promised_from l.i (drop l.i l.slots) (take l.used l.keys);
  cells : length l.taken ≡ 16;
  taken : take l.i l.taken ≡ take l.i (taken_of l.slots);
}

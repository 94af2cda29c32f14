-- `soundness::slots_told` meets its contract: what the slots passed tell, and those to come.
-- Assumes nothing.
use mathlib.Core.Path.{◌≡◌, sym, ◌∙◌}
use mathlib.Core.Bool.{and-true, and_assoc}
use Prim.Native.Nat.{◌+◌, ◌<◌}
use native.Mathlib.Omega.{arith}
use lib.ListN.{length, length-set, length-map, take, drop}
use lib.Seq.{take_all}
use Rattle.house.specs.declared.Slot.{Slot}
use Rattle.house.specs.House.{no_slot, taken_of, slots_sound, promised_from}
use Rattle.house.proofs.Laws.{slots_on, slots_done, promised_on, promised_none, taken_on}
use Rattle.soundness.proofs.slots_told.Goals as goal

pub loop-i-preserved : goal.loop-i-preserved
loop-i-preserved c =
    let a = c.args in
    let keys = take a.used a.keys.now in
    let counts = take a.used a.counts.now in
    let i = c.loop-i.i in
    let so = c.loop-i.invariant in
    let inside : i < length a.slots = omega (arith, so.sixteen) in record {
      sixteen = so.sixteen;
      sound = so.sound
          ∙ rw (slots_on a.slots keys counts i no_slot inside, ← c.slot_sound-sound.ensures)
          (sym
          (and_assoc c.loop-i.sound c.slot_sound-sound.result
          (slots_sound (i + 1) (drop (i + 1) a.slots) keys counts)));
      bounded = omega (arith, so.bounded);
      promised = omega (
        arith,
        so.promised,
        promised_on a.slots keys i no_slot inside,
        c.unfilled_of.ensures,
        c.from-promised.ensures,
      );
      cells = length-set c.loop-i.taken i _ ∙ so.cells;
      taken = taken_on a.slots c.loop-i.taken i no_slot inside (omega (arith, so.cells)) so.taken;
    }

pub returns : goal.returns
returns c =
    let a = c.args in
    let keys = take a.used a.keys.now in
    let counts = take a.used a.counts.now in
    let i = c.loop-i.i in
    let so = c.loop-i.invariant in
    let all : i ≡ 16 = omega arith in
    let sound : slots_sound 0 a.slots keys counts ≡ c.loop-i.sound =
    so.sound ∙ rw (slots_done a.slots keys counts i no_slot (omega (arith, so.sixteen))) (and-true c.loop-i.sound) in
    let promised : promised_from 0 a.slots keys ≡ c.loop-i.promised =
    omega (arith, so.promised, promised_none a.slots keys i no_slot (omega (arith, so.sixteen))) in
    let taken : c.loop-i.taken ≡ taken_of a.slots =
    sym (take_all 16 c.loop-i.taken (omega (arith, so.cells))) ∙ (rw all at so.taken)
    ∙ take_all 16 (taken_of a.slots) (omega (arith, so.sixteen, length-map a.slots (λ (s : Slot). s.taken))) in
    (c.then_some.ensures ∙ rw (sound, promised, taken), so.sixteen)

-- `soundness::soundness_lent` meets its contract: each return is one case of the definition of `sound`.
-- Assumes nothing.
use mathlib.Core.Path.{◌≡◌, refl, ap, sym, ◌∙◌}
use mathlib.Core.Bool.{Bool, true, false, ◌&&◌}
use mathlib.Core.List.{List}
use Prim.Native.Nat.{◌≤◌, ◌<◌}
use native.Mathlib.Omega.{arith}
use lib.Dec.{leb}
use lib.ListN.{length}
use borrow.Author.Tests.{le-leb, lt-leb}
use Rattle.std.specs.Prelude.{Some, None}
use Rattle.std.specs.Bool.{then_some}
use borrow.Author.Rules.{rules}
use Rattle.prelude.proofs.Both.{both_left, both_right}
use Rattle.rising.specs.Rising.{rising, all_below}
use Rattle.rows.specs.Rows.{past_slots, rows_fit, rows_open}
use Rattle.rows.proofs.Laws.{fit_below}
use Rattle.house.specs.declared.House.{House}
use Rattle.house.specs.House.{row_count, keys_of, counts_of, taken_of, rows_sound, slots_sound, house_of, Lent}
use Rattle.house.specs.House.{promised, free, sound}
use Rattle.house.proofs.Laws.{sound_many, sound_rows, sound_slots, sound_rooms, rows_not, rows_are}
use Rattle.house.proofs.Laws.{tells_unsound, tells_sound}
use Rattle.soundness.specs.declared.SlotsTold.{SlotsTold}
use Rattle.soundness.proofs.soundness_lent.Goals as goal
use Rattle.soundness.proofs.soundness_lent.Goals.{then-used-gt-ROWS-via-then-used-gt-ROWS, then-used-gt-ROWS-via-else-used-gt-ROWS+then-not-rows_rise}

-- ---- what an Option tells that is there where a test holds

module _ {T : Type 0} (v : T) where
  there : (b : Bool) (w : T) → then_some b v ≡ Some w → (b ≡ true) × (w ≡ v)
  there true w e = (refl, cc)
  there false w e = cc

  gone : (b : Bool) → then_some b v ≡ None → b ≡ false
  gone true e = cc
  gone false e = refl

-- ---- what is known, on the way, of the house that is tested

slots_there : (h : House) (told : SlotsTold)
    → then_some (slots_sound 0 h.slots (keys_of h) (counts_of h))
    (record { promised = promised h; taken = taken_of h.slots })
    ≡ Some told
    → (slots_sound 0 h.slots (keys_of h) (counts_of h) ≡ true) × (told.promised ≡ promised h)
    × (told.taken ≡ taken_of h.slots)
slots_there h told e =
    let both = there _ _ told e in
    (both.0, ap (λ (s : SlotsTold). s.promised) both.1, ap (λ (s : SlotsTold). s.taken) both.1)

module _ (h : House) (up : (rows_fit (keys_of h) (counts_of h) && rising (keys_of h)) ≡ true) where
  rises : rising (keys_of h) ≡ true
  rises = both_right (rows_fit (keys_of h) (counts_of h)) (rising (keys_of h)) up

  low : all_below past_slots (keys_of h) ≡ true
  low = fit_below (keys_of h) (counts_of h) (both_left (rows_fit (keys_of h) (counts_of h)) (rising (keys_of h)) up)

  lent : length h.keys ≡ row_count → length h.counts ≡ row_count → h.used ≤ row_count → Lent h.keys h.counts h.used
  lent long paired within = record { long = long; paired = paired; within = within; rises = rises }

  -- the last test of the rows tells of all of them
  rows_told : (opened : Bool) (taken : List Bool) → opened ≡ rows_open taken (keys_of h) → taken ≡ taken_of h.slots
      → opened ≡ rows_sound (taken_of h.slots) (keys_of h) (counts_of h)
  rows_told opened taken told same =
      told ∙ ap (λ (t : List Bool). rows_open t (keys_of h)) same ∙ sym (rows_are _ _ _ up)

  -- where all but the rooms are right, those decide
  rooms : (opened : Bool) (taken : List Bool) → opened ≡ rows_open taken (keys_of h) → taken ≡ taken_of h.slots
      → opened ≡ true → slots_sound 0 h.slots (keys_of h) (counts_of h) ≡ true → h.used ≤ row_count
      → sound h ≡ leb (promised h) (free h)
  rooms opened taken told same all slots within =
      sound_rooms h within (sym (rows_told opened taken told same) ∙ all) slots

pub returns-then-used-gt-ROWS : goal.returns-then-used-gt-ROWS
returns-then-used-gt-ROWS c =
    let h = house_of c.args.keys.now c.args.counts.now c.args.used c.args.slots in
    let unsound : sound h ≡ false =
    elim c.then-used-gt-ROWS.branch [
      | then-used-gt-ROWS-via-then-used-gt-ROWS w ↦ sound_many h w.if-used-gt-ROWS.true
      | then-used-gt-ROWS-via-else-used-gt-ROWS+then-not-rows_rise w ↦
          sound_rows h w.if-used-gt-ROWS.false
          (rows_not _ _ _ (sym w.rows_rise.ensures ∙ w.if-not-rows_rise.true))
    ] in
    (tells_unsound h unsound, search rules)

pub returns-in_err-told : goal.returns-in_err-told
returns-in_err-told c =
    let h = house_of c.args.keys.now c.args.counts.now c.args.used c.args.slots in
    let none = gone _ _ (sym c.slots_told.ensures.0 ∙ c.in_err-told.was) in (
      c.from_residual.ensures ∙ tells_unsound h (sound_slots h c.if-used-gt-ROWS.false none),
      search rules,
    )

pub rows_open-requires : goal.rows_open-requires
rows_open-requires c =
    let h = house_of c.args.keys.now c.args.counts.now c.args.used c.args.slots in
    let risen = rises h (sym c.rows_rise.ensures ∙ c.if-not-rows_rise.false) in
    let inside = low h (sym c.rows_rise.ensures ∙ c.if-not-rows_rise.false) in
    search rules

pub returns-then-not-rows_open : goal.returns-then-not-rows_open
returns-then-not-rows_open c =
    let h = house_of c.args.keys.now c.args.counts.now c.args.used c.args.slots in
    let up = sym c.rows_rise.ensures ∙ c.if-not-rows_rise.false in
    let slots = slots_there h c.in_ok-told.told (sym c.slots_told.ensures.0 ∙ c.in_ok-told.was) in
    let all = rows_told h up _ _ c.rows_open.ensures slots.2 in
    (tells_unsound h (sound_rows h c.if-used-gt-ROWS.false (sym all ∙ c.if-not-rows_open.true)), search rules)

pub returns-then-free-told : goal.returns-then-free-told
returns-then-free-told c =
    let h = house_of c.args.keys.now c.args.counts.now c.args.used c.args.slots in
    let up = sym c.rows_rise.ensures ∙ c.if-not-rows_rise.false in
    let slots = slots_there h c.in_ok-told.told (sym c.slots_told.ensures.0 ∙ c.in_ok-told.was) in
    let owed : c.in_ok-told.told.promised ≡ promised h = slots.1 in
    let much : free h < promised h = omega (arith, owed) in
    let decides =
    rooms h up _ _ c.rows_open.ensures slots.2 c.if-not-rows_open.false slots.0
    c.if-used-gt-ROWS.false in
    (tells_unsound h (decides ∙ lt-leb (promised h) (free h) much), search rules)

pub returns : goal.returns
returns c =
    let h = house_of c.args.keys.now c.args.counts.now c.args.used c.args.slots in
    let up = sym c.rows_rise.ensures ∙ c.if-not-rows_rise.false in
    let slots = slots_there h c.in_ok-told.told (sym c.slots_told.ensures.0 ∙ c.in_ok-told.was) in
    let owed : c.in_ok-told.told.promised ≡ promised h = slots.1 in
    let few : promised h ≤ free h = omega (arith, owed) in
    let decides =
    rooms h up _ _ c.rows_open.ensures slots.2 c.if-not-rows_open.false slots.0
    c.if-used-gt-ROWS.false in
    (tells_sound h _ (decides ∙ le-leb (promised h) (free h) few) owed, search rules)

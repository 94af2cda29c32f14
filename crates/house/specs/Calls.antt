-- The calls. Document 01, "The house, its slots and its rows", Calls, and "Refusal numbers", Order of checks.
--
--   open_slot, deliver, close_slot, figures_of   what each call answers, and the house after it: its checks, in order, and
--                                             what it does where all hold
--   open_checks, slot_checks                    the checks of Open, and of every call that asks for an open slot
--   settled_to                                 what a verdict on a record to a slot does
--   Settleable                                what is known where it is settled
-- Assumes nothing.
use Rattle.std.specs.Prelude.{ℕ, ◌-◌, ◌<◌, ◌≡◌, true, not, List, [], ◌∷◌, leb, ltb, length, get_or, set}
use Rattle.prelude.specs.Checks.{Check, ◌else◌, checked}
use Rattle.answers.specs.declared.Answer.{Answer}
use Rattle.answers.specs.declared.Answer.TheVariants.{Done, NoSuchSlot, SlotTaken, SlotClosed, NoRoom, NotSound}
use Rattle.answers.specs.declared.Answer.TheVariants.{FloorTooHigh}
use Rattle.rows.specs.Rows.{slot_count, slot_dropped}
use Rattle.session.specs.declared.Verdict.{Verdict}
use Rattle.settling.specs.Settling.{Settles}
use Rattle.house.specs.declared.Slot.{Slot}
use Rattle.house.specs.declared.House.{House}
use Rattle.house.specs.declared.Room.{Room}
use Rattle.house.specs.declared.Answered.{Answered}
use Rattle.house.specs.declared.Figures.{Figures}
use Rattle.house.specs.House.{row_count, no_slot, closed_slot, opened_slot, keys_of, free, unfilled}
use Rattle.house.specs.House.{promised_from, promised, sound}
use Rattle.house.specs.Deliver.{Core, Outcome, core, settled, delivered}

abbrev pub slot_at : House → ℕ → Slot
slot_at h slot = get_or h.slots slot no_slot

abbrev pub with_slot : House → ℕ → Slot → House
with_slot h slot s =
    record { keys = h.keys; counts = h.counts; used = h.used; slots = set h.slots slot s }

abbrev pub answered : Answer → House → Answered
answered a h = record { answer = a; house = h }

-- a refusal returns its number only, and changes no house
abbrev pub refusal : House → Answer → Answered
refusal h a = answered a h

-- Order of checks, Open: 15, 1, 16, 2, 13; granted exactly if floor is at most free less promised
abbrev pub open_checks : House → ℕ → ℕ → List (Check Answer)
open_checks h slot floor =
    (sound h else NotSound)
    ∷ (ltb slot slot_count else NoSuchSlot)
    ∷ (leb floor row_count else FloorTooHigh)
    ∷ (not (slot_at h slot).taken else SlotTaken)
    ∷ (leb floor (free h - promised h) else NoRoom)
    ∷ []

unfoldable pub open_slot : House → ℕ → ℕ → Answered
open_slot h slot floor =
    checked (refusal h) (open_checks h slot floor) (answered Done (with_slot h slot (opened_slot floor)))

-- Close: every row returns to free, at any place in the stream
abbrev pub closed : House → ℕ → House
closed h slot =
    let rows = slot_dropped h.keys h.counts h.used slot in
    record {
      keys = rows.keys;
      counts = rows.counts;
      used = rows.used;
      slots = set h.slots slot closed_slot;
    }

-- Order of checks: 15, 1, 2. Close has these alone, Deliver before the record is judged, Report before its room is
abbrev pub slot_checks : House → ℕ → List (Check Answer)
slot_checks h slot =
    (sound h else NotSound)
    ∷ (ltb slot slot_count else NoSuchSlot)
    ∷ ((slot_at h slot).taken else SlotClosed)
    ∷ []

unfoldable pub close_slot : House → ℕ → Answered
close_slot h slot = checked (refusal h) (slot_checks h slot) (answered Done (closed h slot))

-- what a slot sees of a house with these slots and rows: its floor, and the rows promised to all others
abbrev pub room_in : List Slot → List ℕ → ℕ → Room
room_in slots keys slot =
    let s = get_or slots slot no_slot in
    record { slot = slot; floor = s.floor; others = promised_from 0 slots keys - unfilled slot s keys }

abbrev pub room_of : House → ℕ → Room
room_of h slot = room_in h.slots (keys_of h) slot

-- what a delivery to a slot may change
abbrev pub core_of : House → ℕ → Core
core_of h slot =
    let s = (slot_at h slot).session in
    core h.keys h.counts h.used s.standing s.parts

-- what a record does to a slot's session and to the rows
abbrev pub delivered_to : House → ℕ → List ℕ → Outcome
delivered_to h slot rec = delivered (room_of h slot) (core_of h slot) rec

-- .. and what a verdict on one does
abbrev pub settled_to : House → ℕ → Verdict → Outcome
settled_to h slot v = settled (room_of h slot) (core_of h slot) v

-- the house with what records made of a slot's session and of the rows; bytes that are held are no business of theirs
abbrev pub laid : House → ℕ → Core → House
laid h slot c =
    let s = slot_at h slot in
    record {
      keys = c.keys;
      counts = c.counts;
      used = c.used;
      slots =
          set h.slots slot
          (record {
            taken = s.taken;
            floor = s.floor;
            session = record { standing = c.standing; parts = c.parts };
            held = s.held;
          });
    }

abbrev pub with_outcome : House → ℕ → Outcome → Answered
with_outcome h slot o = answered o.answer (laid h slot o.core)

-- what is known of a house and of an open slot of it when a verdict on a record to it is settled
pub record Settleable (h : House) (owed slot : ℕ) (s : Slot) (v : Verdict) : Type 0 where
  pub sound : sound h ≡ true
  pub inside : slot < slot_count
  pub is : s ≡ slot_at h slot
  pub taken : s.taken ≡ true
  pub slots : length h.slots ≡ slot_count
  pub owes : owed ≡ promised h
  pub fits : Settles s.session.standing v

-- Order of checks, Deliver: 15, 1, 2, then the record
unfoldable pub deliver : House → ℕ → List ℕ → Answered
deliver h slot rec = checked (refusal h) (slot_checks h slot) (with_outcome h slot (delivered_to h slot rec))

-- Figures: 15; free and promised
abbrev pub no_figures : Answer → Figures
no_figures a = record { answer = a; free = 0; promised = 0 }

unfoldable pub figures_of : House → Figures
figures_of h =
    checked no_figures ((sound h else NotSound) ∷ []) (record { answer = Done; free = free h; promised = promised h })

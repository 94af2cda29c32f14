-- What is shown of a house: statements only. Each is proved in proofs/Keeping.antt, in proofs/Lending.antt those of
-- Lending, in proofs/Laying.antt those of a core laid back, in proofs/Feeding.antt those of bytes held, or in
-- proofs/Bare.antt those of a bare house, under its name in small letters.
-- Document 01, "The house, its slots and its rows": "Every house reached from a fresh one is sound".
--   Shaped    what its type says of a house: how long its arrays are
--   Lending   what a loop of deliveries over lent rows keeps
--   bare      a house with no byte held in any slot
-- Assumes nothing.
use Rattle.std.specs.Prelude.{◌≡◌, true, List, [], ◌∷◌, ◌++◌, map, ℕ, ◌+◌, ◌≤◌, ◌<◌, eqb, ltb, length, take}
use Rattle.prelude.specs.Checks.{◌else◌, number_by}
use Rattle.numbers.specs.Laws.{Bytes}
use Rattle.answers.specs.declared.Answer.TheVariants.{Done}
use Rattle.answers.specs.Numbers.{number_of}
use Rattle.rising.specs.Rising.{all_below}
use Rattle.rows.specs.Rows.{slot_count, held_by}
use Rattle.session.specs.declared.Change.{Change}
use Rattle.session.specs.declared.Verdict.TheVariants.{Wanted}
use Rattle.session.specs.Session as session
use Rattle.session.specs.Session.{cell_count}
use Rattle.judging.specs.Judge.{verdict_on}
use Rattle.cutting.specs.Needed.{needed}
use Rattle.cutting.specs.Walk.{Waits, joined, accepted}
use Rattle.house.specs.declared.Slot.{Slot}
use Rattle.house.specs.declared.House.{House}
use Rattle.house.specs.declared.Room.{Room}
use Rattle.house.specs.House.{row_count, carry_length, fresh, keys_of, sound}
use Rattle.house.specs.Deliver.{Core, session_of, delivered, past_counts, LentRows, LentCore}
use Rattle.house.specs.Calls.{slot_at, answered, open_slot, close_slot, room_of, laid, deliver}
use Rattle.house.specs.Feeding.{standing_at, hearing, held_in, with_held, Feed, fed_to, feed, end_feed}
use Rattle.house.specs.History.{Call, reply, after, reached, history, AllSent}

pub record Shaped (h : House) : Type 0 where
  pub keys : length h.keys ≡ row_count
  pub counts : length h.counts ≡ row_count
  pub slots : length h.slots ≡ slot_count
  pub parts : (i : ℕ) → i < slot_count → length (slot_at h i).session.parts ≡ cell_count

-- a fresh house is sound
abbrev pub FreshSound : Type 0
FreshSound = sound fresh ≡ true

-- .. and every call keeps a house so, whatever it is asked
abbrev pub OpenKeeps : Type 0
OpenKeeps = (h : House) (slot floor : ℕ) → Shaped h → sound h ≡ true → sound (open_slot h slot floor).house ≡ true

abbrev pub CloseKeeps : Type 0
CloseKeeps = (h : House) (slot : ℕ) → Shaped h → sound h ≡ true → sound (close_slot h slot).house ≡ true

abbrev pub DeliverKeeps : Type 0
DeliverKeeps = (h : House) (slot : ℕ) (rec : List ℕ) → Bytes rec → Shaped h → sound h ≡ true
    → sound (deliver h slot rec).house ≡ true

-- a session below its floor is not refused for room: a part result that passes all other checks is accepted
abbrev pub BelowFloor : Type 0
BelowFloor = (h : House) (slot : ℕ) (rec : List ℕ) (change : Change) (key : ℕ) → sound h ≡ true → slot < slot_count
    → (slot_at h slot).taken ≡ true → verdict_on (slot_at h slot).session rec ≡ Wanted change key
    → held_by slot (keys_of h) < (slot_at h slot).floor → (deliver h slot rec).answer ≡ Done

-- ---- any sequence of calls

-- every house reached from a fresh one is sound
abbrev pub ReachedSound : Type 0
ReachedSound = (calls : List Call) → AllSent calls → sound (reached fresh calls) ≡ true

-- ---- bytes held

-- #102: a record reads and changes no count of bytes held: delivered to a slot that holds others, it is answered the
-- same and makes the same house, but for that count
abbrev pub HeldFree : Type 0
HeldFree = (h : House) (slot held : ℕ) (rec : List ℕ) → Shaped h → sound h ≡ true → slot < slot_count
    → (slot_at h slot).taken ≡ true → held ≤ carry_length
    → deliver (with_held h slot held) slot rec
    ≡ answered (deliver h slot rec).answer (with_held (deliver h slot rec).house slot held)

-- .. and so is a record delivered to another slot
abbrev pub HeldFreeElse : Type 0
HeldFreeElse = (h : House) (slot held i : ℕ) (rec : List ℕ) → Shaped h → sound h ≡ true → slot < slot_count
    → (slot_at h slot).taken ≡ true → held ≤ carry_length → (i ≡ slot → ⊥)
    → deliver (with_held h slot held) i rec
    ≡ answered (deliver h i rec).answer (with_held (deliver h i rec).house slot held)

-- .. and an open slot may hold what a carry has room for
abbrev pub WithheldSound : Type 0
WithheldSound = (h : House) (slot held : ℕ) → Shaped h → sound h ≡ true → slot < slot_count
    → (slot_at h slot).taken ≡ true → held ≤ carry_length → sound (with_held h slot held) ≡ true

-- no call of document 01 makes a slot hold more bytes
abbrev pub HeldLess : Type 0
HeldLess = (h : House) (c : Call) (slot : ℕ) → (slot_at (after h c) slot).held ≤ (slot_at h slot).held

-- what a feed to an open slot leaves: a house that is sound, the slot open, as many bytes held as it says and no more
-- than its carry has, and no other slot with more than it held
pub record FedSound (h : House) (slot : ℕ) (f : Feed) : Type 0 where
  pub shaped : Shaped f.house
  pub sound : sound f.house ≡ true
  pub taken : (slot_at f.house slot).taken ≡ true
  pub count : (slot_at f.house slot).held ≡ length f.held
  pub short : length f.held ≤ carry_length
  pub bytes : Bytes f.held
  pub less : (i : ℕ) → (i ≡ slot → ⊥) → (slot_at f.house i).held ≤ (slot_at h i).held

abbrev pub FedKeeps : Type 0
FedKeeps = (h : House) (slot : ℕ) (held chunk : List ℕ) → Shaped h → sound h ≡ true → slot < slot_count
    → (slot_at h slot).taken ≡ true → Bytes held → Bytes chunk → length held ≤ carry_length
    → FedSound h slot (fed_to h slot held chunk)

-- all of a chunk is taken, where it is done
abbrev pub FedAll : Type 0
FedAll = (h : House) (slot : ℕ) (held chunk : List ℕ) → (fed_to h slot held chunk).answer ≡ Done
    → (fed_to h slot held chunk).taken ≡ length chunk

-- every byte held or taken is one of a record accepted, or held after
abbrev pub FedTaken : Type 0
FedTaken = (h : House) (slot : ℕ) (held chunk : List ℕ)
    → held ++ take (fed_to h slot held chunk).taken chunk
    ≡ joined (accepted (hearing slot) (Waits h []) (held ++ chunk)) ++ (fed_to h slot held chunk).held

-- none past a refused record: where any is taken, what is held is that record and no more
abbrev pub FedPast : Type 0
FedPast = (h : House) (slot : ℕ) (held chunk : List ℕ) → Shaped h → sound h ≡ true → slot < slot_count
    → (slot_at h slot).taken ≡ true → Bytes held → Bytes chunk → length held ≤ carry_length
    → let f = fed_to h slot held chunk in
    (f.answer ≡ Done → ⊥) → 0 < f.taken → length f.held ≡ needed (standing_at slot f.house) f.held

-- the number of a feed is that of the first check that fails: 15, 1, 2, 17 (after 2), then that of the refused record
abbrev pub FeedNumber : Type 0
FeedNumber = (h : House) (slot : ℕ) (carry chunk : List ℕ)
    → let number = number_of (fed_to h slot (held_in h slot carry) chunk).answer in
    number_of (feed h slot carry chunk).answer
    ≡ number_by
    ((sound h else 15)
    ∷ (ltb slot slot_count else 1)
    ∷ ((slot_at h slot).taken else 2)
    ∷ (eqb (length carry) carry_length else 17)
    ∷ (eqb number 0 else number)
    ∷ [])

-- the end of feeding is 3 while bytes are held, else 0
abbrev pub EndNumber : Type 0
EndNumber = (h : House) (slot : ℕ)
    → number_of (end_feed h slot)
    ≡ number_by
    ((sound h else 15)
    ∷ (ltb slot slot_count else 1)
    ∷ ((slot_at h slot).taken else 2)
    ∷ (eqb (slot_at h slot).held 0 else 3)
    ∷ [])

-- ---- one delivery after another over lent rows

-- what a loop of deliveries to one slot knows of what it lends; `most` is above every count, and one record raises it
-- by one
pub record Lending (room : Room) (c : Core) (most : ℕ) : Type 0 where
  pub rows : LentRows room c.keys c.counts c.used
  pub session : session.sound (session_of c) ≡ true
  pub cells : length c.parts ≡ cell_count
  pub below : all_below most (take c.used c.counts) ≡ true

-- it is all that a delivery asks for
abbrev pub LendingCore : Type 0
LendingCore = (room : Room) (c : Core) (most : ℕ) → Lending room c most
    → LentCore room c.keys c.counts c.used c.standing c.parts

-- .. and a delivery keeps it, the floor and what all others are promised as they were
abbrev pub LendingKept : Type 0
LendingKept = (room : Room) (c : Core) (most : ℕ) (rec : List ℕ) → Bytes rec → 1 ≤ most → most < past_counts
    → Lending room c most
    → Lending room (delivered room c rec).core (most + 1)

-- ---- records to one slot, one after another, over what it lends of its house

-- what stands in the slot whose core is laid back
abbrev pub LaidSlot : Type 0
LaidSlot = (h : House) (slot : ℕ) (c : Core) → length h.slots ≡ slot_count → slot < slot_count
    → slot_at (laid h slot c) slot
    ≡ record {
      taken = (slot_at h slot).taken;
      floor = (slot_at h slot).floor;
      session = record { standing = c.standing; parts = c.parts };
      held = (slot_at h slot).held;
    }

-- a delivery leaves the slot's room as it was: its floor, and what all others are promised
abbrev pub DeliverRoom : Type 0
DeliverRoom = (h : House) (slot : ℕ) (rec : List ℕ) → Bytes rec → Shaped h → sound h ≡ true → slot < slot_count
    → (slot_at h slot).taken ≡ true → room_of (deliver h slot rec).house slot ≡ room_of h slot

-- so a house whose slot's core was changed by such records is delivered to as the core is
pub record Laid (h : House) (slot : ℕ) (c : Core) : Type 0 where
  pub shape : Shaped (laid h slot c)
  pub fine : sound (laid h slot c) ≡ true
  pub sees : room_of (laid h slot c) slot ≡ room_of h slot

abbrev pub LaidDelivers : Type 0
LaidDelivers = (h : House) (slot : ℕ) (c : Core) (rec : List ℕ) → Bytes rec → length h.slots ≡ slot_count
    → slot < slot_count → (slot_at h slot).taken ≡ true → Laid h slot c
    → let o = delivered (room_of h slot) c rec in
    (deliver (laid h slot c) slot rec ≡ answered o.answer (laid h slot o.core)) × Laid h slot o.core

-- ---- #102: what is held is no business of any other call

-- a house with no byte held in any slot
abbrev pub bare_slot : Slot → Slot
bare_slot s = record { taken = s.taken; floor = s.floor; session = s.session; held = 0 }

abbrev pub bare : House → House
bare h = record { keys = h.keys; counts = h.counts; used = h.used; slots = map bare_slot h.slots }

abbrev pub BareFresh : Type 0
BareFresh = bare fresh ≡ fresh

abbrev pub BareShaped : Type 0
BareShaped = (h : House) → Shaped h → Shaped (bare h)

abbrev pub BareSound : Type 0
BareSound = (h : House) → sound h ≡ true → sound (bare h) ≡ true

-- only soundness looks at how many bytes are held, so each of the five calls is answered the same ..
abbrev pub BareReply : Type 0
BareReply = (h : House) (c : Call) → sound h ≡ true → reply (bare h) c ≡ reply h c

-- .. and makes the same house, but for what is held
abbrev pub BareAfter : Type 0
BareAfter = (h : House) (c : Call) → sound h ≡ true → after (bare h) c ≡ bare (after h c)

abbrev pub BareReached : Type 0
BareReached = (h : House) (cs : List Call) → AllSent cs → Shaped h → sound h ≡ true
    → reached (bare h) cs ≡ bare (reached h cs)

abbrev pub BareHistory : Type 0
BareHistory = (h : House) (cs : List Call) → AllSent cs → Shaped h → sound h ≡ true
    → history (bare h) cs ≡ history h cs

abbrev pub BareHeld : Type 0
BareHeld = (h : House) (slot n : ℕ) → bare (with_held h slot n) ≡ bare h

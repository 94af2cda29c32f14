-- The house, its slots and its rows. Document 01, the section of that name.
--
--   closed_slot, opened_slot, fresh   a slot that holds nothing, one just opened, a house of the first alone
--   keys_of, counts_of                the rows in use
--   free, promised                  how many rows no session holds, and how many are still owed
--   conditions, sound, soundness    document 01's conditions on a sound house, whether all hold, and what a test of
--                                   them tells
-- Assumes nothing.
use Rattle.std.specs.Prelude.{ℕ, suc, ◌+◌, ◌-◌, ◌≤◌, ◌≡◌, Bool, true, false, cond, ◌&&◌, List, [], ◌∷◌, map, leb, eqb, length, take, replicate, Option, Some, None}
use Rattle.rising.specs.Rising.{rising}
use Rattle.prelude.specs.All.{all}
use Rattle.rows.specs.Rows.{slot_count, held_by, sum_by, rows_right}
use Rattle.cutting.specs.Needed.{longest}
use Rattle.session.specs.Session as session
use Rattle.session.specs.Session.{begun, nothing_yet, most_results}
use Rattle.house.specs.declared.Slot.{Slot}
use Rattle.house.specs.declared.House.{House}

-- a house has 16 slots and 1,024 rows; a floor is 0 to 1,024
abbrev pub row_count : ℕ
row_count = 1024

-- #102: a carry has 65,539 bytes, as the longest record
abbrev pub carry_length : ℕ
carry_length = longest

-- a closed slot holds nothing
abbrev pub closed_slot : Slot
closed_slot = record { taken = false; floor = 0; session = begun; held = 0 }

-- a slot opened starts anew, and no byte is held for it
abbrev pub opened_slot : ℕ → Slot
opened_slot floor = record { taken = true; floor = floor; session = begun; held = 0 }

-- what stands past the last slot
abbrev pub no_slot : Slot
no_slot =
    record {
      taken = false;
      floor = 0;
      session = record { standing = begun.standing; parts = [] };
      held = 0;
    }

-- a fresh house has no open slot and 1,024 free rows
abbrev pub fresh : House
fresh =
    record {
      keys = replicate row_count 0;
      counts = replicate row_count 0;
      used = 0;
      slots = replicate slot_count closed_slot;
    }

abbrev pub keys_of : House → List ℕ
keys_of h = take h.used h.keys

abbrev pub counts_of : House → List ℕ
counts_of h = take h.used h.counts

-- Free is 1,024 less all rows held
abbrev pub free : House → ℕ
free h = row_count - h.used

-- Promised is the sum, over open slots, of floor less rows held where that is above zero: `◌-◌` stops at 0
unfoldable pub unfilled : ℕ → Slot → List ℕ → ℕ
unfilled i s keys = cond s.taken (s.floor - held_by i keys) 0

unfoldable pub promised_from : ℕ → List Slot → List ℕ → ℕ
promised_from i [] keys = 0
promised_from i (s ∷ ss) keys = unfilled i s keys + promised_from (suc i) ss keys

abbrev pub promised : House → ℕ
promised h = promised_from 0 h.slots (keys_of h)

-- ---- a sound house

abbrev pub taken_of : List Slot → List Bool
taken_of slots = map (λ (s : Slot). s.taken) slots

-- each row is free or held by one open slot, keys differ: they rise, and each begins with its slot
unfoldable pub rows_sound : List Bool → List ℕ → List ℕ → Bool
rows_sound taken keys counts = rising keys && rows_right taken keys counts

-- an open slot: its floor at most 1,024, no more bytes held than its carry has (#102: at any place of the stream), its
-- session sound, its accepted PRRs at most 4,294,967,295 and the sum of its counts
abbrev pub open_conditions : ℕ → Slot → List ℕ → List ℕ → List Bool
open_conditions i s keys counts =
    leb s.floor row_count
    ∷ leb s.held carry_length
    ∷ session.sound s.session
    ∷ leb s.session.standing.results most_results
    ∷ eqb (sum_by i keys counts) s.session.standing.results
    ∷ []

-- a closed slot holds nothing
abbrev pub closed_conditions : Slot → List Bool
closed_conditions s = eqb s.floor 0 ∷ eqb s.held 0 ∷ nothing_yet s.session.standing ∷ []

unfoldable pub slot_sound : ℕ → Slot → List ℕ → List ℕ → Bool
slot_sound i s keys counts = all (cond s.taken (open_conditions i s keys counts) (closed_conditions s))

unfoldable pub slots_sound : ℕ → List Slot → List ℕ → List ℕ → Bool
slots_sound i [] keys counts = true
slots_sound i (s ∷ ss) keys counts = slot_sound i s keys counts && slots_sound (suc i) ss keys counts

-- .. and free is at least promised
abbrev pub conditions : House → List Bool
conditions h =
    leb h.used row_count
    ∷ rows_sound (taken_of h.slots) (keys_of h) (counts_of h)
    ∷ slots_sound 0 h.slots (keys_of h) (counts_of h)
    ∷ leb (promised h) (free h)
    ∷ []

unfoldable pub sound : House → Bool
sound h = all (conditions h)

-- what a test of it tells: the rows promised, where it is sound
abbrev pub unsound : Option ℕ
unsound = None

abbrev pub soundness : House → Option ℕ
soundness h = cond (sound h) (Some (promised h)) unsound

-- ---- what is lent

-- the keys of a sound house
pub record LentKeys (keys : List ℕ) (used : ℕ) : Type 0 where
  pub long : length keys ≡ row_count
  pub within : used ≤ row_count
  pub rises : rising (take used keys) ≡ true

-- .. and its counts
pub record Lent (keys counts : List ℕ) (used : ℕ) : Type 0 where
  pub long : length keys ≡ row_count
  pub paired : length counts ≡ row_count
  pub within : used ≤ row_count
  pub rises : rising (take used keys) ≡ true

-- a house whose rows are lent and whose slots are handed in
abbrev pub house_of : List ℕ → List ℕ → ℕ → List Slot → House
house_of keys counts used slots = record { keys = keys; counts = counts; used = used; slots = slots }

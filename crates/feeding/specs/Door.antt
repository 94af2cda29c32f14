-- What is known where a chunk is fed to a house by value, and what a feed that is refused there leaves alone. Document 02,
-- #102.
--
--   Cells      the cells of every slot
--   Feedable   a sound house, an open slot of it, and its carry
--   Unfed      the carry of a feed that is refused before a record is judged
-- Assumes nothing.
use Rattle.std.specs.Prelude.{◌≡◌, true, false, List, ℕ, ◌<◌, length, get_or}
use Rattle.prelude.specs.All.{all}
use Rattle.prelude.specs.Checks.{tests}
use Rattle.session.specs.Session.{cell_count}
use Rattle.rows.specs.Rows.{slot_count}
use Rattle.house.specs.declared.House.{House}
use Rattle.house.specs.declared.Slot.{Slot}
use Rattle.house.specs.House.{carry_length, no_slot, promised, sound}
use Rattle.house.specs.Calls.{slot_at}
use Rattle.house.specs.Feeding.{feed_checks}

-- every slot has its cells for open parts, as its type says
abbrev pub Cells : List Slot → Type 0
Cells slots = (i : ℕ) → i < slot_count → length (get_or slots i no_slot).session.parts ≡ cell_count

-- what is known of a house and of an open slot of it when a chunk is fed to it
pub record Feedable (h : House) (owed slot : ℕ) (s : Slot) (carry : List ℕ) : Type 0 where
  pub fine : sound h ≡ true
  pub inside : slot < slot_count
  pub is : s ≡ slot_at h slot
  pub taken : s.taken ≡ true
  pub slots : length h.slots ≡ slot_count
  pub owes : owed ≡ promised h
  pub cells : Cells h.slots
  pub long : length carry ≡ carry_length

-- a feed that is refused before a record is judged leaves every byte of the carry as it was
abbrev pub Unfed : House → ℕ → List ℕ → List ℕ → Type 0
Unfed h slot carry new = all (tests (feed_checks h slot (length carry))) ≡ false → new ≡ carry

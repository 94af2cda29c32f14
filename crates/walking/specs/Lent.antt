-- What is lent to a walk, and what it comes to.
--
--   Lendable   what is lent may be lent to a delivery, however far the walk goes
--   Walkable   what a walk asks for;  Arrived  what it comes to
-- Assumes nothing.
use Rattle.std.specs.Prelude.{◌≡◌, Bool, true, false, cond, List, [], ℕ, ◌+◌, ◌-◌, ◌≤◌, ◌<◌, length, Option, None}
use Rattle.numbers.specs.Laws.{Bytes}
use Rattle.house.specs.declared.Room.{Room}
use Rattle.house.specs.Deliver.{LentCore}
use Rattle.cutting.specs.Needed.{first_length}
use Rattle.cutting.specs.Walk.{Walked, Waits, walked, state_of}
use Rattle.walking.specs.declared.Stop.{Stop}
use Rattle.walking.specs.declared.Stage.{Stage}
use Rattle.walking.specs.Walking.{Progress, delivering, stage_progress, rest, ends_by}

-- the most records that there can be: fewer than 2^64
abbrev pub past_count : ℕ
past_count = 18_446_744_073_709_551_615

abbrev pub LentTo : Room → Progress → Type 0
LentTo room p =
    LentCore room p.core.keys p.core.counts p.core.used p.core.standing p.core.parts

-- a caller shows it of its house, which every delivery keeps sound
abbrev pub Lendable : Room → ℕ → Progress → Type 0
Lendable room most p = (bytes : List ℕ) → Bytes bytes
    → LentTo room (state_of (walked (delivering room most) (Waits p []) bytes))

pub record Walkable (room : Room) (most : ℕ) (keys counts parts : List ℕ) (s : Stage) (bytes : List ℕ) : Type 0 where
  pub takes : first_length ≤ most
  pub lendable : Lendable room most (stage_progress keys counts parts s)
  pub within : s.at ≤ length bytes
  pub countable : s.accepted + (length bytes - s.at) ≤ past_count

-- the bytes from a stage on are walked to the end; those left are of a record that is not whole, or of one that stopped
-- the walk. What was lent may be lent to a further walk.
pub record Arrived (room : Room) (most : ℕ) (keys counts parts : List ℕ) (s : Stage) (ks cs ps : List ℕ) (r : Stage)
    (bytes : List ℕ) : Type 0 where
  pub is : ends_by r.fate most (stage_progress ks cs ps r) (rest r bytes)
      ≡ walked (delivering room most) (Waits (stage_progress keys counts parts s) []) (rest s bytes)
  pub lends : Lendable room most (stage_progress ks cs ps r)
  pub within : r.at ≤ length bytes
  pub few : r.fate ≡ None → length (rest r bytes) < most
  pub fits : r.accepted + (length bytes - r.at) ≤ s.accepted + (length bytes - s.at)

-- ---- step after step

-- where a stage leads: if there is more to look at, to the end of a walk over the bytes left
abbrev pub leads_by : Bool → Room → ℕ → Option Stop → Progress → List ℕ → Walked Progress Stop
leads_by true room most fate p bytes = walked (delivering room most) (Waits p []) bytes
leads_by false room most fate p bytes = ends_by fate most p bytes

abbrev pub leads : Room → ℕ → List ℕ → List ℕ → List ℕ → Stage → List ℕ → Walked Progress Stop
leads room most keys counts parts s bytes =
    leads_by s.more room most s.fate (stage_progress keys counts parts s) (rest s bytes)

-- bytes ahead, and one more while there is more to look at
abbrev pub ahead : Stage → List ℕ → ℕ
ahead s bytes = cond s.more 1 0 + (length bytes - s.at)

-- from one stage of a walk to a later one
pub record Onward (room : Room) (most : ℕ) (keys counts parts : List ℕ) (s : Stage) (ks cs ps : List ℕ) (r : Stage)
    (bytes : List ℕ) : Type 0 where
  pub kept : Walkable room most ks cs ps r bytes
  pub same : leads room most ks cs ps r bytes ≡ leads room most keys counts parts s bytes
  pub few : r.more ≡ false → r.fate ≡ None → length (rest r bytes) < most
  pub fits : r.accepted + (length bytes - r.at) ≤ s.accepted + (length bytes - s.at)

pub record Stepped (room : Room) (most : ℕ) (keys counts parts : List ℕ) (s : Stage) (ks cs ps : List ℕ) (r : Stage)
    (bytes : List ℕ) : Type 0 where
  pub onward : Onward room most keys counts parts s ks cs ps r bytes
  pub nearer : ahead r bytes < ahead s bytes

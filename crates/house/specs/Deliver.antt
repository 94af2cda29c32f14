-- What a record delivered to an open slot does. Document 01, Calls, Deliver, and the grant rules of "The house, its
-- slots and its rows".
--
--   granted     whether a key gets a row, or needs none
--   Core        all that such a record may change
--   settled     the answer and the core after a verdict
--   delivered   .. and after a record
--   guessed     what is noted of where a row stood, for the next search
-- Assumes nothing.
use Rattle.std.specs.Prelude.{◌≡◌, Bool, true, cond, ◌||◌, List, ℕ, ◌+◌, ◌-◌, ◌*◌, ◌/◌, ◌%◌, ◌≤◌, ◌<◌, ltb, length, take, set, Option, Some, None}
use Rattle.answers.specs.declared.Answer.{Answer}
use Rattle.answers.specs.declared.Answer.TheVariants as answer
use Rattle.answers.specs.declared.Answer.TheVariants.{Done}
use Rattle.rising.specs.Rising.{rising, rank, held, all_below}
use Rattle.rows.specs.Rows.{row_key, held_by, counted}
use Rattle.session.specs.declared.Standing.{Standing}
use Rattle.session.specs.declared.Verdict.{Verdict}
use Rattle.session.specs.declared.Verdict.TheVariants.{Refused, Taken, Wanted}
use Rattle.session.specs.declared.Session.{Session}
use Rattle.session.specs.declared.Change.{Change}
use Rattle.session.specs.Session.{LentParts}
use Rattle.settling.specs.Settling.{lent_session, changed}
use Rattle.judging.specs.Judge.{judge}
use Rattle.house.specs.declared.Room.{Room}
use Rattle.house.specs.House.{row_count, Lent}

-- a PRR's key that its session holds needs no row; a new one gets one exactly if the session holds fewer rows than
-- its floor, or free is greater than promised: what the others are promised and what is left of this floor
unfoldable pub granted : Room → List ℕ → ℕ → Bool
granted room keys key =
    held key keys
    || (ltb (held_by room.slot keys) room.floor
    || ltb (room.others + (room.floor - held_by room.slot keys)) (row_count - length keys))

pub record Core : Type 0 where
  pub keys : List ℕ
  pub counts : List ℕ
  pub used : ℕ
  pub standing : Standing
  pub parts : List ℕ

pub record Outcome : Type 0 where
  pub answer : Answer
  pub core : Core

abbrev pub outcome : Answer → List ℕ → List ℕ → ℕ → Standing → List ℕ → Outcome
outcome a keys counts used st parts =
    record {
      answer = a;
      core = record { keys = keys; counts = counts; used = used; standing = st; parts = parts };
    }

abbrev pub core : List ℕ → List ℕ → ℕ → Standing → List ℕ → Core
core keys counts used st parts =
    record { keys = keys; counts = counts; used = used; standing = st; parts = parts }

-- a core's session, and an outcome with a whole session
abbrev pub session_of : Core → Session
session_of c = lent_session c.standing c.parts

abbrev pub told : Answer → List ℕ → List ℕ → ℕ → Session → Outcome
told a keys counts used s = outcome a keys counts used s.standing s.parts

-- the rows, and whether a key got one of them
pub record Rowed : Type 0 where
  pub keys : List ℕ
  pub counts : List ℕ
  pub granting : Option ℕ

abbrev pub rowed : List ℕ → List ℕ → Option ℕ → Rowed
rowed keys counts g = record { keys = keys; counts = counts; granting = g }

-- one part more under a key, where it is granted
unfoldable pub row_taken : Room → List ℕ → List ℕ → ℕ → ℕ → Rowed
row_taken room keys counts used key =
    let rows = counted keys counts used key in
    cond (granted room (take used keys) key) (rowed rows.keys rows.counts (Some rows.used))
    (rowed keys counts None)

-- a part result: it changes its session only with its row, and room, 13, is judged last
abbrev pub resulted : Rowed → ℕ → Session → Change → Option ℕ → Outcome
resulted r used s change (Some n) = told Done r.keys r.counts n (changed s change)
resulted r used s change None = told answer.NoRoom r.keys r.counts used s

unfoldable pub resulted_if : Room → Core → Change → ℕ → Outcome
resulted_if room c change key =
    let r = row_taken room c.keys c.counts c.used (row_key room.slot key) in
    resulted r c.used (session_of c) change r.granting

-- what a verdict does: what a change is, is the session's to say
unfoldable pub settled : Room → Core → Verdict → Outcome
settled room c (Refused a) = record { answer = a; core = c }
settled room c (Taken change) = told Done c.keys c.counts c.used (changed (session_of c) change)
settled room c (Wanted change key) = resulted_if room c change key

unfoldable pub delivered : Room → Core → List ℕ → Outcome
delivered room c rec = settled room c (judge c.standing c.parts rec)

-- ---- where a row is looked for first

-- Guesses are lent beside the rows: ranks at which rows stood. A guess is tested before it counts, so that no answer
-- depends on one.

-- the cell of a key: bins lie 1 apart, sites 36 and heads 1,024, so that the keys of one lot seldom share a cell
abbrev pub cell_of : ℕ → ℕ
cell_of key = (key + key * 9 / 16384) % 4096

abbrev pub noted : ℕ → List ℕ → ℕ → List ℕ → List ℕ
noted slot keys key guesses = set guesses (cell_of key) (rank (row_key slot key) keys)

-- only a part result is searched for, whether it is granted or not
unfoldable pub guessed : Room → Core → Verdict → List ℕ → List ℕ
guessed room c (Refused a) guesses = guesses
guessed room c (Taken change) guesses = guesses
guessed room c (Wanted change key) guesses = noted room.slot (take c.used c.keys) key guesses

-- ---- what is lent

-- counts are below 2^32 in a sound house
abbrev pub past_counts : ℕ
past_counts = 4_294_967_296

-- the rows of a sound house, and a slot of it
pub record LentRows (room : Room) (keys counts : List ℕ) (used : ℕ) : Type 0 where
  pub lent : Lent keys counts used
  pub slot : room.slot < 16
  pub low : all_below past_counts (take used counts) ≡ true
  pub roomy : room.others + (room.floor - held_by room.slot (take used keys)) ≤ row_count - used

-- .. with its session
pub record LentCore (room : Room) (keys counts : List ℕ) (used : ℕ) (st : Standing) (parts : List ℕ) : Type 0 where
  pub rows : LentRows room keys counts used
  pub kept : LentParts st parts
  pub cells : length parts ≡ 40

-- the keys of a sound house, a slot of it and a key with its rank
pub record Grantable (room : Room) (keys : List ℕ) (used at key : ℕ) : Type 0 where
  pub long : length keys ≡ row_count
  pub within : used ≤ row_count
  pub rises : rising (take used keys) ≡ true
  pub slot : room.slot < 16
  pub ranked : at ≡ rank key (take used keys)

-- Held bytes and a chunk behind them, delivered to one slot over lent rows. Document 02, #102.
--
--   pouring    each record, once it is whole, is delivered to the slot that sees this room
--   Lends      what is lent may be lent to a delivery, however far the walk goes
--   ends_in     how far a walk over the carry came, by the bytes that are left there
--   halted     a refused record in the carry, and what is taken of the chunk then
--   Flows, Tops, Pours   what the functions over the carry and the chunk come to
-- Assumes nothing.
use Rattle.std.specs.Prelude.{◌≡◌, Bool, true, false, cond, not, ◌&&◌, List, [], ◌++◌, ℕ, ◌+◌, ◌-◌, ◌≤◌, ◌<◌, eqb, ltb, min, length, take, drop, Option, Some, None}
use Rattle.numbers.specs.Laws.{Bytes}
use Rattle.answers.specs.declared.Answer.{Answer}
use Rattle.answers.specs.declared.Answer.TheVariants.{Done, NotOneRecord}
use Rattle.answers.specs.Numbers.{number_of}
use Rattle.session.specs.declared.Standing.{Standing}
use Rattle.house.specs.declared.Room.{Room}
use Rattle.house.specs.House.{carry_length}
use Rattle.house.specs.Deliver.{Core, core, Outcome, delivered, LentCore}
use Rattle.house.specs.Feeding.{Poured, poured}
use Rattle.cutting.specs.Needed.{longest, needed, cut}
use Rattle.cutting.specs.Walk.{Heard, Kept, Turned, Machine, Walked, Waits, Stops, walked, cutting, state_of}
use Rattle.walking.specs.declared.Stop.{Stop}
use Rattle.walking.specs.declared.Stop.TheVariants.{Refused, TooLong}
use Rattle.pouring.specs.declared.Pour.{Pour}

-- ---- the walk over what is lent

-- a record is accepted, 0, or refused
unfoldable pub heard_of : Outcome → Heard Core Answer
heard_of o = cond (eqb (number_of o.answer) 0) (Kept o.core) (Turned o.answer)

abbrev pub pouring : Room → Machine Core Answer
pouring room = cutting (λ c. c.standing) longest NotOneRecord (λ c r. heard_of (delivered room c r))

abbrev pub LentAt : Room → Core → Type 0
LentAt room c = LentCore room c.keys c.counts c.used c.standing c.parts

abbrev pub Lends : Room → Core → Type 0
Lends room c = (bytes : List ℕ) → Bytes bytes → LentAt room (state_of (walked (pouring room) (Waits c []) bytes))

-- ---- where it stands

-- no record is too long for a carry
abbrev pub reason : Stop → Answer
reason (Refused a) = a
reason TooLong = NotOneRecord

abbrev pub answer_of : Option Stop → Answer
answer_of None = Done
answer_of (Some why) = reason why

abbrev pub ends_in : Option Stop → Core → List ℕ → Walked Core Answer
ends_in None c bytes = Waits c bytes
ends_in (Some why) c bytes =
    let n = cut longest c.standing bytes in
    Stops c (take n bytes) (reason why) (drop n bytes)

abbrev pub pour_core : List ℕ → List ℕ → List ℕ → Pour → Core
pour_core keys counts parts p = core keys counts p.used p.standing parts

abbrev pub is_going : Option Stop → Bool
is_going None = true
is_going (Some why) = false

-- the carry is topped up while part of a record stands there and there is more of the chunk
abbrev pub goes_on : Pour → ℕ → Bool
goes_on p end = is_going p.fate && (not (eqb p.held 0) && ltb p.at end)

-- A refused record of so many bytes in the carry: bytes behind it that came from the chunk are not taken, and those that
-- were held before stay (`◌-◌` stops at 0).
abbrev pub halted : Pour → ℕ → Pour
halted p long =
    let n = min long p.held in
    record {
      used = p.used;
      standing = p.standing;
      fate = p.fate;
      held = n + (p.held - n - p.at);
      at = p.at - (p.held - n);
    }

-- what is held of the bytes left of a chunk ends with it, or with the refused record
abbrev pub held_to : Option Stop → Standing → List ℕ → ℕ → ℕ
held_to None st chunk from = length chunk
held_to (Some why) st chunk from = from + min (needed st (drop from chunk)) (length chunk - from)

-- ---- what the functions come to

pub record Carried (room : Room) (keys counts parts : List ℕ) (p : Pour) (carry : List ℕ) : Type 0 where
  pub lends : Lends room (pour_core keys counts parts p)
  pub within : p.held ≤ carry_length
  pub long : length carry ≡ carry_length

-- the carry is walked, and what is left of it stands at its front
pub record Flows (room : Room) (keys counts parts : List ℕ) (p : Pour) (carry ks cs ps : List ℕ) (r : Pour)
    (new : List ℕ) : Type 0 where
  pub is : ends_in r.fate (pour_core ks cs ps r) (take r.held new)
      ≡ walked (pouring room) (Waits (pour_core keys counts parts p) []) (take p.held carry)
  pub lends : Lends room (pour_core ks cs ps r)
  pub within : r.held ≤ p.held
  pub few : r.fate ≡ None → r.held < carry_length
  pub same : r.at ≡ p.at

-- bytes of the chunk are moved to the carry, and it is walked again
pub record Tops (room : Room) (c : Core) (p : Pour) (carry chunk : List ℕ) (d : Core) (r : Pour) (new : List ℕ)
    : Type 0 where
  pub is : ends_in r.fate d (take r.held new)
      ≡ walked (pouring room) (Waits c []) (take p.held carry ++ take (r.at - p.at) (drop p.at chunk))
  pub lends : Lends room d
  pub within : r.held ≤ carry_length
  pub few : r.fate ≡ None → r.held < carry_length
  pub further : p.at < r.at
  pub upto : r.at ≤ length chunk

-- all of the chunk that is taken
abbrev pub poured_as : Core → Pour → List ℕ → Poured Core
poured_as c r carry =
    record { state = c; answer = answer_of r.fate; held = take r.held carry; taken = r.at }

pub record Pours (w : Walked Core Answer) (chunk : List ℕ) (c : Core) (r : Pour) (carry : List ℕ) : Type 0 where
  pub is : poured_as c r carry ≡ poured (length chunk) w
  pub within : r.held ≤ carry_length

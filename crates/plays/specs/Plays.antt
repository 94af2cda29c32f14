-- A call as a value, played. Document 01, "The house, its slots and its rows", Calls; document 02, #102; as sequences
-- of calls have them (house/specs/History.antt, nights/specs/Night.antt).
--
--   asks      the call of a sequence that a call of the code is, with the bytes lent beside it
--   holds     what comes back, of a reply and the house after it
--   played    what comes back of a call, by what is lent as a carry
--   leaves    the bytes that are held in the carry after a feed; any other call leaves all of it as it was
--   replied   the reply that stands in what comes back
-- Assumes nothing.
use Rattle.std.specs.Prelude.{◌≡◌, List, ◌++◌, ℕ, ◌≤◌, length, take, drop}
use Rattle.house.specs.declared.House.{House}
use Rattle.house.specs.declared.Listing.{Listing}
use Rattle.house.specs.declared.Fed.{Fed}
use Rattle.house.specs.House.{row_count}
use Rattle.house.specs.Report.{no_rows}
use Rattle.house.specs.Feeding as feeding
use Rattle.house.specs.Feeding.{held_in, feed, end_feed}
use Rattle.house.specs.History as history
use Rattle.house.specs.History.{Told, Listed, Read}
use Rattle.nights.specs.Night as night
use Rattle.nights.specs.Night.{Night, held_at, Asked, Replied, Took, Ended, reply, after}
use Rattle.asked_calls.specs.declared.Call.{Call}
use Rattle.asked_calls.specs.declared.Call.TheVariants.{Open, Deliver, Report, Close, Figures, Feed, End}
use Rattle.plays.specs.declared.Played.{Played}

-- only a delivery and a feed hand bytes over
abbrev pub asks : Call → List ℕ → night.Call
asks (Open slot floor) bytes = Asked (history.Open slot floor)
asks (Deliver slot) bytes = Asked (history.Deliver slot bytes)
asks (Report slot long) bytes = Asked (history.Report slot long)
asks (Close slot) bytes = Asked (history.Close slot)
asks Figures bytes = Asked history.Figured
asks (Feed slot long) bytes = night.Feed slot long bytes
asks (End slot) bytes = night.End slot

-- what a call does not ask for is nothing: no figures, no bytes taken, and 1,024 rows of which none is listed
abbrev pub holds : history.Reply → House → Played
holds (Told answer) h =
    record { answer = answer; free = 0; promised = 0; count = 0; taken = 0; rows = no_rows; house = h }
holds (Listed answer rows) h =
    record {
      answer = answer;
      free = 0;
      promised = 0;
      count = length rows;
      taken = 0;
      rows = rows ++ drop (length rows) no_rows;
      house = h;
    }
holds (Read found) h =
    record {
      answer = found.answer;
      free = found.free;
      promised = found.promised;
      count = 0;
      taken = 0;
      rows = no_rows;
      house = h;
    }

-- a report by value, and the house that it is of
abbrev pub listed_as : Listing → House → Played
listed_as list h =
    record {
      answer = list.reported.answer;
      free = 0;
      promised = 0;
      count = list.reported.rows;
      taken = 0;
      rows = list.rows;
      house = h;
    }

-- what a feed gives back
abbrev pub fed_as : Fed → Played
fed_as f =
    record {
      answer = f.answer;
      free = 0;
      promised = 0;
      count = 0;
      taken = f.taken;
      rows = no_rows;
      house = f.house;
    }

-- .. beside the bytes that are held
abbrev pub took : feeding.Feed → Played
took f = fed_as (record { answer = f.answer; taken = f.taken; house = f.house })

-- how long the carry is, what is lent says, and not the call
unfoldable pub played : House → List ℕ → night.Call → Played
played h carry (Asked call) = holds (history.reply h call) (history.after h call)
played h carry (night.Feed slot long chunk) = took (feed h slot carry chunk)
played h carry (night.End slot) = holds (Told (end_feed h slot)) h

-- ---- what is left in the carry

-- what counts of it after a call: of a feed the bytes that the house says are held, and else all
abbrev pub held_by : Call → House → List ℕ → List ℕ
held_by (Open slot floor) h carry = carry
held_by (Deliver slot) h carry = carry
held_by (Report slot long) h carry = carry
held_by (Close slot) h carry = carry
held_by Figures h carry = carry
held_by (Feed slot long) h carry = held_in h slot carry
held_by (End slot) h carry = carry

abbrev pub leaves : House → List ℕ → Call → List ℕ → List ℕ
leaves h carry (Open slot floor) bytes = carry
leaves h carry (Deliver slot) bytes = carry
leaves h carry (Report slot long) bytes = carry
leaves h carry (Close slot) bytes = carry
leaves h carry Figures bytes = carry
leaves h carry (Feed slot long) bytes = (feed h slot carry bytes).held
leaves h carry (End slot) bytes = carry

-- ---- what is shown of it

-- the reply that stands in what comes back: which of it counts, the call says
abbrev pub replied_in : history.Call → Played → history.Reply
replied_in (history.Open slot floor) p = Told p.answer
replied_in (history.Deliver slot rec) p = Told p.answer
replied_in (history.Report slot long) p = Listed p.answer (take p.count p.rows)
replied_in (history.Close slot) p = Told p.answer
replied_in history.Figured p = Read (record { answer = p.answer; free = p.free; promised = p.promised })

abbrev pub replied : night.Call → Played → night.Reply
replied (Asked call) p = Replied (replied_in call p)
replied (night.Feed slot long chunk) p = Took p.answer p.taken
replied (night.End slot) p = Ended p.answer

-- a carry is lent to a feed as long as the call says, and begins with the bytes that its slot's last feed left
abbrev pub Lent : Night → night.Call → List ℕ → Type 0
Lent n (Asked call) carry = Unit
Lent n (night.Feed slot long chunk) carry = (long ≡ length carry) × (held_in n.house slot carry ≡ held_at n slot)
Lent n (night.End slot) carry = Unit

-- a call's reply stands in what comes back, and so does the house after it
abbrev pub RepliedPlayed : Type 0
RepliedPlayed = (n : Night) (call : night.Call) (carry : List ℕ) → Lent n call carry
    → replied call (played n.house carry call) ≡ reply n call

abbrev pub AfterPlayed : Type 0
AfterPlayed = (n : Night) (call : night.Call) (carry : List ℕ) → Lent n call carry
    → (played n.house carry call).house ≡ (after n call).house

-- .. and no more rows are listed than there are
abbrev pub PlayedFew : Type 0
PlayedFew = (h : House) (carry : List ℕ) (call : night.Call) → (played h carry call).count ≤ row_count

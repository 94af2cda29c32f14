-- The book of a slot: what calls and their answers tell of it, in the words of document 01. No definition here looks at
-- a house, a session or a row's key.
--
--   Part               an open part: a head and a site, or an open wafer: a head and a site group; is_open, without,
--                      whether one is open, and those without it; on_head, whether one is open on a head
--   smallest_of         the smallest head and site of open parts, in the order of a report
--   Book               open or not, its floor, its place in the stream, its byte order, its open parts, whether a PCR
--                      was accepted, its accepted part results, the last first, its open wafers
--   noted              .. after one more accepted record; said_in, what such a record says; results_in, is_pcr, on_parts,
--                      on_wafers, what that makes of a book; open_after, which parts or wafers are open after it
--   heard              .. after one more call and its answer
--   book_of             .. after all of a history
--   rows_in             how many rows its tally has
--   free_by, promised_by free and promised, by the books of all slots
-- Assumes nothing.
use Rattle.std.specs.Prelude.{ℕ, zero, suc, ◌+◌, ◌-◌, Bool, true, false, cond, ◌&&◌, ◌||◌, List, [], ◌∷◌, ◌++◌, eqb, ltb, length, Option, Some, None}
use Rattle.numbers.specs.declared.Order.{Order}
use Rattle.numbers.specs.declared.Order.TheVariants.{HighFirst}
use Rattle.kinds.specs.declared.Kind.{Kind}
use Rattle.kinds.specs.Kinds.{kind_of}
use Rattle.frames.specs.Frames.{rec_typ, rec_sub, body}
use Rattle.part_bodies.specs.declared.Prr.{Prr}
use Rattle.bodies.specs.declared.Record.{Record}
use Rattle.bodies.specs.declared.Record.TheVariants as said
use Rattle.bodies.specs.Bodies.{read_body, said_of}
use Rattle.order.specs.declared.Place.{Place}
use Rattle.order.specs.declared.Place.TheVariants.{Start}
use Rattle.order.specs.Order.{goes, place_after}
use Rattle.session.specs.Session.{is_start}
use Rattle.first_record.specs.First.{order_in}
use Rattle.rows.specs.Rows.{slot_count}
use Rattle.house.specs.House.{row_count}
use Rattle.house.specs.History.{Call, Open, Deliver, Report, Close, Figured, Said, names}
use Rattle.house.specs.Tally.{is_done}
use Rattle.tallies.specs.Results.{PartResult, tally_of}

-- ---- open parts and open wafers

-- #103: a wafer is told as a part is, by its head and, in place of a site, its site group
pub record Part : Type 0 where
  pub head : ℕ
  pub site : ℕ

abbrev pub part : ℕ → ℕ → Part
part head site = record { head = head; site = site }

abbrev pub is_at : ℕ → ℕ → Part → Bool
is_at head site p = eqb p.head head && eqb p.site site

unfoldable pub is_open : List Part → ℕ → ℕ → Bool
is_open [] head site = false
is_open (p ∷ ps) head site = is_at head site p || is_open ps head site

unfoldable pub without : ℕ → ℕ → List Part → List Part
without head site [] = []
without head site (p ∷ ps) = cond (is_at head site p) (without head site ps) (p ∷ without head site ps)

-- #103: one wafer a head
unfoldable pub on_head : List Part → ℕ → Bool
on_head [] head = false
on_head (w ∷ ws) head = eqb w.head head || on_head ws head

-- #101: in rising order of head, then site
abbrev pub precedes : Part → Part → Bool
precedes p q = ltb p.head q.head || (eqb p.head q.head && ltb p.site q.site)

unfoldable pub least_of : Part → List Part → Part
least_of p [] = p
least_of p (q ∷ qs) = let least = least_of q qs in cond (precedes p least) p least

abbrev pub smallest_of : List Part → Option (ℕ × ℕ)
smallest_of [] = None
smallest_of (p ∷ ps) = let least = least_of p ps in Some (least.head, least.site)

-- ---- the book

pub record Book : Type 0 where
  pub opened : Bool
  pub floor : ℕ
  pub place : Place
  pub order : Order
  pub parts : List Part
  pub pcr : Bool
  pub results : List PartResult
  pub wafers : List Part

abbrev pub book : Bool → ℕ → Book
book opened floor =
    record {
      opened = opened;
      floor = floor;
      place = Start;
      order = HighFirst;
      parts = [];
      pcr = false;
      results = [];
      wafers = [];
    }

-- a closed slot holds nothing; a slot opened starts anew
abbrev pub nothing : Book
nothing = book false 0

abbrev pub opened_with : ℕ → Book
opened_with floor = book true floor

-- ---- an accepted record

abbrev pub kind_in : List ℕ → Kind
kind_in rec = kind_of (rec_typ rec) (rec_sub rec)

-- what it says in the byte order of its stream; the first of a stream tells that order, and no more
abbrev pub said_in : Book → List ℕ → Record
said_in b rec = cond (is_start b.place) said.Unread (said_of (read_body b.order (kind_in rec) (body rec)))

abbrev pub as_result : Prr → PartResult
as_result p = record { head = p.head; site = p.site; bin = p.bin }

-- every accepted PRR counts as one part, and no other record does
abbrev pub results_in : Record → List PartResult
results_in (said.Prr p) = as_result p ∷ []
results_in (said.Far f) = []
results_in said.Mir = []
results_in said.Mrr = []
results_in (said.Pcr p) = []
results_in (said.Bin b) = []
results_in (said.Pir p) = []
results_in (said.Wir w) = []
results_in (said.Wrr w) = []
results_in said.Unread = []

-- what an accepted record is to the open parts, or to the open wafers: it opens one, closes one, or neither
pub data Effect : Type 0 where
  Opening : ℕ → ℕ → Effect
  Closing : ℕ → ℕ → Effect
  Neither : Effect

-- PIR opens (head, site), PRR closes it
abbrev pub on_parts : Record → Effect
on_parts (said.Pir p) = Opening p.head p.site
on_parts (said.Prr p) = Closing p.head p.site
on_parts (said.Wir w) = Neither
on_parts (said.Wrr w) = Neither
on_parts (said.Far f) = Neither
on_parts said.Mir = Neither
on_parts said.Mrr = Neither
on_parts (said.Pcr p) = Neither
on_parts (said.Bin b) = Neither
on_parts said.Unread = Neither

-- #103: WIR opens the wafer of its head and site group, WRR closes it; wafers and parts are not tied to each other
abbrev pub on_wafers : Record → Effect
on_wafers (said.Wir w) = Opening w.head w.group
on_wafers (said.Wrr w) = Closing w.head w.group
on_wafers (said.Pir p) = Neither
on_wafers (said.Prr p) = Neither
on_wafers (said.Far f) = Neither
on_wafers said.Mir = Neither
on_wafers said.Mrr = Neither
on_wafers (said.Pcr p) = Neither
on_wafers (said.Bin b) = Neither
on_wafers said.Unread = Neither

abbrev pub open_after : Effect → List Part → List Part
open_after (Opening head site) ps = part head site ∷ ps
open_after (Closing head site) ps = without head site ps
open_after Neither ps = ps

abbrev pub is_pcr : Record → Bool
is_pcr (said.Pcr p) = true
is_pcr (said.Far f) = false
is_pcr said.Mir = false
is_pcr said.Mrr = false
is_pcr (said.Bin b) = false
is_pcr (said.Pir p) = false
is_pcr (said.Prr p) = false
is_pcr (said.Wir w) = false
is_pcr (said.Wrr w) = false
is_pcr said.Unread = false

-- its kind takes the stream to its next place, the first one tells the byte order, and each says what it says
abbrev pub noted : List ℕ → Book → Book
noted rec b =
    let r = said_in b rec in
    record {
      opened = b.opened;
      floor = b.floor;
      place = place_after (goes b.place (kind_in rec));
      order = cond (is_start b.place) (order_in rec) b.order;
      parts = open_after (on_parts r) b.parts;
      pcr = is_pcr r || b.pcr;
      results = results_in r ++ b.results;
      wafers = open_after (on_wafers r) b.wafers;
    }

-- ---- calls and their answers

-- what a call that is done tells of the slot that it names
abbrev pub done_by : Call → Book → Book
done_by (Open slot floor) b = opened_with floor
done_by (Deliver slot rec) b = noted rec b
done_by (Report slot long) b = b
done_by (Close slot) b = nothing
done_by Figured b = b

-- a refusal tells nothing, nor does a call that names another slot
abbrev pub heard : ℕ → Said → Book → Book
heard slot e b = cond (names slot e.call && is_done e) (done_by e.call b) b

abbrev pub heard_from : ℕ → List Said → Book → Book
heard_from slot [] b = b
heard_from slot (e ∷ es) b = heard_from slot es (heard slot e b)

abbrev pub book_of : ℕ → List Said → Book
book_of slot es = heard_from slot es nothing

-- ---- the rooms

-- the rows that a session holds are those of its tally
abbrev pub rows_in : Book → ℕ
rows_in b = length (tally_of b.results)

-- floor less rows held, of an open slot: `◌-◌` stops at 0
abbrev pub owed : Book → ℕ
owed b = cond b.opened (b.floor - rows_in b) 0

-- the sum over n slots from one on
abbrev pub over : (Book → ℕ) → ℕ → ℕ → List Said → ℕ
over f zero slot es = 0
over f (suc n) slot es = f (book_of slot es) + over f n (suc slot) es

-- Free is 1,024 less all rows held
abbrev pub free_by : List Said → ℕ
free_by es = row_count - over rows_in slot_count 0 es

-- Promised is the sum, over open slots, of floor less rows held where that is above zero
abbrev pub promised_by : List Said → ℕ
promised_by es = over owed slot_count 0 es
